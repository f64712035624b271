-- References: the cells that words name, and the words that they reach.
use Rattle.std.specs.Prelude.{ℕ, ◌+◌, ◌-◌, ◌==◌, nat_le, if◌then◌else◌, Option, Some, None}
use Rattle.b67_word.specs.declared.Place.{Place}
use Rattle.b67_word.specs.Word.{Word}
use Rattle.b67_control.specs.declared.Registers.{Registers}
use Rattle.b67_control.specs.declared.Irw.{Irw}
use Rattle.b67_control.specs.declared.Sirw.{Sirw}
use Rattle.b67_control.specs.Control.{as_irw, as_sirw, sirw_word}
use Rattle.b67_table.specs.declared.Cell.{Cell}
use Rattle.b67_table.specs.declared.Reached.{Reached}
use Rattle.b67_table.specs.declared.InterruptKind.TheVariants.{InvalidOperand, StackUnderflow}
use Rattle.b67_table.specs.Private.{display_at, floor}
use Rattle.b67_table.specs.Look.{Look, found, stops, at, ◌>->◌, valid}
use Rattle.b67_table.specs.Chains.{place}

abbrev pub invalid : {A : Type 0} → Look A
invalid = stops InvalidOperand

-- where a cell lies
abbrev pub cell_place : Cell → Place
cell_place c = place c.frame.stack (c.frame.at + c.index)

-- the reference to a cell, wherever it is read
abbrev pub cell_word : Cell → Word
cell_word c = sirw_word (record { stack = c.frame.stack; displacement = c.frame.at; index = c.index })

abbrev pub cell_in : Option Place → ℕ → Option Cell
cell_in None index = None
cell_in (Some frame) index = Some (record { frame = frame; index = index })

-- the cell that a couple names
abbrev pub couple_cell : Registers → ℕ → ℕ → Option Cell
couple_cell r level index = cell_in (display_at r level) index

abbrev pub sirw_cell : Sirw → Cell
sirw_cell s = record { frame = place s.stack s.displacement; index = s.index }

abbrev pub irw_or_sirw : Registers → Option Irw → Option Sirw → Option Cell
irw_or_sirw r (Some i) s = couple_cell r i.level i.index
irw_or_sirw r None (Some s) = Some (sirw_cell s)
irw_or_sirw r None None = None

-- the cell that a word names, where it is a reference
abbrev pub cell_of : Registers → Word → Option Cell
cell_of r w = irw_or_sirw r (as_irw w) (as_sirw w)

-- ---- what is reached

abbrev pub reached_in : Cell → Option Word → Look Reached
reached_in c None = invalid
reached_in c (Some w) = found (record { word = w; cell = c })

-- the word in the cell that a reference names
abbrev pub named : Option Cell → Look Reached
named None = invalid
named (Some c) = at (cell_place c) (reached_in c)

abbrev pub no_second : Option Sirw → Reached → Look Reached
no_second None w = found w
no_second (Some s) w = invalid

abbrev pub one_sirw : Option Sirw → Reached → Look Reached
one_sirw None w = found w
one_sirw (Some s) w = named (Some (sirw_cell s)) >-> (λ (v : Reached). no_second (as_sirw v.word) v)

-- the word that a reference reaches: through one SIRW at most
abbrev pub reached : Option Cell → Look Reached
reached c = named c >-> (λ (w : Reached). one_sirw (as_sirw w.word) w)

-- ---- words on top

-- so many words lie at the floor or above
abbrev pub need : Registers → ℕ → Look Word → Look Word
need r n next = if nat_le (floor r + n) r.s then next else stops StackUnderflow

-- the n-th word from the top, n from 0
abbrev pub from_top : Registers → ℕ → Look Word
from_top r n = at (place r.stack (r.s - (n + 1))) (λ (w : Option Word). valid w)

-- the word on top
abbrev pub popped : Registers → Look Word
popped r = need r 1 (from_top r 0)

pub record Two : Type 0 where
  pub x : Word
  pub y : Word

-- the word on top, and the one under it
abbrev pub popped_two : Registers → Look Two
popped_two r = need r 2 (from_top r 0) >-> (λ (x : Word). from_top r 1 >-> (λ (y : Word). found (record { x = x; y = y })))

-- an operand
abbrev pub operand_in : Word → Look Word
operand_in w = if w.tag == 0 then found w else invalid
