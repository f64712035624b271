-- What an operator of a process reaches: cells, frames, words, rows and events. An operator names a cell by its couple or by a word that
-- it takes from its own stack; a reference in a cell leads to a further one. The display, the cells of procedures and the marks lead to frames,
-- descriptors lead to rows.
use Rattle.std.specs.Prelude.{◌≡◌, ◌⊎◌, ℕ, ◌+◌, ◌-◌, ◌<◌, ◌≤◌, true, Some, None, slice_get}
use Rattle.b67_word.specs.declared.Place.{Place}
use Rattle.b67_word.specs.Word.{Word}
use Rattle.b67_control.specs.declared.Registers.{Registers}
use Rattle.b67_control.specs.declared.Descriptor.{Descriptor}
use Rattle.b67_control.specs.declared.Mscw.{Mscw}
use Rattle.b67_control.specs.declared.Pcw.{Pcw}
use Rattle.b67_control.specs.declared.Sirw.{Sirw}
use Rattle.b67_control.specs.Control.{as_sirw, as_mscw, as_pcw, as_descriptor}
use Rattle.b67_ops.specs.declared.Couple.{Couple}
use Rattle.b67_ops.specs.declared.Operator.{Operator}
use Rattle.b67_ops.specs.declared.Operator.TheVariants as ops
use Rattle.b67_ops.specs.declared.PlainKind.{PlainKind}
use Rattle.b67_ops.specs.declared.PlainKind.TheVariants as kinds
use Rattle.b67_store.specs.Store.{word_at, row_at, row_words}
use Rattle.b67_table.specs.declared.Cell.{Cell}
use Rattle.b67_table.specs.Image.{Image, critical_of}
use Rattle.b67_table.specs.Private.{display_at}
use Rattle.b67_table.specs.Chains.{place, link_of}
use Rattle.b67_table.specs.References.{cell_place, couple_cell, sirw_cell, cell_of}
use Rattle.b67_table.specs.Rows.{level_below}

-- ---- cells

-- The displacement in its own stack of the word by which an operator names a cell: the top word, the one under it where the top word is
-- stored, and for ENTR the one above the mark at F.
abbrev pub TakesBy : PlainKind → Registers → ℕ → Type 0
TakesBy kinds.Load r n = n ≡ r.s - 1
TakesBy kinds.Lodt r n = n ≡ r.s - 1
TakesBy kinds.Eval r n = n ≡ r.s - 1
TakesBy kinds.Indx r n = n ≡ r.s - 1
TakesBy kinds.Nxlv r n = n ≡ r.s - 1
TakesBy kinds.Nxln r n = n ≡ r.s - 1
TakesBy kinds.Stod r n = n ≡ r.s - 2
TakesBy kinds.Ston r n = n ≡ r.s - 2
TakesBy kinds.Entr r n = n ≡ r.f + 1
TakesBy _ r n = ⊥

abbrev pub OperatorTakes : Operator → Registers → ℕ → Type 0
OperatorTakes (ops.Plain kind) r n = TakesBy kind r n
OperatorTakes _ r n = ⊥

-- it goes on where the cell that it names holds a reference: all but LODT, STOD and STON do
abbrev pub OperatorFollows : Operator → Type 0
OperatorFollows (ops.Plain kinds.Lodt) = ⊥
OperatorFollows (ops.Plain kinds.Stod) = ⊥
OperatorFollows (ops.Plain kinds.Ston) = ⊥
OperatorFollows _ = Unit {0}

-- the control word of an intrinsic
abbrev pub IsIntrinsic : Word → Type 0
IsIntrinsic w = (c : Pcw) × (as_pcw w ≡ Some c) × (c.intrinsic ≡ true)

-- the operator names the cell
pub data NamesCell (img : Image) (op : Operator) (r : Registers) : Cell → Type 0 where
  -- by its couple
  by_couple : {c : Cell} (couple : Couple) → op ≡ ops.Valc couple → couple_cell r couple.level couple.index ≡ Some c → NamesCell img op r c
  -- by a word that it takes
  by_word : {c : Cell} (n : ℕ) (w : Word) → OperatorTakes op r n → word_at img.stacks (place r.stack n) ≡ Some w → cell_of r w ≡ Some c
      → NamesCell img op r c
  -- by a reference in a cell that it names
  by_reference : {b : Cell} (w : Word) (s : Sirw) → OperatorFollows op → NamesCell img op r b → word_at img.stacks (cell_place b) ≡ Some w → as_sirw w ≡ Some s
      → NamesCell img op r (sirw_cell s)
  -- by an argument of an intrinsic that is entered, whose control word stands above the mark at F
  by_argument : {c : Cell} (v w : Word) (n : ℕ) → op ≡ ops.Plain kinds.Entr → word_at img.stacks (place r.stack (r.f + 1)) ≡ Some v → IsIntrinsic v
      → r.f + 1 < n → word_at img.stacks (place r.stack n) ≡ Some w → cell_of r w ≡ Some c → NamesCell img op r c
  -- or in a cell that is named
  by_its_argument : {b c : Cell} (v w : Word) (n : ℕ) → op ≡ ops.Plain kinds.Entr → NamesCell img op r b → word_at img.stacks (cell_place b) ≡ Some v
      → IsIntrinsic v → r.f + 1 < n → word_at img.stacks (place r.stack n) ≡ Some w → cell_of r w ≡ Some c → NamesCell img op r c

-- ---- frames

-- the operator is led to a mark, or to where one is to stand
pub data OperatorLeadsTo (img : Image) (op : Operator) (r : Registers) : Place → Type 0 where
  -- in its own stack
  own : {f : Place} → f.stack ≡ r.stack → OperatorLeadsTo img op r f
  -- by the display, at a level from 2 to its own
  shown : {f : Place} (level : ℕ) → 2 ≤ level → level ≤ r.ll → display_at r level ≡ Some f → OperatorLeadsTo img op r f
  -- by the control word of a procedure above the mark at F: to the frame that the display names around the procedure
  around : {f : Place} (w : Word) (pcw : Pcw) → op ≡ ops.Plain kinds.Entr → word_at img.stacks (place r.stack (r.f + 1)) ≡ Some w → as_pcw w ≡ Some pcw
      → level_below r pcw.level ≡ Some f → OperatorLeadsTo img op r f
  -- by the control word of a procedure in a cell that it names: to the frame in which that cell lies
  home : (c : Cell) (w : Word) (pcw : Pcw) → NamesCell img op r c → word_at img.stacks (cell_place c) ≡ Some w → as_pcw w ≡ Some pcw
      → OperatorLeadsTo img op r c.frame
  -- by the static link of a mark, and by its distance to the mark below it
  linked : (f : Place) (w : Word) (m : Mscw) → OperatorLeadsTo img op r f → word_at img.stacks f ≡ Some w → as_mscw w ≡ Some m → OperatorLeadsTo img op r (link_of m)
  lower : (f : Place) (w : Word) (m : Mscw) → OperatorLeadsTo img op r f → word_at img.stacks f ≡ Some w → as_mscw w ≡ Some m
      → OperatorLeadsTo img op r (place f.stack (f.at - m.df))
  -- by the critical place of the process whose stack it is
  depends : {c : Place} (f : Place) → OperatorLeadsTo img op r f → critical_of img.regs f.stack ≡ Some c → OperatorLeadsTo img op r c

-- ---- words

-- the word at a place is in its own stack, in a cell that it names, or is a mark or the control word above one to which it is led
pub data OperatorReaches (img : Image) (op : Operator) (r : Registers) : Place → Type 0 where
  own_word : {x : Place} → x.stack ≡ r.stack → OperatorReaches img op r x
  cell_word : (c : Cell) → NamesCell img op r c → OperatorReaches img op r (cell_place c)
  mark : {f : Place} → OperatorLeadsTo img op r f → OperatorReaches img op r f
  control : (f : Place) → OperatorLeadsTo img op r f → OperatorReaches img op r (place f.stack (f.at + 1))

-- ---- rows

-- the row is described by a word in its own stack, in a cell that it names, or in a row so described; or none is open under the number
pub data ReachesRow (img : Image) (op : Operator) (r : Registers) : ℕ → Type 0 where
  from_stack : (n : ℕ) (w : Word) (d : Descriptor) → word_at img.stacks (place r.stack n) ≡ Some w → as_descriptor w ≡ Some d → ReachesRow img op r d.address
  from_cell : (c : Cell) (w : Word) (d : Descriptor) → NamesCell img op r c → word_at img.stacks (cell_place c) ≡ Some w → as_descriptor w ≡ Some d
      → ReachesRow img op r d.address
  from_row : (n k : ℕ) (w : Word) (d : Descriptor) → ReachesRow img op r n → slice_get (row_words img.rows n) k ≡ Some w → as_descriptor w ≡ Some d
      → ReachesRow img op r d.address
  free : {n : ℕ} → row_at img.rows n ≡ None → ReachesRow img op r n

-- ---- events

-- the event lies in a cell that it names, or is that of the process's task
abbrev pub ReachesEvent : Image → Operator → Registers → Place → Type 0
ReachesEvent img op r x = ((c : Cell) × NamesCell img op r c × (x ≡ cell_place c)) ⊎ (r.task ≡ Some x)
