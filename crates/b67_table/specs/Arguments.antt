-- The arguments of intrinsics, what they must be, and how an intrinsic ends.
use Rattle.std.specs.Prelude.{ℕ, ◌+◌, ◌-◌, nat_le, Bool, true, false, if◌then◌else◌, ℤ, pos, negsuc, List, [], ◌∷◌, length, Option, Some, None}
use Rattle.b67_word.specs.declared.Place.{Place}
use Rattle.b67_word.specs.Word.{Word, as_whole}
use Rattle.b67_control.specs.declared.Registers.{Registers}
use Rattle.b67_control.specs.declared.Mscw.{Mscw}
use Rattle.b67_control.specs.Control.{as_event}
use Rattle.b67_table.specs.declared.Cell.{Cell}
use Rattle.b67_table.specs.declared.Reached.{Reached}
use Rattle.b67_table.specs.declared.InterruptKind.TheVariants.{InvalidOperand}
use Rattle.b67_segment.specs.declared.code.Code.{Code}
use Rattle.b67_table.specs.Look.{Look, found, ◌>->◌, valid}
use Rattle.b67_table.specs.Chains.{place, chain_broken, mark_at}
use Rattle.b67_table.specs.References.{cell_place, cell_of, reached, invalid}
use Rattle.b67_table.specs.Program.{Test, answer, interrupt, test_is_event, ◌>>=◌, see, Change, done, cut, registers, Program}
use Rattle.b67_table.specs.Moves.{pushed}

-- ---- whole numbers

abbrev pub arguments_joined : Option ℤ → Option (List ℤ) → Option (List ℤ)
arguments_joined None zs = None
arguments_joined (Some z) None = None
arguments_joined (Some z) (Some zs) = Some (z ∷ zs)

-- the whole numbers that words are read as, where each is one
abbrev pub wholes_in : List Word → Option (List ℤ)
wholes_in [] = Some []
wholes_in (w ∷ words) = arguments_joined (as_whole w) (wholes_in words)

abbrev pub wholes : List Word → Look (List ℤ)
wholes words = valid (wholes_in words)

-- a number from 0 to a greatest one
abbrev pub argument_number_in : ℤ → ℕ → Option ℕ
argument_number_in (pos n) most = if nat_le n most then Some n else None
argument_number_in (negsuc n) most = None

-- ---- events

abbrev pub if_open : Bool → Cell → Test Cell
if_open true c = answer c
if_open false c = interrupt InvalidOperand

abbrev pub reached_event_in : Reached → Test Cell
reached_event_in w = see (valid (as_event w.word)) >>= (λ e. test_is_event (cell_place w.cell) (λ (there : Bool). if_open there w.cell))

-- the cell of an open event, which a reference reaches
abbrev pub event_of : Registers → Word → Test Cell
event_of r w = see (reached (cell_of r w)) >>= reached_event_in

-- the places of open events, which references reach, one for each word
abbrev pub events_of : Registers → List Word → Test (List Place)
events_of r [] = answer []
events_of r (w ∷ words) = event_of r w >>= (λ (c : Cell). events_of r words >>= (λ (places : List Place). answer (cell_place c ∷ places)))

-- ---- the mark at F

-- a mark stands where the one at F says that one stands
abbrev pub if_chained : Registers → Mscw → Program → Program
if_chained r m next = see (if nat_le m.df r.f then mark_at (place r.stack (r.f - m.df)) else chain_broken) >>= (λ (lower : Mscw). next)

-- all from the mark at F on gives way to these words, and the pointer is at a place
abbrev pub finished_at : Registers → Mscw → List Word → ℕ → Change
finished_at r m words pointer =
    cut r.stack r.f (pushed r.stack words (registers (record r { s = r.f + length words; f = r.f - m.df; place = pointer }) done))

-- ---- what an intrinsic is given

-- what an intrinsic does, given: the code, the registers, the place after the operator, the mark at F, the words above the procedure's
abbrev pub IntrinsicRow : Type 0
IntrinsicRow = Code → Registers → ℕ → Mscw → List Word → Program

-- such arguments are not an operator's
abbrev pub no_such : {A : Type 0} → Test A
no_such = interrupt InvalidOperand

-- the arguments are three whole numbers
pub record Three : Type 0 where
  pub first : ℤ
  pub second : ℤ
  pub third : ℤ

abbrev pub three_in : List ℤ → Look Three
three_in (a ∷ b ∷ c ∷ []) = found (record { first = a; second = b; third = c })
three_in zs = invalid

abbrev pub three : List Word → Look Three
three words = wholes words >-> three_in
