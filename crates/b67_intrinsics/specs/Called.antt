-- An intrinsic where it is called: its arguments above the mark at F, and its program.
use Rattle.std.specs.Prelude.{◌≡◌, ℕ, ◌+◌, ◌-◌, ◌≤◌, nat_le, if◌then◌else◌, ℤ, List, [], ◌∷◌, take, drop, Option, Some, None, Result, Ok, Err}
use Rattle.b67_list.specs.Numbered.{set_numbered}
use Rattle.b67_events.specs.declared.Took.{Took}
use Rattle.b67_events.specs.declared.Took.TheVariants.{Went, Waits}
use Rattle.b67_table.specs.declared.ProcessState.{ProcessState}
use Rattle.b67_word.specs.Word.{Word, as_whole}
use Rattle.b67_control.specs.declared.Registers.{Registers}
use Rattle.b67_control.specs.declared.Mscw.{Mscw}
use Rattle.b67_segment.specs.declared.code.Code.{Code}
use Rattle.b67_store.specs.Store.{Stacks, Rows, words_of, row_at}
use Rattle.b67_table.specs.declared.InterruptKind.{InterruptKind}
use Rattle.b67_table.specs.declared.InterruptKind.TheVariants.{InvalidOperand}
use Rattle.b67_table.specs.Arguments.{IntrinsicRow, Three, no_such, event_of, events_of, wholes_in, if_chained, finished_at}
use Rattle.b67_table.specs.Chains.{place, chain_broken, mark_at}
use Rattle.b67_table.specs.Image.{Image}
use Rattle.b67_table.specs.Look.{Look}
use Rattle.b67_table.specs.References.{cell_place}
use Rattle.b67_table.specs.declared.Cell.{Cell}
use Rattle.b67_word.specs.declared.Place.{Place}
use Rattle.b67_table.specs.Intrinsics.{if_several}
use Rattle.b67_table.specs.Outcome.{gives}
use Rattle.b67_table.specs.Program.{Program, loads, asked, answer, ◌>>=◌}
use Rattle.b67_reach.specs.declared.Stop.{Stop}
use Rattle.b67_reach.specs.declared.Stop.TheVariants.{Interrupt}
use Rattle.b67_reach.specs.Answers.{IsReady, ProgramActs, whole_outcome, stopped}
use Rattle.b67_intrinsics.specs.declared.hindrance.Hindrance.{Hindrance}
use Rattle.b67_intrinsics.specs.declared.hindrance.Hindrance.TheVariants.{Stopped, NoMemory}

-- ---- the arguments

-- the words above the procedure's, which stands above the mark at F
abbrev pub arguments : Stacks → Registers → List Word
arguments stacks r = take (r.s - (r.f + 2)) (drop (r.f + 2) (words_of stacks r.stack))

-- the only one of them
abbrev pub only : List Word → Result Word Stop
only (w ∷ []) = Ok w
only ws = Err (Interrupt InvalidOperand)

-- the whole number that a word is read as
abbrev pub whole_answer : Option ℤ → Result ℤ Stop
whole_answer None = Err (Interrupt InvalidOperand)
whole_answer (Some z) = Ok z

abbrev pub whole_in : Option Word → Result ℤ Stop
whole_in None = Err (Interrupt InvalidOperand)
whole_in (Some w) = whole_answer (as_whole w)

-- three whole numbers as a triple
abbrev pub as_triple : Result Three InterruptKind → Result (ℤ × ℤ × ℤ) InterruptKind
as_triple (Ok z) = Ok (z.first, z.second, z.third)
as_triple (Err kind) = Err kind

-- why the arguments are not read as whole numbers: one of them is none, or there is no memory
abbrev pub WholesFail : List Word → Hindrance → Type 0
WholesFail words (Stopped stop) = (stop ≡ Interrupt InvalidOperand) × (wholes_in words ≡ None)
WholesFail words NoMemory = Unit {0}

-- the mark below the one at F
abbrev pub mark_below : Registers → Mscw → Look Mscw
mark_below r m = if nat_le m.df r.f then mark_at (place r.stack (r.f - m.df)) else chain_broken

-- ---- the program

-- the intrinsic's program in a process with these registers, after whose operator the pointer is at `next`, and whose mark at F is `m`
abbrev pub intrinsic_called : IntrinsicRow → Code → Registers → ℕ → Mscw → Program
intrinsic_called row code r next m = loads (place r.stack (r.f + 2)) (r.s - (r.f + 2)) (λ (words : List Word). row code r next m words)

abbrev pub called_in : IntrinsicRow → Code → Option Registers → ℕ → Mscw → Program
called_in row code None next m = no_such
called_in row code (Some r) next m = intrinsic_called row code r next m

-- a process has its mark at F and a procedure's word above it
abbrev pub IsCalled : Stacks → Option Registers → Type 0
IsCalled stacks None = ⊥
IsCalled stacks (Some r) = IsReady stacks r × (r.f + 2 ≤ r.s)

-- ---- tests that lead to a program

-- the tests find a value and go on with it, or they are stopped
abbrev pub IntrinsicLeads : {A : Type 0} → Image → ((A → Program) → Program) → Result A Stop → Type 0
IntrinsicLeads {A = A} img tests (Ok a) = (next : A → Program) → asked img (tests next) ≡ asked img (next a)
IntrinsicLeads {A = A} img tests (Err stop) = (p : ℕ) (next : A → Program) → ProgramActs {A = Unit {0}} p (tests next) img img (Err stop)

-- the tests of an intrinsic whose argument is an event
abbrev pub event_tests : Registers → Mscw → List Word → (Place → Program) → Program
event_tests r m (w ∷ []) next = event_of r w >>= (λ (c : Cell). if_chained r m (next (cell_place c)))
event_tests r m [] next = no_such
event_tests r m (w ∷ v ∷ words) next = no_such

-- a reference reaches an open event at this place, in a process with these registers, or it is stopped so
abbrev pub TellsPlace : Image → Registers → Option Word → Result Place Stop → Type 0
TellsPlace img r None res = ⊥
TellsPlace img r (Some w) (Ok at) = (c : Cell) × (whole_outcome (asked img (event_of r w)) ≡ gives c) × (at ≡ cell_place c)
TellsPlace img r (Some w) (Err stop) = whole_outcome (asked img (event_of r w)) ≡ stopped stop

-- the tests of a wait for several events, which go on with the places of all
abbrev pub several_tests : Registers → Mscw → List Word → (List Place → Program) → Program
several_tests r m words next = if_several words (events_of r words >>= (λ (places : List Place). if_chained r m (next places)))

-- the first of some places, so many, or what stops the tests
abbrev pub these : Result ℕ Stop → List Place → Result (List Place) Stop
these (Ok n) places = Ok (take n places)
these (Err stop) places = Err stop

-- how an intrinsic ends in a process
abbrev pub finished_in : Option Registers → Mscw → List Word → ℕ → Program
finished_in None m words pointer = no_such
finished_in (Some r) m words pointer = answer (finished_at r m words pointer)

-- the mark at F of a process lies so far above the one below
abbrev pub IsChained : Mscw → Option Registers → Type 0
IsChained m None = ⊥
IsChained m (Some r) = m.df ≤ r.f

-- the image with these stacks, rows and registers
abbrev pub ended : Stacks → Rows → List Registers → Image → Image
ended stacks rows regs img = record img { stacks = stacks; rows = rows; regs = regs }

-- the same tests in a process
abbrev pub event_tests_in : Option Registers → Mscw → Stacks → (Place → Program) → Program
event_tests_in None m stacks next = no_such
event_tests_in (Some r) m stacks next = event_tests r m (arguments stacks r) next

abbrev pub several_tests_in : Option Registers → Mscw → Stacks → (List Place → Program) → Program
several_tests_in None m stacks next = no_such
several_tests_in (Some r) m stacks next = several_tests r m (arguments stacks r) next

-- the states, where a process goes on or waits in a state
abbrev pub state_after : Took → ProcessState → ℕ → List ProcessState → List ProcessState
state_after Went state p states = states
state_after Waits state p states = set_numbered states p state

-- the process that was found, if one was
abbrev pub process_listed : Option ℕ → List ℕ
process_listed None = []
process_listed (Some p) = p ∷ []

-- ---- intrinsics that make something

-- the tests find a value and go on with it, or they are stopped, or there is no memory
abbrev pub MayLead : {A : Type 0} → Image → ((A → Program) → Program) → Result A Hindrance → Type 0
MayLead img tests (Ok a) = IntrinsicLeads img tests (Ok a)
MayLead {A = A} img tests (Err (Stopped stop)) = IntrinsicLeads {A = A} img tests (Err stop)
MayLead img tests (Err NoMemory) = Unit {0}

-- the tests of an intrinsic without arguments, which go on with the place of the mark at F
abbrev pub mark_tests : Registers → Mscw → List Word → (Place → Program) → Program
mark_tests r m [] next = if_chained r m (next (place r.stack r.f))
mark_tests r m (w ∷ words) next = no_such

-- the same tests in a process
abbrev pub mark_tests_in : Option Registers → Mscw → Stacks → (Place → Program) → Program
mark_tests_in None m stacks next = no_such
mark_tests_in (Some r) m stacks next = mark_tests r m (arguments stacks r) next

-- all is as it was, and at every number the same row is open, or none
pub record ImageIsLeft (old new : Image) : Type 0 where
  pub rows : (n : ℕ) → row_at new.rows n ≡ row_at old.rows n
  pub others : new ≡ record old { rows = new.rows }

-- the program makes the new image, or the table stops it, and all is as it was; so it is where there is no memory
abbrev pub Tries : ℕ → Program → Image → Image → Result (Unit {0}) Hindrance → Type 0
Tries p program old new (Ok u) = ProgramActs {A = Unit {0}} p program old new (Ok u)
Tries p program old new (Err (Stopped stop)) = ProgramActs {A = Unit {0}} p program old new (Err stop)
Tries p program old new (Err NoMemory) = ImageIsLeft old new
