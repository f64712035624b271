-- What the operators of a process may ask of an image, and what they may write into it, by what they reach.
use Rattle.std.specs.Prelude.{◌≡◌, ◌⊎◌, ℕ, ◌+◌, List, [], ◌∷◌, Some, None}
use Rattle.b67_word.specs.declared.Place.{Place}
use Rattle.b67_word.specs.Word.{Word}
use Rattle.b67_control.specs.declared.Registers.{Registers}
use Rattle.b67_ops.specs.declared.Operator.{Operator}
use Rattle.b67_ops.specs.declared.Operator.TheVariants as ops
use Rattle.b67_ops.specs.declared.PlainKind.TheVariants as kinds
use Rattle.b67_segment.specs.declared.code.Code.{Code}
use Rattle.b67_store.specs.Store.{word_at, row_at}
use Rattle.b67_table.specs.declared.Cell.{Cell}
use Rattle.b67_table.specs.References.{cell_place}
use Rattle.b67_table.specs.Image.{Image}
use Rattle.b67_table.specs.Questions.{Question, told}
use Rattle.b67_table.specs.Questions as questions
use Rattle.b67_table.specs.Writes.{Write, write_made}
use Rattle.b67_table.specs.Writes as writes
use Rattle.b67_table.specs.Program.{Test, answer, interrupt, fault, ask, Change, done, look_up, write, Program}
use Rattle.b67_table.specs.Rows.{TableRow, private_part, action}
use Rattle.b67_footprints.specs.Reaching.{NamesCell, OperatorReaches, ReachesRow, ReachesEvent}

-- all of these events
abbrev pub ReachesAll : Image → Operator → Registers → List Place → Type 0
ReachesAll img op r [] = Unit {0}
ReachesAll img op r (x ∷ xs) = ReachesEvent img op r x × ReachesAll img op r xs

-- Single words that it reaches, and many words of its own stack; rows and events that it reaches; its own woken number. What is public of all
-- processes anyone may ask.
abbrev pub MayAsk : Image → Operator → Registers → Question → Type 0
MayAsk img op r (questions.word x) = OperatorReaches img op r x
MayAsk img op r (questions.words x n) = x.stack ≡ r.stack
MayAsk img op r (questions.row n) = ReachesRow img op r n
MayAsk img op r questions.free_row = Unit {0}
MayAsk img op r questions.counted = Unit {0}
MayAsk img op r (questions.is_event x) = ReachesEvent img op r x
MayAsk img op r (questions.event_answer t x) = ReachesEvent img op r x
MayAsk img op r (questions.first_happened places) = ReachesAll img op r places
MayAsk img op r (questions.woken p) = p ≡ r.stack
MayAsk img op r questions.criticals = Unit {0}
MayAsk img op r (questions.critical p) = Unit {0}
MayAsk img op r questions.started = Unit {0}

-- the operator stores
abbrev pub Stores : Operator → Type 0
Stores (ops.Plain kinds.Stod) = Unit {0}
Stores (ops.Plain kinds.Ston) = Unit {0}
Stores _ = ⊥

-- it stores, and an operand lies in a cell that it names
pub record NamesOperand (img : Image) (op : Operator) (r : Registers) (x : Place) : Type 0 where
  pub stores : Stores op
  pub cell : Cell
  pub names : NamesCell img op r cell
  pub lies : x ≡ cell_place cell
  pub word : Word
  pub there : word_at img.stacks x ≡ Some word
  pub operand : word.tag ≡ 0

-- Words of its own stack, and, where it stores, operands in cells that it names; rows that it reaches, and new ones under numbers that are free; events that it
-- reaches, and those of its own stack; and the stack of the next process.
abbrev pub MayWrite : Image → Operator → Registers → Write → Type 0
MayWrite img op r (writes.save x w) = (x.stack ≡ r.stack) ⊎ NamesOperand img op r x
MayWrite img op r (writes.cut stack n) = stack ≡ r.stack
MayWrite img op r (writes.push stack w) = stack ≡ r.stack
MayWrite img op r (writes.registers q) = q.stack ≡ r.stack
MayWrite img op r (writes.open_row n count counted) = row_at img.rows n ≡ None
MayWrite img op r (writes.write_row n at w) = ReachesRow img op r n
MayWrite img op r (writes.close_row n) = ReachesRow img op r n
MayWrite img op r (writes.open_event x) = x.stack ≡ r.stack
MayWrite img op r (writes.close_events stack at) = stack ≡ r.stack
MayWrite img op r (writes.event_deed d x) = ReachesEvent img op r x
MayWrite img op r (writes.wait_any places) = ReachesAll img op r places
MayWrite img op r writes.go_on = Unit {0}
MayWrite img op r (writes.line bytes) = Unit {0}
MayWrite img op r (writes.start q words) = q.stack ≡ img.started + 1
MayWrite img op r (writes.end_process stack) = stack ≡ r.stack

-- ---- programs

-- a test asks only what it may, and what it answers has the property
abbrev pub TestKeeps : {A : Type 0} → Image → Operator → Registers → (A → Type 0) → Test A → Type 0
TestKeeps img op r Q (answer a) = Q a
TestKeeps img op r Q (interrupt kind) = Unit {0}
TestKeeps img op r Q (fault kind) = Unit {0}
TestKeeps img op r Q (ask q more) = MayAsk img op r q × TestKeeps img op r Q (more (told img q))

-- a change of a process looks up and writes only what it may, from an image on to which it has come
abbrev pub ChangeKeeps : Image → Operator → Registers → ℕ → Change → Image → Type 0
ChangeKeeps img op r p done now = Unit {0}
ChangeKeeps img op r p (look_up q more) now = MayAsk img op r q × ChangeKeeps img op r p (more (told now q)) now
ChangeKeeps img op r p (write w next) now = MayWrite img op r w × ChangeKeeps img op r p next (write_made p w now)

-- a program asks and writes only what it may
abbrev pub ProgramKeeps : Image → Operator → Registers → ℕ → Program → Type 0
ProgramKeeps img op r p program = TestKeeps img op r (λ (change : Change). ChangeKeeps img op r p change img) program

-- so does a row; a private operator is a function of its own private part
abbrev pub RowKeeps : TableRow → Code → Image → Operator → ℕ → Registers → ℕ → Type 0
RowKeeps (private_part f) code img op p r next = Unit {0}
RowKeeps (action program) code img op p r next = ProgramKeeps img op r p (program code r next)
