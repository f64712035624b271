-- What is a process's own: its registers, and the words of its stack from a base on. Actions that ask and write nothing else.
use Rattle.std.specs.Prelude.{◌≡◌, ℕ, ◌≤◌, true, List, length, drop, reverse, Some, Ok}
use Rattle.b67_list.specs.Numbered.{numbered}
use Rattle.b67_word.specs.Word.{Word}
use Rattle.b67_control.specs.declared.Registers.{Registers}
use Rattle.b67_ops.specs.declared.Operator.{Operator}
use Rattle.b67_segment.specs.declared.code.Code.{Code}
use Rattle.b67_store.specs.Store.{stack_at, words_of}
use Rattle.b67_table.specs.declared.Private.{Private}
use Rattle.b67_table.specs.Ending.{may_act}
use Rattle.b67_table.specs.Image.{Image, with_private, is_live}
use Rattle.b67_table.specs.Questions.{Question, told}
use Rattle.b67_table.specs.Questions as questions
use Rattle.b67_table.specs.Writes.{Write, write_made}
use Rattle.b67_table.specs.Writes as writes
use Rattle.b67_table.specs.Program.{Test, answer, interrupt, fault, ask, Change, done, look_up, write, Program}
use Rattle.b67_table.specs.Rows.{row, action}
use Rattle.b67_table.specs.Runs.{RunEntry}
use Rattle.b67_table.specs.Table.{operator_at}

-- the process lives, its registers are these, and its stack is open and reaches the base
pub record StackReaches (img : Image) (p : ℕ) (r : Registers) (base : ℕ) : Type 0 where
  pub live : is_live (numbered img.states p) ≡ true
  pub has : numbered img.regs p ≡ Some r
  pub words : List Word
  pub opened : stack_at img.stacks r.stack ≡ Some words
  pub high : base ≤ length words

-- the registers, and the words from the base on, the top first
abbrev pub own_of : Image → Registers → ℕ → Private
own_of img r base = record { regs = r; words = reverse (drop base (words_of img.stacks r.stack)) }

-- registers that stay in their stack and keep their critical place
abbrev pub Stay : Registers → Registers → Type 0
Stay r new = (new.stack ≡ r.stack) × (new.critical ≡ r.critical)

-- The process's next entry makes one and the same of its own, wherever that is as it is in this image, and leaves all else as it is.
pub record MovesOwn (code : Code) (img : Image) (p : ℕ) (r : Registers) (base : ℕ) : Type 0 where
  pub reaches : StackReaches img p r base
  pub part : Private
  pub stays : Stay r part.regs
  pub count : ℕ
  pub enters : (x : Image) → StackReaches x p r base → own_of x r base ≡ own_of img r base → may_act x p ≡ true → RunEntry code p x count (with_private x p base part)

-- ---- actions

-- the question is about words of this stack from the base on
abbrev pub AsksOwn : ℕ → ℕ → Question → Type 0
AsksOwn stack base (questions.word x) = (x.stack ≡ stack) × (base ≤ x.at)
AsksOwn stack base (questions.words x n) = (x.stack ≡ stack) × (base ≤ x.at)
AsksOwn stack base _ = ⊥

-- the write changes words there only, or sets the process's registers, which keep its stack and its critical place
abbrev pub WritesOwn : Registers → ℕ → Write → Type 0
WritesOwn r base (writes.save x w) = (x.stack ≡ r.stack) × (base ≤ x.at)
WritesOwn r base (writes.cut stack n) = (stack ≡ r.stack) × (base ≤ n)
WritesOwn r base (writes.push stack w) = stack ≡ r.stack
WritesOwn r base (writes.registers new) = Stay r new
WritesOwn r base _ = ⊥

-- all that the change writes is so, and it looks nothing up
abbrev pub ChangeIsOwn : Registers → ℕ → Change → Type 0
ChangeIsOwn r base done = Unit {0}
ChangeIsOwn r base (look_up q more) = ⊥
ChangeIsOwn r base (write w next) = WritesOwn r base w × ChangeIsOwn r base next

-- all that the test asks is so, and so is the change with which it answers
abbrev pub TestIsOwn : Image → Registers → ℕ → Test Change → Type 0
TestIsOwn img r base (answer change) = ChangeIsOwn r base change
TestIsOwn img r base (interrupt kind) = Unit {0}
TestIsOwn img r base (fault kind) = Unit {0}
TestIsOwn img r base (ask q more) = AsksOwn r.stack base q × TestIsOwn img r base (more (told img q))

-- the next operator of the process with these registers is such an action
pub record IsOwnAction (code : Code) (img : Image) (r : Registers) (base : ℕ) : Type 0 where
  pub op : Operator
  pub next : ℕ
  pub stands : operator_at code r ≡ Ok (op, next)
  pub program : Code → Registers → ℕ → Program
  pub is : row op r.place ≡ action program
  pub own : TestIsOwn img r base (program code r next)
