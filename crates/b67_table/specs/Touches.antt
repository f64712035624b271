-- The words of stacks that an operator reads and writes. Of other processes' registers a question reads only what is public, and a
-- write changes none: that is what the questions and the writes are.
use Rattle.std.specs.Prelude.{◌≡◌, ◌⊎◌, ℕ, ◌+◌, ◌<◌, ◌≤◌, length}
use Rattle.b67_word.specs.declared.Place.{Place}
use Rattle.b67_control.specs.declared.Registers.{Registers}
use Rattle.b67_segment.specs.declared.code.Code.{Code}
use Rattle.b67_store.specs.Store.{words_of}
use Rattle.b67_table.specs.Effect.{Effect, gives, faults, interrupts}
use Rattle.b67_table.specs.Private.{floor}
use Rattle.b67_table.specs.Image.{Image}
use Rattle.b67_table.specs.Questions.{Question, told}
use Rattle.b67_table.specs.Questions as questions
use Rattle.b67_table.specs.Writes.{Write, write_made}
use Rattle.b67_table.specs.Writes as writes
use Rattle.b67_table.specs.Program.{Test, answer, interrupt, fault, ask, asked, Change, done, look_up, write, Program}
use Rattle.b67_table.specs.Rows.{TableRow, private_part, action}

-- one of so many places from this one on
abbrev pub IsWithinPlaces : Place → Place → ℕ → Type 0
IsWithinPlaces x place n = (x.stack ≡ place.stack) × (place.at ≤ x.at) × (x.at < place.at + n)

-- the question is about the word at x
abbrev pub QuestionReads : Question → Place → Type 0
QuestionReads (questions.word place) x = x ≡ place
QuestionReads (questions.words place n) x = IsWithinPlaces x place n
QuestionReads (questions.row n) x = ⊥
QuestionReads questions.free_row x = ⊥
QuestionReads questions.counted x = ⊥
QuestionReads (questions.is_event place) x = ⊥
QuestionReads (questions.event_answer t place) x = ⊥
QuestionReads (questions.first_happened places) x = ⊥
QuestionReads (questions.woken p) x = ⊥
QuestionReads questions.criticals x = ⊥
QuestionReads (questions.critical p) x = ⊥
QuestionReads questions.started x = ⊥

-- the write puts a word at x, or takes one away
abbrev pub Changes : Write → Image → Place → Type 0
Changes (writes.save place w) img x = x ≡ place
Changes (writes.cut stack n) img x = (x.stack ≡ stack) × (n ≤ x.at)
Changes (writes.push stack w) img x = x ≡ record { stack = stack; at = length (words_of img.stacks stack) }
Changes (writes.registers r) img x = ⊥
Changes (writes.open_row n count counted) img x = ⊥
Changes (writes.write_row n at w) img x = ⊥
Changes (writes.close_row n) img x = ⊥
Changes (writes.open_event place) img x = ⊥
Changes (writes.close_events stack at) img x = ⊥
Changes (writes.event_deed d place) img x = ⊥
Changes (writes.wait_any places) img x = ⊥
Changes writes.go_on img x = ⊥
Changes (writes.line bytes) img x = ⊥
Changes (writes.start r words) img x = x.stack ≡ r.stack
Changes (writes.end_process stack) img x = x.stack ≡ stack

-- the test of an operator reads the word at x
abbrev pub TestReads : {A : Type 0} → Image → Test A → Place → Type 0
TestReads img (answer a) x = ⊥
TestReads img (interrupt kind) x = ⊥
TestReads img (fault kind) x = ⊥
TestReads img (ask q more) x = QuestionReads q x ⊎ TestReads img (more (told img q)) x

-- the change of a process reads or writes the word at x
abbrev pub ChangeTouches : ℕ → Change → Image → Place → Type 0
ChangeTouches p done img x = ⊥
ChangeTouches p (look_up q more) img x = QuestionReads q x ⊎ ChangeTouches p (more (told img q)) img x
ChangeTouches p (write w next) img x = Changes w img x ⊎ ChangeTouches p next (write_made p w img) x

abbrev pub EffectTouches : ℕ → Image → Effect Change → Place → Type 0
EffectTouches p img (gives change) x = ChangeTouches p change img x
EffectTouches p img (faults kind) x = ⊥
EffectTouches p img (interrupts kind) x = ⊥

abbrev pub Touches : ℕ → Image → Program → Place → Type 0
Touches p img program x = TestReads img program x ⊎ EffectTouches p img (asked img program) x

-- the place is in the private part of a process with these registers: at the floor of its stack, or above
abbrev pub IsPrivate : Registers → Place → Type 0
IsPrivate r x = (x.stack ≡ r.stack) × (floor r ≤ x.at)

-- a private operator reads and writes its private part, an action what its program does
abbrev pub RowTouches : TableRow → Code → Image → ℕ → Registers → ℕ → Place → Type 0
RowTouches (private_part f) code img p r next x = IsPrivate r x
RowTouches (action program) code img p r next x = Touches p img (program code r next) x
