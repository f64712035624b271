-- Action rows as small programs of questions and writes, so that what an operator reads and writes can be seen. A program first tests,
-- and only asks then; where no test stops it, it does a change, which nothing stops.
use Rattle.std.specs.Prelude.{ℕ, Bool, List, Option}
use Rattle.b67_num.specs.declared.FaultKind.{FaultKind}
use Rattle.b67_word.specs.declared.Place.{Place}
use Rattle.b67_word.specs.Word.{Word}
use Rattle.b67_control.specs.declared.Registers.{Registers}
use Rattle.b67_store.specs.Store.{Row}
use Rattle.b67_deeds.specs.declared.EventTest.{EventTest}
use Rattle.b67_deeds.specs.Deeds.{EventDeed}
use Rattle.b67_table.specs.declared.InterruptKind.{InterruptKind}
use Rattle.b67_table.specs.Effect.{Effect, gives, faults, interrupts}
use Rattle.b67_table.specs.Image.{Image}
use Rattle.b67_table.specs.Look.{Look}
use Rattle.b67_table.specs.Look as look
use Rattle.b67_table.specs.Questions.{Question, AnswerTo, told}
use Rattle.b67_table.specs.Questions as questions
use Rattle.b67_table.specs.Writes.{Write, write_made}
use Rattle.b67_table.specs.Writes as writes

-- ---- tests

pub data Test (A : Type 0) : Type 0 where
  answer : A → Test A
  interrupt : InterruptKind → Test A
  fault : FaultKind → Test A
  ask : (q : Question) → (AnswerTo q → Test A) → Test A

infixl 20 ◌>>=◌
-- one after the other; what stops the first stops both
abbrev pub ◌>>=◌ : {A B : Type 0} → Test A → (A → Test B) → Test B
answer a >>= next = next a
interrupt kind >>= next = interrupt kind
fault kind >>= next = fault kind
ask q more >>= next = ask q (λ a. more a >>= next)

-- what a test answers on an image
abbrev pub asked : {A : Type 0} → Image → Test A → Effect A
asked img (answer a) = gives a
asked img (interrupt kind) = interrupts kind
asked img (fault kind) = faults kind
asked img (ask q more) = asked img (more (told img q))

-- a look at stacks as a test
abbrev pub see : {A : Type 0} → Look A → Test A
see (look.found a) = answer a
see (look.stops kind) = interrupt kind
see (look.at place more) = ask (questions.word place) (λ w. see (more w))
see (look.several place n more) = ask (questions.words place n) (λ words. see (more words))

abbrev pub loads : {A : Type 0} → Place → ℕ → (List Word → Test A) → Test A
loads place n more = ask (questions.words place n) more

abbrev pub row : {A : Type 0} → ℕ → (Option Row → Test A) → Test A
row n more = ask (questions.row n) more

abbrev pub counted : {A : Type 0} → (ℕ → Test A) → Test A
counted more = ask questions.counted more

abbrev pub test_is_event : {A : Type 0} → Place → (Bool → Test A) → Test A
test_is_event place more = ask (questions.is_event place) more

abbrev pub event_answer : {A : Type 0} → EventTest → Place → (Bool → Test A) → Test A
event_answer x place more = ask (questions.event_answer x place) more

abbrev pub test_first_happened : {A : Type 0} → List Place → (Option ℕ → Test A) → Test A
test_first_happened places more = ask (questions.first_happened places) more

abbrev pub woken : {A : Type 0} → ℕ → (ℕ → Test A) → Test A
woken p more = ask (questions.woken p) more

abbrev pub criticals : {A : Type 0} → (List Place → Test A) → Test A
criticals more = ask questions.criticals more

abbrev pub critical : {A : Type 0} → ℕ → (Option Place → Test A) → Test A
critical p more = ask (questions.critical p) more

abbrev pub started : {A : Type 0} → (ℕ → Test A) → Test A
started more = ask questions.started more

-- ---- changes

pub data Change : Type 0 where
  done : Change
  look_up : (q : Question) → (AnswerTo q → Change) → Change
  write : Write → Change → Change

-- what a change of a process makes of an image
abbrev pub changed : ℕ → Change → Image → Image
changed p done img = img
changed p (look_up q more) img = changed p (more (told img q)) img
changed p (write w next) img = changed p next (write_made p w img)

abbrev pub save : Place → Word → Change → Change
save place w next = write (writes.save place w) next

abbrev pub cut : ℕ → ℕ → Change → Change
cut stack n next = write (writes.cut stack n) next

abbrev pub push : ℕ → Word → Change → Change
push stack w next = write (writes.push stack w) next

abbrev pub registers : Registers → Change → Change
registers r next = write (writes.registers r) next

abbrev pub row_of : ℕ → (Option Row → Change) → Change
row_of n more = look_up (questions.row n) more

-- a row of so many zeros under the least free number
abbrev pub open_row : ℕ → Bool → (ℕ → Change) → Change
open_row count counts more = look_up questions.free_row (λ (n : ℕ). write (writes.open_row n count counts) (more n))

abbrev pub write_row : ℕ → ℕ → Word → Change → Change
write_row n at w next = write (writes.write_row n at w) next

abbrev pub close_row : ℕ → Change → Change
close_row n next = write (writes.close_row n) next

abbrev pub open_event : Place → Change → Change
open_event place next = write (writes.open_event place) next

abbrev pub close_events : ℕ → ℕ → Change → Change
close_events stack at next = write (writes.close_events stack at) next

abbrev pub event_deed : EventDeed → Place → Change → Change
event_deed x place next = write (writes.event_deed x place) next

abbrev pub wait_any : List Place → Change → Change
wait_any places next = write (writes.wait_any places) next

abbrev pub go_on : Change → Change
go_on next = write writes.go_on next

abbrev pub line : List ℕ → Change → Change
line bytes next = write (writes.line bytes) next

abbrev pub change_start : Registers → List Word → Change → Change
change_start r words next = write (writes.start r words) next

abbrev pub end_process : ℕ → Change → Change
end_process stack next = write (writes.end_process stack) next

-- ---- programs

abbrev pub Program : Type 0
Program = Test Change

abbrev pub effect_of : ℕ → Image → Effect Change → Effect Image
effect_of p img (gives change) = gives (changed p change img)
effect_of p img (faults kind) = faults kind
effect_of p img (interrupts kind) = interrupts kind

-- what a program of a process does to an image: its change, or what its tests stop with
abbrev pub does : ℕ → Program → Image → Effect Image
does p program img = effect_of p img (asked img program)
