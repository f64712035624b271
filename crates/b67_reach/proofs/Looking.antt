-- Looks and tests, one after another, and what is performed after them.
use Rattle.std.specs.Result.{IsErrAnd}
use Rattle.std.proofs.Common.{◌≡◌, refl, sym, ap, subst, ◌∙◌, ℕ, take, drop, Option, Some, Result, Ok, Err, OnErr}
use Rattle.b67_list.specs.Numbered.{numbered}
use Rattle.b67_control.specs.declared.Sirw.{Sirw}
use Rattle.b67_control.specs.Control.{as_sirw}
use Rattle.b67_store.specs.Store.{Stacks, Rows, word_at, words_of}
use Rattle.b67_table.specs.declared.Cell.{Cell}
use Rattle.b67_table.specs.declared.Reached.{Reached}
use Rattle.b67_table.specs.declared.InterruptKind.{InterruptKind}
use Rattle.b67_table.specs.declared.InterruptKind.TheVariants.{InvalidOperand}
use Rattle.b67_table.specs.Effect.{Effect}
use Rattle.b67_table.specs.Effect as effects
use Rattle.b67_table.specs.Outcome.{gives, limited}
use Rattle.b67_table.specs.Image.{Image}
use Rattle.b67_table.specs.Look.{Look, found, stops, at, several, ◌>->◌, look_seen}
use Rattle.b67_table.specs.Program.{Test, answer, interrupt, fault, ask, asked, see, ◌>>=◌, Change, Program, effect_of}
use Rattle.b67_table.specs.Questions.{told}
use Rattle.b67_table.specs.References.{named, reached, sirw_cell, one_sirw, no_second}
use Rattle.b67_table.specs.Table.{stack_length}
use Rattle.b67_reach.specs.declared.Stop.{Stop}
use Rattle.b67_reach.specs.declared.Stop.TheVariants.{Interrupt, Fault, StackLimit}
use Rattle.b67_reach.specs.Images.{Own, with_own}
use Rattle.b67_reach.specs.Answers.{whole_outcome, stopped, outcome_answered, looked, TestTells, ProgramPerforms, ProgramActs}

-- ---- looks

abbrev pub after_found : {A B : Type 0} → Result A InterruptKind → (A → Result B InterruptKind) → Result B InterruptKind
after_found (Ok a) next = next a
after_found (Err kind) next = Err kind

pub seen_then : {A B : Type 0} (st : Stacks) (l : Look A) (k : A → Look B) → look_seen st (l >-> k) ≡ after_found (look_seen st l) (λ a. look_seen st (k a))
seen_then st (found a) k = refl
seen_then st (stops kind) k = refl
seen_then st (at place more) k = seen_then st (more (word_at st place)) k
seen_then st (several place n more) k = seen_then st (more (take n (drop place.at (words_of st place.stack)))) k

-- an answer that is an error is the look's interrupt
pub looked_ok : {A : Type 0} (r : Result A InterruptKind) (a : A) → Ok a ≡ looked r → r ≡ Ok a
looked_ok (Ok b) a e = cc
looked_ok (Err kind) a e = cc

pub look_then : {A B : Type 0} (st : Stacks) (l : Look A) (k : A → Look B) (a : A) (b : Result B Stop) → Ok a ≡ looked (look_seen st l)
    → b ≡ looked (look_seen st (k a)) → b ≡ looked (look_seen st (l >-> k))
look_then st l k a b e f =
    f
    ∙ sym (ap looked (seen_then st l k ∙ ap (λ (r : Result _ InterruptKind). after_found r (λ a. look_seen st (k a))) (looked_ok (look_seen st l) a e)))

pub second_is_refused : (st : Stacks) (c : Option Cell) (first second : Reached) (s t : Sirw) → Ok first ≡ looked (look_seen st (named c))
    → as_sirw first.word ≡ Some s → Ok second ≡ looked (look_seen st (named (Some (sirw_cell s)))) → as_sirw second.word ≡ Some t
    → Err (Interrupt InvalidOperand) ≡ looked (look_seen st (reached c))
second_is_refused st c first second s t e f g h =
    look_then st (named c) (λ w. one_sirw (as_sirw w.word) w) first (Err (Interrupt InvalidOperand)) e
    (look_then st (named (Some (sirw_cell s))) (λ v. no_second (as_sirw v.word) v) second (Err (Interrupt InvalidOperand)) g
    (sym (ap (λ (o : Option Sirw). looked (look_seen st (no_second o second))) h))
    ∙ sym (ap (λ (o : Option Sirw). looked (look_seen st (one_sirw o first))) f))

-- ---- tests

abbrev pub as_effect : {A : Type 0} → Result A InterruptKind → Effect A
as_effect (Ok a) = effects.gives a
as_effect (Err kind) = effects.interrupts kind

pub asked_look : {A : Type 0} (img : Image) (l : Look A) → asked img (see l) ≡ as_effect (look_seen img.stacks l)
asked_look img (found a) = refl
asked_look img (stops kind) = refl
asked_look img (at place more) = asked_look img (more (word_at img.stacks place))
asked_look img (several place n more) = asked_look img (more (take n (drop place.at (words_of img.stacks place.stack))))

whole_of_look : {A : Type 0} (r : Result A InterruptKind) → whole_outcome (as_effect r) ≡ outcome_answered (looked r)
whole_of_look (Ok a) = refl
whole_of_look (Err kind) = refl

-- what a look finds, its test is told
pub tells_look : {A : Type 0} (l : Look A) (stacks : Stacks) (rows : Rows) (r : Result A Stop) → r ≡ looked (look_seen stacks l) → TestTells (see l) stacks rows r
tells_look l stacks rows r e = record {
  told = λ img s t. ap whole_outcome (asked_look img l) ∙ ap (λ (z : Stacks). whole_outcome (as_effect (look_seen z l))) s ∙ whole_of_look (look_seen stacks l)
      ∙ sym (ap outcome_answered e);
}

abbrev pub after_test : {A B : Type 0} → Image → Effect A → (A → Test B) → Effect B
after_test img (effects.gives a) next = asked img (next a)
after_test img (effects.faults kind) next = effects.faults kind
after_test img (effects.interrupts kind) next = effects.interrupts kind

pub asked_then : {A B : Type 0} (img : Image) (t : Test A) (next : A → Test B) → asked img (t >>= next) ≡ after_test img (asked img t) next
asked_then img (answer a) next = refl
asked_then img (interrupt kind) next = refl
asked_then img (fault kind) next = refl
asked_then img (ask q more) next = asked_then img (more (told img q)) next

gives_by : {A : Type 0} (e : Effect A) (a : A) → whole_outcome e ≡ gives a → e ≡ effects.gives a
gives_by (effects.gives b) a e = cc
gives_by (effects.faults kind) a e = cc
gives_by (effects.interrupts kind) a e = cc

pub asked_on : {A B : Type 0} (img : Image) (t : Test A) (next : A → Test B) (a : A) → whole_outcome (asked img t) ≡ gives a
    → asked img (t >>= next) ≡ asked img (next a)
asked_on img t next a e = asked_then img t next ∙ ap (λ (x : Effect _). after_test img x next) (gives_by (asked img t) a e)

pub tells_then : {A B : Type 0} (t : Test A) (next : A → Test B) (a : A) (stacks : Stacks) (rows : Rows) (r : Result B Stop)
    → TestTells t stacks rows (Ok a) → TestTells (next a) stacks rows r → TestTells (t >>= next) stacks rows r
tells_then t next a stacks rows r x y = record { told = λ img e f. ap whole_outcome (asked_on img t next a (x.told img e f)) ∙ y.told img e f }

pub stops_test : {A B : Type 0} (img : Image) (e : Effect A) (next : A → Test B) (stop : Stop) → whole_outcome e ≡ stopped stop
    → whole_outcome (after_test img e next) ≡ stopped stop
stops_test img (effects.gives a) next (Interrupt kind) e = cc
stops_test img (effects.gives a) next (Fault kind) e = cc
stops_test img (effects.gives a) next StackLimit e = cc
stops_test img (effects.faults k) next (Interrupt kind) e = cc
stops_test img (effects.faults k) next (Fault kind) e = cc
stops_test img (effects.faults k) next StackLimit e = cc
stops_test img (effects.interrupts k) next (Interrupt kind) e = cc
stops_test img (effects.interrupts k) next (Fault kind) e = cc
stops_test img (effects.interrupts k) next StackLimit e = cc

pub tells_stop : {A B : Type 0} (t : Test A) (next : A → Test B) (stop : Stop) (stacks : Stacks) (rows : Rows)
    → TestTells t stacks rows (Err stop) → TestTells (t >>= next) stacks rows (Err stop)
tells_stop t next stop stacks rows x = record {
  told = λ img e f. ap whole_outcome (asked_then img t next) ∙ stops_test img (asked img t) next stop (x.told img e f);
}

-- ---- programs

pub performs_then : {A B : Type 0} (t : Test A) (next : A → Program) (a : A) (old new : Own) (r : Result B Stop)
    → TestTells t old.stacks old.rows (Ok a) → ProgramPerforms (next a) old new r → ProgramPerforms (t >>= next) old new r
performs_then t next a old new r x y = record {
  outcome = λ p img e f g. ap (λ (z : Effect Change). limited (stack_length p) (effect_of p img z)) (asked_on img t next a (x.told img e f))
      ∙ y.outcome p img e f g;
  stays = y.stays;
}

stops_program : {A : Type 0} (p : ℕ) (img : Image) (e : Effect A) (next : A → Program) (stop : Stop) → whole_outcome e ≡ stopped stop
    → limited (stack_length p) (effect_of p img (after_test img e next)) ≡ stopped stop
stops_program p img (effects.gives a) next (Interrupt kind) e = cc
stops_program p img (effects.gives a) next (Fault kind) e = cc
stops_program p img (effects.gives a) next StackLimit e = cc
stops_program p img (effects.faults k) next (Interrupt kind) e = cc
stops_program p img (effects.faults k) next (Fault kind) e = cc
stops_program p img (effects.faults k) next StackLimit e = cc
stops_program p img (effects.interrupts k) next (Interrupt kind) e = cc
stops_program p img (effects.interrupts k) next (Fault kind) e = cc
stops_program p img (effects.interrupts k) next StackLimit e = cc

pub performs_stop : {A B : Type 0} (t : Test A) (next : A → Program) (stop : Stop) (old new : Own)
    → TestTells t old.stacks old.rows (Err stop) → new ≡ old → ProgramPerforms {A = B} (t >>= next) old new (Err stop)
performs_stop t next stop old new x same = record {
  outcome = λ p img e f g. ap (λ (z : Effect Change). limited (stack_length p) (effect_of p img z)) (asked_then img t next)
      ∙ stops_program p img (asked img t) next stop (x.told img e f);
  stays = same;
}

-- ---- programs on one image

pub acts_then : {A B : Type 0} (p : ℕ) (t : Test A) (next : A → Program) (a : A) (old new : Image) (r : Result B Stop)
    → whole_outcome (asked old t) ≡ gives a → ProgramActs p (next a) old new r → ProgramActs p (t >>= next) old new r
acts_then p t next a old new r x y = record {
  outcome = ap (λ (z : Effect Change). limited (stack_length p) (effect_of p old z)) (asked_on old t next a x) ∙ y.outcome;
  stays = y.stays;
}

pub acts_stop : {A B : Type 0} (p : ℕ) (t : Test A) (next : A → Program) (stop : Stop) (old new : Image) → whole_outcome (asked old t) ≡ stopped stop
    → new ≡ old → ProgramActs {A = B} p (t >>= next) old new (Err stop)
acts_stop p t next stop old new x same = record {
  outcome = ap (λ (z : Effect Change). limited (stack_length p) (effect_of p old z)) (asked_then old t next)
      ∙ stops_program p old (asked old t) next stop x;
  stays = same;
}

stays_in : {A : Type 0} (p : ℕ) (old new : Own) (img : Image) (r : Result A Stop) → with_own old p img ≡ img → OnErr r (new ≡ old)
    → OnErr r (with_own new p img ≡ img)
stays_in p old new img (Ok a) same e = tt
stays_in p old new img (Err stop) same e = ap (λ (z : Own). with_own z p img) e ∙ same

-- what a process performs on its own, it performs in the image
pub acts_by : {A : Type 0} (p : ℕ) (program : Program) (old new : Own) (img : Image) (r : Result A Stop) → img.stacks ≡ old.stacks → img.rows ≡ old.rows
    → numbered img.regs p ≡ Some old.regs → ProgramPerforms program old new r → with_own old p img ≡ img → ProgramActs p program img (with_own new p img) r
acts_by p program old new img r s t u x same = record {
  outcome = x.outcome p img s t u;
  stays = stays_in p old new img r same x.stays;
}

-- ---- the exit of a question mark

pub exits : {A : Type 0} (program : Program) (old new : Own) (r : Result A Stop) (stop : Stop) → IsErrAnd r (λ e. e ≡ stop)
    → ProgramPerforms {A = A} program old new (Err stop) → ProgramPerforms program old new r
exits program old new (Ok a) stop e x = absurd e
exits {A = A} program old new (Err other) stop e x = subst (λ (s : Stop). ProgramPerforms {A = A} program old new (Err s)) (sym e) x

pub tells_exit : {A : Type 0} (t : Test A) (stacks : Stacks) (rows : Rows) (r : Result A Stop) (stop : Stop) → IsErrAnd r (λ e. e ≡ stop)
    → TestTells t stacks rows (Err stop) → TestTells t stacks rows r
tells_exit t stacks rows (Ok a) stop e x = absurd e
tells_exit {A = A} t stacks rows (Err other) stop e x = subst (λ (s : Stop). TestTells {A = A} t stacks rows (Err s)) (sym e) x
