-- A program is decided by what it is told, and writes nothing where it is refused.
use Rattle.std.proofs.Common.{◌≡◌, refl, sym, ap, subst, ◌∙◌, ℕ, List, [], ◌∷◌}
use Rattle.b67_table.specs.Effect.{Effect, gives, faults, interrupts}
use Rattle.b67_table.specs.Image.{Image}
use Rattle.b67_table.specs.Questions.{AnswerTo, told}
use Rattle.b67_table.specs.Writes.{Write, write_made}
use Rattle.b67_table.specs.Program.{Test, answer, interrupt, fault, ask, asked, Change, done, look_up, write, changed, effect_of}
use Rattle.b67_table.specs.Laws.{writes_of, writes_after, all_written, image_then, RefusalsWriteNothing, TestAgrees, ChangeAgrees, EffectAgrees, ReadingDecides}

-- ---- what is told decides

test_same : {A : Type 0} (t : Test A) (x y : Image) → TestAgrees t x y → asked x t ≡ asked y t
test_same (answer a) x y e = refl
test_same (interrupt kind) x y e = refl
test_same (fault kind) x y e = refl
test_same (ask q more) x y e = test_same (more (told x q)) x y e.1 ∙ ap (λ (a : AnswerTo q). asked y (more a)) e.0

change_same : (p : ℕ) (c : Change) (x y : Image) → ChangeAgrees p c x y → writes_of p c x ≡ writes_of p c y
change_same p done x y e = refl
change_same p (look_up q more) x y e = change_same p (more (told x q)) x y e.1 ∙ ap (λ (a : AnswerTo q). writes_of p (more a) y) e.0
change_same p (write w next) x y e = ap (λ (ws : List Write). w ∷ ws) (change_same p next (write_made p w x) (write_made p w y) e)

effect_same : (p : ℕ) (e : Effect Change) (x y : Image) → EffectAgrees p e x y → writes_after p x e ≡ writes_after p y e
effect_same p (gives c) x y e = change_same p c x y e
effect_same p (faults kind) x y e = refl
effect_same p (interrupts kind) x y e = refl

pub reading_decides : ReadingDecides
reading_decides = record {
  asked_same = λ p program x y e. test_same program x y e.0;
  writes_same = λ p program x y e.
      effect_same p (asked x program) x y e.1 ∙ ap (λ (f : Effect Change). writes_after p y f) (test_same program x y e.0);
}

-- ---- refusals

changed_is : (p : ℕ) (c : Change) (img : Image) → changed p c img ≡ all_written p (writes_of p c img) img
changed_is p done img = refl
changed_is p (look_up q more) img = changed_is p (more (told img q)) img
changed_is p (write w next) img = changed_is p next (write_made p w img)

after_is : (p : ℕ) (img : Image) (e : Effect Change) → image_then img (effect_of p img e) ≡ all_written p (writes_after p img e) img
after_is p img (gives c) = changed_is p c img
after_is p img (faults kind) = refl
after_is p img (interrupts kind) = refl

-- what was given is no refusal
abbrev Refuses : Effect Image → Type 0
Refuses (gives img) = ⊥
Refuses (faults kind) = Unit {0}
Refuses (interrupts kind) = Unit {0}

refused_writes : (p : ℕ) (img : Image) (e : Effect Change) → Refuses (effect_of p img e) → writes_after p img e ≡ []
refused_writes p img (gives c) r = absurd r
refused_writes p img (faults kind) r = refl
refused_writes p img (interrupts kind) r = refl

pub refusals_write_nothing : RefusalsWriteNothing
refusals_write_nothing = record {
  after_is = λ p program img. after_is p img (asked img program);
  fault_writes = λ p program img kind e. refused_writes p img (asked img program) (subst Refuses (sym e) tt);
  interrupt_writes = λ p program img kind e. refused_writes p img (asked img program) (subst Refuses (sym e) tt);
}
