-- The way down to the target of GOTO, and the critical places on it.
use Rattle.std.proofs.Common.{◌≡◌, refl, sym, ap, ◌∙◌, ℕ, Bool, true, false, ◌||◌, List, ◌∷◌, [], Result, Ok, Err}
use Rattle.std.specs.List.{list_any}
use Rattle.b67_word.specs.declared.Place.{Place}
use Rattle.b67_store.specs.Store.{Stacks}
use Rattle.b67_events.specs.Events.{same_place}
use Rattle.b67_table.specs.declared.InterruptKind.{InterruptKind}
use Rattle.b67_table.specs.Chains.{place}
use Rattle.b67_table.specs.Look.{Look, found, look_seen, ◌>->◌}
use Rattle.b67_table.specs.Linkage.{is_critical}
use Rattle.b67_table.specs.GoingTo.{Passing, Passed, passing, passed_frames}
use Rattle.b67_table.specs.GoingTo as going
use Rattle.b67_reach.proofs.Looking.{seen_then, after_found}

-- what was critical, or is among the frames that are left to pass
abbrev pub either : ℕ → List Place → Bool → Passing → Bool
either stack places critical p = is_critical stack (passed_frames p.frames) places || critical

abbrev ok : {B : Type 0} → B → Result B InterruptKind
ok b = Ok b

by_answer : {A B : Type 0} (f g : A → B) → ((a : A) → f a ≡ g a) → (r : Result A InterruptKind) → after_found r (λ a. ok (f a)) ≡ after_found r (λ a. ok (g a))
by_answer f g h (Ok a) = ap (λ z. ok z) (h a)
by_answer f g h (Err kind) = refl

pub same_found : {A B : Type 0} (st : Stacks) (l : Look A) (f g : A → B) → ((a : A) → f a ≡ g a) → look_seen st (l >-> (λ (a : A). found (f a))) ≡ look_seen st (l >-> (λ (a : A). found (g a)))
same_found st l f g h = seen_then st l (λ a. found (f a)) ∙ by_answer f g h (look_seen st l) ∙ sym (seen_then st l (λ a. found (g a)))

pub one_more : (stack frame cells : ℕ) (places : List Place) (critical here : Bool) → here ≡ (is_critical stack (frame ∷ []) places || critical) → (p : Passing)
    → either stack places critical (going.passing_after (record { frame = frame; cells = cells }) p) ≡ either stack places here p
one_more stack frame cells places critical here e p =
    join (list_any (same_place (place stack frame)) places) (is_critical stack (passed_frames p.frames) places) critical
    ∙ ap (λ (b : Bool). is_critical stack (passed_frames p.frames) places || b) (sym e)
  where
    join : (a b c : Bool) → ((a || b) || c) ≡ (b || ((a || false) || c))
    join true true c = refl
    join true false c = refl
    join false true c = refl
    join false false c = refl

pub none_yet : (stack : ℕ) (places : List Place) (p : Passing) → is_critical stack (passed_frames p.frames) places ≡ either stack places false p
none_yet stack places p = or_none (is_critical stack (passed_frames p.frames) places)
  where
    or_none : (b : Bool) → b ≡ (b || false)
    or_none true = refl
    or_none false = refl
