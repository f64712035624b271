-- A take, by what the dispatcher answers.
use Rattle.std.specs.Prelude.{slice_get, slice_set, remove}
use Rattle.std.proofs.Common.{◌≡◌, sym, ap, subst, ◌∙◌, ℕ, zero, suc, ◌-◌, ◌≤◌, List, length, Option, Some, None, arith}
use Rattle.b67_list.specs.Numbered.{set_numbered}
use Rattle.b67_segment.specs.declared.code.Code.{Code}
use Rattle.b67_table.specs.Limits.{most_processes}
use Rattle.b67_ready.specs.Ready.{Ready, ReadyTakes, counted_on}
use Rattle.b67_stands.specs.Running.{Running, answer_of}
use Rattle.b67_stands.specs.Stands.{Stands}
use Rattle.b67_stands.specs.Placing.{holder_of}
use Rattle.b67_stands.specs.Calls.{TakesOne}
use Rattle.b67_stands.proofs.Places.{holder_own}
use Rattle.b67_stands.proofs.Taking.{taken_number, takes_keep}

-- what the dispatcher answers
pub dispatched : {P : Type 0} (pick : P → ℕ → ℕ → ℕ) (old new : Ready P) (o : Option ℕ) (p : ℕ) → o ≡ Some p → ReadyTakes pick old new o
    → (slice_get old.waiting (pick old.rule (length old.waiting) old.takes) ≡ Some p)
    × (new ≡ record old { waiting = remove old.waiting (pick old.rule (length old.waiting) old.takes); takes = counted_on old.takes })
dispatched pick old new o p e t = subst (ReadyTakes pick old new) e t

pub set_is : (xs : List ℕ) (p x : ℕ) → 1 ≤ p → slice_set xs (p - 1) x ≡ set_numbered xs p x
set_is xs zero x h = absurd (omega (arith, h))
set_is xs (suc k) x h = let same : suc k - 1 ≡ k = omega arith in ap (λ (n : ℕ). slice_set xs n x) same

-- a take, by what the dispatcher left
module _ {P : Type 0} (choose : P → ℕ → ℕ → ℕ) (pick : ℕ → ℕ → ℕ) (code : Code) (budget : ℕ) (old : Running) (ready after : Ready P) (p me : ℕ)
    (stands : Stands code budget old) (going : answer_of budget old ≡ None) (some : 1 ≤ me)
    (waits : old.waiting ≡ ready.waiting) (taken_so : old.takes ≡ ready.takes) (chosen : (n takes : ℕ) → choose ready.rule n takes ≡ pick n takes)
    (answer : Option ℕ) (is : answer ≡ Some p) (takes : ReadyTakes choose ready after answer) where
  k : ℕ
  k = pick (length old.waiting) old.takes

  same : choose ready.rule (length ready.waiting) ready.takes ≡ pick (length old.waiting) old.takes
  same =
      chosen (length ready.waiting) ready.takes
      ∙ ap (λ (n : ℕ). pick n ready.takes) (ap length (sym waits)) ∙ ap (pick (length old.waiting)) (sym taken_so)

  got : slice_get old.waiting (pick (length old.waiting) old.takes) ≡ Some p
  got =
      subst (λ (w : List ℕ). slice_get w (pick (length old.waiting) old.takes) ≡ Some p) (sym waits)
      (subst (λ (n : ℕ). slice_get ready.waiting n ≡ Some p) same (dispatched choose ready after answer p is takes).0)

  after_is : after ≡ record ready { waiting = remove ready.waiting (choose ready.rule (length ready.waiting) ready.takes); takes = counted_on ready.takes }
  after_is = (dispatched choose ready after answer p is takes).1

  pub number : (1 ≤ p) × (p ≤ most_processes)
  number = taken_number code budget old stands (pick (length old.waiting) old.takes) p going got

  waiting_is : after.waiting ≡ remove old.waiting (pick (length old.waiting) old.takes)
  waiting_is =
      ap (λ (r : Ready P). r.waiting) after_is ∙ ap (remove ready.waiting) same
      ∙ ap (λ (w : List ℕ). remove w (pick (length old.waiting) old.takes)) (sym waits)

  takes_is : after.takes ≡ counted_on old.takes
  takes_is = ap (λ (r : Ready P). r.takes) after_is ∙ ap counted_on (sym taken_so)

  pub room_is : after.room ≡ ready.room
  room_is = ap (λ (r : Ready P). r.room) after_is

  pub still_chosen : (n takes : ℕ) → choose after.rule n takes ≡ pick n takes
  still_chosen n t = ap (λ (r : Ready P). choose r.rule n t) after_is ∙ chosen n t

  new_is : (w : List ℕ) (n : ℕ) (o : List ℕ) → w ≡ after.waiting → n ≡ after.takes → o ≡ slice_set old.out (p - 1) me
      → record old { waiting = w; takes = n; out = o }
      ≡ record old { waiting = remove old.waiting (pick (length old.waiting) old.takes); takes = counted_on old.takes; out = set_numbered old.out p me }
  new_is w n o e f h =
      ap (λ (x : List ℕ). record old { waiting = x; takes = n; out = o }) (e ∙ waiting_is)
      ∙ ap (λ (x : ℕ). record old { waiting = remove old.waiting (pick (length old.waiting) old.takes); takes = x; out = o }) (f ∙ takes_is)
      ∙ ap (λ (x : List ℕ). record old { waiting = remove old.waiting (pick (length old.waiting) old.takes); takes = counted_on old.takes; out = x })
      (h ∙ set_is old.out p me number.0)

  pub takes_one : (w : List ℕ) (n : ℕ) (o : List ℕ) → w ≡ after.waiting → n ≡ after.takes → o ≡ slice_set old.out (p - 1) me
      → TakesOne pick me old p (record old { waiting = w; takes = n; out = o })
  takes_one w n o e f h = record { picked = got; new_is = new_is w n o e f h }

  -- it is out with the processor
  pub is_out : (o : List ℕ) → o ≡ slice_set old.out (p - 1) me → holder_of o p ≡ me
  is_out o e =
      ap (λ (xs : List ℕ). holder_of xs p) (e ∙ set_is old.out p me number.0) ∙ holder_own old.out p me number.0 (omega (arith, number.1, stands.holders))

  pub still_stands : (w : List ℕ) (n : ℕ) (o : List ℕ) → w ≡ after.waiting → n ≡ after.takes → o ≡ slice_set old.out (p - 1) me
      → Stands code budget (record old { waiting = w; takes = n; out = o })
  still_stands w n o e f h =
      takes_keep code budget old stands (record old { waiting = w; takes = n; out = o }) pick me p going some (takes_one w n o e f h)
