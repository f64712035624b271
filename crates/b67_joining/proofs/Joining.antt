-- How often a process is among those who join.
use Rattle.std.proofs.Common.{◌≡◌, ◌≢◌, refl, sym, ap, subst, ◌∙◌, ℕ, zero, suc, ◌+◌, ◌≤◌, Bool, true, false, List, [], ◌∷◌, ◌++◌, length, length-append, arith}
use Rattle.std.proofs.Math.Decide.{ℕ_discrete}
use Rattle.b67_table.specs.Beginning.{first_image}
use Rattle.b67_table.specs.Image.{Image}
use Rattle.b67_action.specs.Able.{number_times, one_if, able_in, newly, AbleAfter}
use Rattle.b67_joining.specs.Joining.{IsQueue, if_able, joining}
use Rattle.b67_joining.proofs.Times.{here, elsewhere, times_both}

actor_own : (able : Bool) (p : ℕ) → number_times p (if_able able p) ≡ one_if able
actor_own true p = let own = here p p refl in omega (arith, own)
actor_own false p = refl

actor_other : (able : Bool) (p q : ℕ) → q ≢ p → number_times q (if_able able p) ≡ 0
actor_other true p q h = let none = elsewhere q p h in omega (arith, none)
actor_other false p q h = refl

module _ (before : ℕ) (after : Image) (p : ℕ) (released : List ℕ) where
  joining_times : (q : ℕ) → number_times q (joining before after p released)
      ≡ number_times q released + number_times q (newly before after.started) + number_times q (if_able (able_in after p) p)
  joining_times q =
      times_both q (released ++ newly before after.started) (if_able (able_in after p) p)
      ∙ ap (λ (n : ℕ). n + number_times q (if_able (able_in after p) p)) (times_both q released (newly before after.started))

  pub released_few : length released ≤ length (joining before after p released)
  released_few =
      omega (
        arith,
        length-append (released ++ newly before after.started) (if_able (able_in after p) p),
        length-append released (newly before after.started),
      )

-- after an action of a process it joins exactly where it is able, and of the others those who were not able before and are
module _ (a b : Image) (p : ℕ) (released : List ℕ) (after : AbleAfter a b p released) where
  pub joining_own : number_times p (joining a.started b p released) ≡ one_if (able_in b p)
  joining_own = omega (arith, joining_times a.started b p released p, after.own, after.own_new, actor_own (able_in b p) p)

  pub joining_other : (q : ℕ) → q ≢ p → number_times q (joining a.started b p released) + one_if (able_in a q) ≡ one_if (able_in b q)
  joining_other q h = omega (arith, joining_times a.started b p released q, after.others q h, actor_other (able_in b p) p q h)

-- ---- at first

nobody_first : (n : ℕ) → n ≢ 1 → one_if (able_in first_image n) ≡ 0
unfolding first_image
nobody_first zero h = refl
nobody_first (suc zero) h = absurd (h refl)
nobody_first (suc (suc n)) h = refl

one_first : one_if (able_in first_image 1) ≡ 1
unfolding first_image
one_first = refl

first_is : IsQueue first_image (1 ∷ [])
first_is q = by (ℕ_discrete q 1)
  where
    by : Dec (q ≡ 1) → number_times q (1 ∷ []) ≡ one_if (able_in first_image q)
    by (yes e) =
        let own : number_times 1 (1 ∷ []) ≡ 1 = refl in
        subst (λ (n : ℕ). number_times n (1 ∷ []) ≡ one_if (able_in first_image n)) (sym e) (own ∙ sym one_first)
    by (no h) = let none = elsewhere q 1 h in omega (arith, none, nobody_first q h)

pub first_queue : (img : Image) → img ≡ first_image → IsQueue img (1 ∷ [])
first_queue img e = subst (λ (i : Image). IsQueue i (1 ∷ [])) (sym e) first_is
