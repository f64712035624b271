-- The queue of a run by turns.
use Rattle.std.proofs.Common.{◌≡◌, ◌≢◌, refl, sym, ap, subst, ◌∙◌, ℕ, ◌+◌, ◌≤◌, false, List, [], ◌∷◌, ◌++◌, length, None, arith}
use Rattle.std.proofs.Math.Decide.{ℕ_discrete}
use Rattle.b67_list.specs.Numbered.{numbered}
use Rattle.b67_segment.specs.declared.code.Code.{Code}
use Rattle.b67_table.specs.Beginning.{first_image}
use Rattle.b67_table.specs.Ending.{image_end}
use Rattle.b67_table.specs.Image.{Image}
use Rattle.b67_table.specs.Limits.{most_processes}
use Rattle.b67_table.specs.Valid.{IsValid}
use Rattle.b67_table.proofs.EventKept.{within_of}
use Rattle.b67_table.proofs.Waking.{able_live}
use Rattle.b67_action.specs.Able.{number_times, one_if, able_in, AbleAfter}
use Rattle.b67_joining.proofs.Able.{not_above, one_able}
use Rattle.b67_joining.specs.Joining.{IsQueue, joining}
use Rattle.b67_joining.proofs.Times.{here, elsewhere, one_at_most, is_none, is_one, times_both, few_of}
use Rattle.b67_joining.proofs.Joining.{joining_own, joining_other}
use Rattle.b67_exec.specs.Turning.{IsListed}

-- ---- who is in it

pub valid_listed : (code : Code) (img : Image) → IsValid code img → IsListed img
valid_listed code img v = record { states = v.states; some = v.some; most = v.most }

module _ (img : Image) (queue : List ℕ) (listed : IsListed img) (is : IsQueue img queue) where
  number : (q : ℕ) → 1 ≤ number_times q queue → (1 ≤ q) × (q ≤ most_processes)
  number q h =
      let able = is_one (able_in img q) (omega (arith, h, is q)) in
      let k = within_of img.states q (able_live (numbered img.states q) able) in
      (k.0, omega (arith, k.1, listed.states, listed.most))

  -- no more than there may be processes
  pub queue_few : length queue ≤ most_processes
  queue_few = few_of queue most_processes (λ q. omega (arith, is q, one_at_most (able_in img q))) number

  -- and some, where the run has no end
  pub queue_some : image_end img ≡ None → queue ≢ []
  queue_some e none =
      let nobody : (q : ℕ) → able_in img q ≡ false = λ q. is_none (able_in img q) (sym (is q) ∙ ap (number_times q) none) in
      let most = not_above img.states (length img.states + 1) (one_able img e (omega (arith, listed.states, listed.some))) (λ q less. nobody q) in
      omega (arith, most)

-- ---- after a turn

module _ (a b : Image) (p : ℕ) (others part : List ℕ) (is : IsQueue a (p ∷ others)) where
  module _ (after : AbleAfter a b p part) where
    own_after : number_times p (others ++ joining a.started b p part) ≡ one_if (able_in b p)
    own_after =
        let own = here p p refl in
        omega (arith, times_both p others (joining a.started b p part), is p, own, one_at_most (able_in a p), joining_own a b p part after)

    other_after : (q : ℕ) → q ≢ p → number_times q (others ++ joining a.started b p part) ≡ one_if (able_in b q)
    other_after q h =
        let none = elsewhere q p h in
        omega (arith, times_both q others (joining a.started b p part), is q, none, joining_other a b p part after q h)

    pub queue_after : IsQueue b (others ++ joining a.started b p part)
    queue_after q = by (ℕ_discrete q p)
      where
        by : Dec (q ≡ p) → number_times q (others ++ joining a.started b p part) ≡ one_if (able_in b q)
        by (yes e) = subst (λ (n : ℕ). number_times n (others ++ joining a.started b p part) ≡ one_if (able_in b n)) (sym e) own_after
        by (no h) = other_after q h

-- ---- at first

first_listed : IsListed first_image
unfolding first_image
first_listed = record {
  states = refl;
  some = omega arith;
  most = omega arith;
}

pub listed_first : (img : Image) → img ≡ first_image → IsListed img
listed_first img e = subst IsListed (sym e) first_listed
