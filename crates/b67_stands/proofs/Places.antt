-- Who is in the queue, who is out, and who has a tail.
use Rattle.std.specs.Prelude.{slice_get, remove}
use Rattle.std.proofs.Common.{◌≡◌, ◌≢◌, ◌⊎◌, inl, inr, refl, sym, ap, subst, ◌∙◌, ℕ, zero, suc, ◌+◌, ◌≤◌, true, List, [], ◌∷◌, ◌++◌, length, Some, arith}
use Rattle.std.proofs.Math.Decide.{ℕ_discrete}
use Rattle.b67_list.specs.Numbered.{numbered, set_numbered}
use Rattle.b67_table.specs.declared.ProcessState.{ProcessState}
use Rattle.b67_table.specs.Image.{Image, is_able}
use Rattle.b67_table.proofs.Lists.{numbered_set}
use Rattle.b67_table.proofs.Stacks.{get_numbered_other}
use Rattle.b67_action.specs.Able.{number_times, one_if, able_in, AbleAfter}
use Rattle.b67_machine.specs.Kept.{or_none}
use Rattle.b67_stands.specs.Tails.{with_more, tails_without, tail_of}
use Rattle.b67_joining.specs.Joining.{joining}
use Rattle.b67_joining.proofs.Times.{here, elsewhere, one_at_most, is_one, times_both}
use Rattle.b67_joining.proofs.Joining.{joining_own, joining_other}
use Rattle.b67_stands.specs.Placing.{some_holder, holder_of, IsOut, ProcessesPlaced}
use Rattle.b67_stands.proofs.Tails.{tail_more_other, tail_without_own, tail_without_other}

remove_own : (xs : List ℕ) (k p : ℕ) → slice_get xs k ≡ Some p → number_times p (remove xs k) + 1 ≡ number_times p xs
remove_own [] k p e = cc
remove_own (x ∷ xs) zero p e = let same : p ≡ x = cc in let s = here p x same in omega (arith, s)
remove_own (x ∷ xs) (suc k) p e = let r = remove_own xs k p e in omega (arith, r)

remove_other : (xs : List ℕ) (k p q : ℕ) → slice_get xs k ≡ Some p → q ≢ p → number_times q (remove xs k) ≡ number_times q xs
remove_other [] k p q e h = cc
remove_other (x ∷ xs) zero p q e h =
    let same : x ≡ p = cc in let s = elsewhere q x (λ f. h (f ∙ same)) in omega (arith, s)
remove_other (x ∷ xs) (suc k) p q e h = let r = remove_other xs k p q e h in omega (arith, r)

-- who stands at a place of the queue waits
pub got_times : (xs : List ℕ) (k p : ℕ) → slice_get xs k ≡ Some p → 1 ≤ number_times p xs
got_times xs k p e = let r = remove_own xs k p e in omega (arith, r)

pub some_is : (n : ℕ) → 1 ≤ n → some_holder n ≡ 1
some_is zero h = absurd (omega (arith, h))
some_is (suc n) h = refl

pub holder_own : (out : List ℕ) (p v : ℕ) → 1 ≤ p → p ≤ length out → holder_of (set_numbered out p v) p ≡ v
holder_own out p v o h = ap or_none (numbered_set out p v o h)

pub holder_other : (out : List ℕ) (p q v : ℕ) → q ≢ p → holder_of (set_numbered out p v) q ≡ holder_of out q
holder_other out p q v h = ap or_none (get_numbered_other out p q v h)

-- who waits is able, and so is who is out
pub waiting_able : (image : Image) (waiting out : List ℕ) (p : ℕ) → ProcessesPlaced image waiting out → 1 ≤ number_times p waiting → able_in image p ≡ true
waiting_able image waiting out p placed h = is_one (able_in image p) (omega (arith, placed p, h))

pub held_able : (image : Image) (waiting out : List ℕ) (p : ℕ) → ProcessesPlaced image waiting out → IsOut out p → able_in image p ≡ true
held_able image waiting out p placed h = is_one (able_in image p) (omega (arith, placed p, some_is (holder_of out p) h))

-- ---- a take

module _ (image : Image) (waiting out : List ℕ) (placed : ProcessesPlaced image waiting out) (k p me : ℕ) (got : slice_get waiting k ≡ Some p) (one : 1 ≤ p) (within : p ≤ length out)
    (some : 1 ≤ me) where
  -- it was in the queue, so it is able
  pub taken_able : one_if (able_in image p) ≡ 1
  taken_able = let r = remove_own waiting k p got in omega (arith, r, placed p, one_at_most (able_in image p))

  own : number_times p (remove waiting k) + some_holder (holder_of (set_numbered out p me) p) ≡ one_if (able_in image p)
  own =
      let r = remove_own waiting k p got in
      let s : some_holder (holder_of (set_numbered out p me) p) ≡ 1 = ap some_holder (holder_own out p me one within) ∙ some_is me some in
      omega (arith, r, s, placed p, one_at_most (able_in image p), taken_able)

  other : (q : ℕ) → q ≢ p → number_times q (remove waiting k) + some_holder (holder_of (set_numbered out p me) q) ≡ one_if (able_in image q)
  other q h =
      let s : some_holder (holder_of (set_numbered out p me) q) ≡ some_holder (holder_of out q) = ap some_holder (holder_other out p q me h) in
      omega (arith, remove_other waiting k p q got h, s, placed q)

  pub placed_taken : ProcessesPlaced image (remove waiting k) (set_numbered out p me)
  placed_taken q = by (ℕ_discrete q p)
    where
      by : Dec (q ≡ p) → number_times q (remove waiting k) + some_holder (holder_of (set_numbered out p me) q) ≡ one_if (able_in image q)
      by (yes e) = subst (λ (i : ℕ). number_times i (remove waiting k) + some_holder (holder_of (set_numbered out p me) i) ≡ one_if (able_in image i)) (sym e) own
      by (no h) = other q h

-- ---- an action

module _ (before after : Image) (waiting out released : List ℕ) (p : ℕ) (placed : ProcessesPlaced before waiting out) (one : 1 ≤ p) (within : p ≤ length out)
    (held : 1 ≤ holder_of out p) (able : AbleAfter before after p released) where
  acted_own : number_times p (waiting ++ joining before.started after p released) + some_holder (holder_of (set_numbered out p 0) p) ≡ one_if (able_in after p)
  acted_own =
      let h = some_is (holder_of out p) held in
      let s : some_holder (holder_of (set_numbered out p 0) p) ≡ 0 = ap some_holder (holder_own out p 0 one within) in
      omega (
        arith,
        times_both p waiting (joining before.started after p released),
        h,
        s,
        placed p,
        one_at_most (able_in before p),
        joining_own before after p released able,
      )

  acted_other : (q : ℕ) → q ≢ p
      → number_times q (waiting ++ joining before.started after p released) + some_holder (holder_of (set_numbered out p 0) q) ≡ one_if (able_in after q)
  acted_other q g =
      let s : some_holder (holder_of (set_numbered out p 0) q) ≡ some_holder (holder_of out q) = ap some_holder (holder_other out p q 0 g) in
      omega (arith, times_both q waiting (joining before.started after p released), s, placed q, joining_other before after p released able q g)

  pub placed_acted : ProcessesPlaced after (waiting ++ joining before.started after p released) (set_numbered out p 0)
  placed_acted q = by (ℕ_discrete q p)
    where
      by : Dec (q ≡ p) → number_times q (waiting ++ joining before.started after p released) + some_holder (holder_of (set_numbered out p 0) q) ≡ one_if (able_in after q)
      by (yes e) =
          subst (λ (i : ℕ). number_times i (waiting ++ joining before.started after p released) + some_holder (holder_of (set_numbered out p 0) i) ≡ one_if (able_in after i)) (sym e) acted_own
      by (no h) = acted_other q h

-- ---- who has a tail

able_same : (a b : Image) (q : ℕ) → b.states ≡ a.states → able_in b q ≡ able_in a q
able_same a b q e = ap (λ (ss : List ProcessState). is_able (numbered ss q)) e

module _ (a b : Image) (tails : List ℕ) (p : ℕ) (is : (q : ℕ) → (tail_of tails q ≡ 0) ⊎ (able_in a q ≡ true)) where
  -- after more operators of a process that is able
  pub able_more : (n : ℕ) → b.states ≡ a.states → able_in a p ≡ true → (q : ℕ) → (tail_of (with_more tails p n) q ≡ 0) ⊎ (able_in b q ≡ true)
  able_more n same able q = by (ℕ_discrete q p)
    where
      other : q ≢ p → (tail_of tails q ≡ 0) ⊎ (able_in a q ≡ true) → (tail_of (with_more tails p n) q ≡ 0) ⊎ (able_in b q ≡ true)
      other h (inl e) = inl (tail_more_other tails p n q h ∙ e)
      other h (inr e) = inr (able_same a b q same ∙ e)

      by : Dec (q ≡ p) → (tail_of (with_more tails p n) q ≡ 0) ⊎ (able_in b q ≡ true)
      by (yes e) = inr (able_same a b q same ∙ ap (able_in a) e ∙ able)
      by (no h) = other h (is q)

  -- after its action
  pub able_without : (released : List ℕ) → AbleAfter a b p released → (q : ℕ) → (tail_of (tails_without tails p) q ≡ 0) ⊎ (able_in b q ≡ true)
  able_without released after q = by (ℕ_discrete q p)
    where
      other : q ≢ p → (tail_of tails q ≡ 0) ⊎ (able_in a q ≡ true) → (tail_of (tails_without tails p) q ≡ 0) ⊎ (able_in b q ≡ true)
      other h (inl e) = inl (tail_without_other tails p q h ∙ e)
      other h (inr e) =
          let was : one_if (able_in a q) ≡ 1 = ap one_if e in inr (is_one (able_in b q) (omega (arith, after.others q h, was)))

      by : Dec (q ≡ p) → (tail_of (tails_without tails p) q ≡ 0) ⊎ (able_in b q ≡ true)
      by (yes e) = inl (ap (tail_of (tails_without tails p)) e ∙ tail_without_own tails p)
      by (no h) = other h (is q)
