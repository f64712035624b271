-- How many operators are each process's after plain operators, and after an entry.
use Rattle.std.specs.Prelude.{nat_eq, if◌then◌else◌}
use Rattle.std.proofs.Common.{◌≡◌, ◌≢◌, refl, sym, ap, subst, ◌∙◌, ℕ, ◌+◌, ◌≤◌, Bool, List, ◌∷◌, arith}
use Rattle.std.proofs.Math.Decide.{ℕ_discrete}
use Rattle.std.proofs.lemmas.Bool.{eq-eqb, ne_eqb}
use Rattle.b67_table.specs.Runs.{count_of}
use Rattle.b67_machine.specs.Kept.{Counts, operators_counted}
use Rattle.b67_machine.proofs.Chains.{counts_then}
use Rattle.b67_stands.specs.Tails.{with_more, tails_without, tail_of}
use Rattle.b67_stands.proofs.Tails.{tail_more_own, tail_more_other, tail_without_own, tail_without_other}

-- ---- one process's number in a sum

has_none : (c p k : ℕ) → p ≢ k → (if nat_eq p k then c else 0) ≡ 0
has_none c p k h = ap (λ (b : Bool). if b then c else 0) (ne_eqb p k h)

pub has_some : (c p k : ℕ) → p ≡ k → (if nat_eq p k then c else 0) ≡ c
has_some c p k e = ap (λ (b : Bool). if b then c else 0) (eq-eqb p k e)

-- ---- counts after plain operators, and after an entry

pub counts_more : (before after tails : List ℕ) (own : ℕ → ℕ) (p n : ℕ) → 1 ≤ p → Counts before p n after → ((q : ℕ) → operators_counted before q ≡ own q + tail_of tails q)
    → (q : ℕ) → operators_counted after q ≡ own q + tail_of (with_more tails p n) q
counts_more before after tails own p n one c is q = by (ℕ_discrete q p)
  where
    by : Dec (q ≡ p) → operators_counted after q ≡ own q + tail_of (with_more tails p n) q
    by (yes e) =
        let here : operators_counted after p ≡ own p + tail_of (with_more tails p n) p = omega (arith, c.own, is p, tail_more_own tails p n one) in
        subst (λ (k : ℕ). operators_counted after k ≡ own k + tail_of (with_more tails p n) k) (sym e) here
    by (no h) = omega (arith, c.others q h, is q, tail_more_other tails p n q h)

pub counts_entry : (before after tails h counts : List ℕ) (p n : ℕ) → Counts before p (n + 1) after → ((q : ℕ) → operators_counted before q ≡ count_of q h counts + tail_of tails q)
    → (q : ℕ) → operators_counted after q ≡ count_of q (p ∷ h) ((tail_of tails p + n + 1) ∷ counts) + tail_of (tails_without tails p) q
counts_entry before after tails h counts p n c is q = by (ℕ_discrete q p)
  where
    by : Dec (q ≡ p) → operators_counted after q ≡ count_of q (p ∷ h) ((tail_of tails p + n + 1) ∷ counts) + tail_of (tails_without tails p) q
    by (yes e) =
        let own = has_some (tail_of tails p + n + 1) p p refl in
        let here : operators_counted after p ≡ count_of p (p ∷ h) ((tail_of tails p + n + 1) ∷ counts) + tail_of (tails_without tails p) p =
        omega (arith, c.own, is p, own, tail_without_own tails p) in
        subst (λ (k : ℕ). operators_counted after k ≡ count_of k (p ∷ h) ((tail_of tails p + n + 1) ∷ counts) + tail_of (tails_without tails p) k) (sym e) here
    by (no g) = omega (arith, c.others q g, is q, has_none (tail_of tails p + n + 1) q p g, tail_without_other tails p q g)

-- none more
pub no_counts : (before between after : List ℕ) (p n : ℕ) → Counts before p n between → Counts between p 0 after → Counts before p n after
no_counts before between after p n c d =
    let same : n + 0 ≡ n = omega arith in subst (λ (k : ℕ). Counts before p k after) same (counts_then before between after p n 0 c d)

-- by the same history
pub count_same : (q : ℕ) (h g c d : List ℕ) → h ≡ g → c ≡ d → count_of q h c ≡ count_of q g d
count_same q h g c d e f = ap (λ (x : List ℕ). count_of q x c) e ∙ ap (count_of q g) f
