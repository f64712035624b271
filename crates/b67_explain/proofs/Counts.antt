-- The counts of processes, one more at a time.
use Rattle.std.proofs.Common.{◌≡◌, ℕ, zero, suc, ◌+◌, ◌≤◌, List, [], ◌∷◌, ◌++◌, length, ap, ◌∙◌, arith}
use Rattle.b67_machine.specs.Kept.{operators_counted}

-- one more number after numbers that are those of processes from 1 on
pub counts_more : (xs : List ℕ) (x : ℕ) (own : ℕ → ℕ) → ((p : ℕ) → 1 ≤ p → p ≤ length xs → operators_counted xs p ≡ own p) → x ≡ own (length xs + 1) →
    (p : ℕ) → 1 ≤ p → p ≤ length (xs ++ x ∷ []) → operators_counted (xs ++ x ∷ []) p ≡ own p
counts_more xs x own are is zero one most = absurd (omega (arith, one))
counts_more [] x own are is (suc zero) one most = is ∙ ap own (omega arith)
counts_more [] x own are is (suc (suc p)) one most = absurd (omega (arith, most))
counts_more (y ∷ xs) x own are is (suc zero) one most = are 1 (omega arith) (omega arith)
counts_more (y ∷ xs) x own are is (suc (suc p)) one most =
    counts_more xs x (λ q. own (suc q)) (λ q a b. later q a (are (suc q) (omega arith) (omega (arith, b)))) (is ∙ ap own (omega arith)) (suc p) (omega arith) (omega (arith, most))
  where
    later : (q : ℕ) → 1 ≤ q → operators_counted (y ∷ xs) (suc q) ≡ own (suc q) → operators_counted xs q ≡ own (suc q)
    later zero a e = absurd (omega (arith, a))
    later (suc q) a e = e

pub no_counts : (own : ℕ → ℕ) (p : ℕ) → 1 ≤ p → p ≤ length {A = ℕ} [] → operators_counted [] p ≡ own p
no_counts own p one most = absurd (omega (arith, one, most))
