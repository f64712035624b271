-- Tails of the process of the next entry.
use Rattle.std.specs.Prelude.{replicate}
use Rattle.std.proofs.Common.{◌≡◌, subst, ℕ, zero, suc, ◌+◌, ◌-◌, ◌≤◌, List, [], ◌∷◌, ◌++◌, arith}
use Rattle.b67_segment.specs.declared.code.Code.{Code}
use Rattle.b67_table.specs.Image.{Image}
use Rattle.b67_table.specs.Runs.{Plains, stay, Tails, none, next}
use Rattle.b67_machine.specs.Replaying.{tails_of}

-- none of the processes before it has a tail
one_tail : (code : Code) (q k n : ℕ) (a b : Image) → Plains code (q + k) a n b → Tails code q a (replicate k 0 ++ n ∷ []) b
one_tail code q zero n a b plains = let same : q + 0 ≡ q = omega arith in next (subst (λ (p : ℕ). Plains code p a n b) same plains) none
one_tail code q (suc k) n a b plains =
    let same : q + suc k ≡ q + 1 + k = omega arith in
    next stay (one_tail code (q + 1) k n a b (subst (λ (p : ℕ). Plains code p a n b) same plains))

pub tail_of_next : (code : Code) (p n : ℕ) (left : List ℕ) (a b : Image) → 1 ≤ p → Plains code p a n b → Tails code 1 a (tails_of (p ∷ left) n) b
tail_of_next code p n left a b one plains =
    let same : p ≡ 1 + (p - 1) = omega (arith, one) in
    one_tail code 1 (p - 1) n a b (subst (λ (q : ℕ). Plains code q a n b) same plains)

pub no_tail : (code : Code) (left : List ℕ) (a : Image) → Tails code 1 a (tails_of left 0) a
no_tail code [] a = none
no_tail code (p ∷ left) a = one_tail code 1 (p - 1) 0 a a stay
