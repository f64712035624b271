-- Numbers, and tests of them.
use Rattle.std.proofs.Common.{Bool, List, None, Some, ap, arith, cond, false, refl, replicate, suc, true, zero, ℕ, ◌*◌, ◌++◌, ◌+◌, ◌-◌, ◌<◌, ◌∙◌, ◌∷◌, ◌≡◌, ◌≢◌, ◌≤◌}
use Rattle.std.proofs.lemmas.Bool.Decides.{nat_tests}
use Rattle.std.specs.Prelude.{nat_lt, ◌==◌}

pub same_number : (a b : ℕ) → (a == b) ≡ true → a ≡ b
same_number a b e = grind (arith, nat_tests, e)

pub ltb_false : (m n : ℕ) → nat_lt m n ≡ false → n ≤ m
ltb_false m n h = grind (arith, nat_tests)

pub number_itself : (a : ℕ) → (a == a) ≡ true
number_itself a = grind (arith, nat_tests)

pub some_same : {X : Type 0} (x y : X) → Some x ≡ Some y → x ≡ y
some_same x y e = cc

pub replicate_parts : (n m p : ℕ) → replicate (n + m) p ≡ replicate n p ++ replicate m p
replicate_parts zero m p = let r : zero + m ≡ m = omega arith in ap (λ (k : ℕ). replicate k p) r
replicate_parts (suc n) m p = let r : suc n + m ≡ suc (n + m) = omega arith in ap (λ (k : ℕ). replicate k p) r ∙ ap (λ (xs : List ℕ). p ∷ xs) (replicate_parts n m p)

pub number_told : (a b : ℕ) → a ≡ b → (a == b) ≡ true
number_told a b e = grind (arith, nat_tests, e)

pub one_target : (a b : ℕ) → Some a ≡ Some b → a ≡ b
one_target a b e = cc

pub ltb_true : (m n : ℕ) → nat_lt m n ≡ true → m < n
ltb_true m n h = grind (arith, nat_tests)

pub more_room : (m n k : ℕ) → m ≤ n → m * k ≤ n * k
more_room m n k h = grind arith

pub later_still : (l m n : ℕ) → l ≤ m → m ≤ n → l ≤ n
later_still l m n h k = omega (arith, h, k)

pub smaller : (a b c : ℕ) → b < a → c ≡ suc b → a - c < a - b
smaller a b c l e = omega arith

pub number_less : (a b : ℕ) → a < b → (a == b) ≡ false
number_less a b l = grind (arith, nat_tests, l)

pub ltb_less : (a b : ℕ) → a < b → nat_lt a b ≡ true
ltb_less a b h = grind (arith, nat_tests)

pub number_different : (a b : ℕ) → a ≢ b → (a == b) ≡ false
number_different a b n = grind (arith, nat_tests)

pub ltb_not_less : (a b : ℕ) → b ≤ a → nat_lt a b ≡ false
ltb_not_less a b h = grind (arith, nat_tests)

pub not_less : (a b : ℕ) → (a < b → ⊥) → b ≤ a
not_less a b h = omega (arith, h)

pub number_turned : (i j : ℕ) → (i == j) ≡ (j == i)
number_turned i j = grind arith

pub number_other : (a b : ℕ) → (a == b) ≡ false → a ≡ b → ⊥
number_other a b e p = grind (arith, e, p)

pub cond_none : (b : Bool) (n : ℕ) → cond b (Some n) None ≡ None → b ≡ false
cond_none true n e = absurd cc
cond_none false n e = refl

pub absurd_truth : {A : Type 0} → true ≡ false → A
absurd_truth e = cc

pub none_some : {A B : Type 0} {x : A} → None ≡ Some x → B
none_some e = cc
