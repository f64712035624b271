-- Lists by number: what is read where, and what stays.
use Rattle.std.proofs.Common.{◌≡◌, ℕ, zero, suc, ◌+◌, ◌<◌, Bool, true, false, if◌then◌else◌, List, [], ◌∷◌, ◌++◌, length, get_or, set, Option, Some, None, replicate, refl, ap, arith, rules, zero-add, sym, ◌∙◌}
use Rattle.std.proofs.lemmas.Option.{slice_get_read}
use Rattle.std.proofs.lemmas.List.{set-get_or}
use Rattle.b67_store.specs.Store.{at_number, opened, opened_at}

-- what is read at a number that the list reaches
pub at_read : {X : Type 0} (xs : List (Option X)) (n : ℕ) (x : Option X) → n < length xs → x ≡ get_or xs n x → at_number xs n ≡ x
at_read xs n x p q = ap opened (slice_get_read xs (length xs) n x refl p q)

-- putting back what is there changes nothing
pub left_there : {X : Type 0} (xs : List (Option X)) (n : ℕ) (x : Option X) → x ≡ get_or xs n x → set xs n x ≡ xs
left_there xs n x q = ap (λ z. set xs n z) q ∙ set-get_or xs n x

stored_at : {X : Type 0} (F : Option X → Option X) (xs : List (Option X)) (n : ℕ) (x y : Option X) (b : Bool) → n < length xs → x ≡ get_or xs n x → y ≡ (if b then F x else x) → set xs n y ≡ (if b then set xs n (F (at_number xs n)) else xs)
stored_at F xs n x y true p q h = rw (h, at_read xs n x p q) refl
stored_at F xs n x y false p q h = rw h (left_there xs n x q)

-- what is stored at a number that the list reaches, where a call may leave what is there
pub stored : {X : Type 0} (F : Option X → Option X) (xs seen : List (Option X)) (i n : ℕ) (x y : Option X) (b : Bool) → xs ≡ seen → i ≡ n → i < length xs → x ≡ get_or xs i x → y ≡ (if b then F x else x) → set xs i y ≡ (if b then set seen n (F (at_number seen n)) else seen)
stored F xs seen i n x y b s e p q h = rw (← s, ← e) (stored_at F xs i x y b p q h)

-- what was taken from a number that the list reaches
pub taken_from : {X : Type 0} (xs : List (Option X)) (n : ℕ) (x r : Option X) (y : X) → n < length xs → x ≡ get_or xs n x → r ≡ x → r ≡ Some y → at_number xs n ≡ Some y
taken_from xs n x r y p q e f = at_read xs n x p q ∙ sym e ∙ f

pub ruleset slots = at_read

-- what opening at a number that the list reaches leaves
pub opened_within : {X : Type 0} (xs : List (Option X)) (n : ℕ) (x : X) → n < length xs → opened_at xs n x ≡ set xs n (Some x)
opened_within [] n x p = absurd (search rules)
opened_within (y ∷ ys) zero x p = refl
opened_within (y ∷ ys) (suc n) x p = ap (λ z. y ∷ z) (opened_within ys n x (omega arith))

beyond : {X : Type 0} (k n : ℕ) (x : X) → n ≡ k → opened_at [] n x ≡ replicate k None ++ Some x ∷ []
beyond zero zero x e = refl
beyond zero (suc n) x e = absurd (omega arith)
beyond (suc k) zero x e = absurd (omega arith)
beyond (suc k) (suc n) x e = ap (λ z. None ∷ z) (beyond k n x (omega arith))

-- and at a number beyond it
pub opened_beyond : {X : Type 0} (xs : List (Option X)) (n k : ℕ) (x : X) → n ≡ length xs + k → opened_at xs n x ≡ (xs ++ replicate k None) ++ Some x ∷ []
opened_beyond [] n k x e = rw e (beyond k (0 + k) x (zero-add k))
opened_beyond (y ∷ ys) zero k x e = absurd (omega arith)
opened_beyond (y ∷ ys) (suc n) k x e = ap (λ z. y ∷ z) (opened_beyond ys n k x (omega arith))

-- and at the first number beyond it
pub opened_next : {X : Type 0} (xs : List (Option X)) (n : ℕ) (x : X) → n ≡ length xs → opened_at xs n x ≡ xs ++ Some x ∷ []
opened_next [] zero x e = refl
opened_next [] (suc n) x e = absurd (omega arith)
opened_next (y ∷ ys) zero x e = absurd (omega arith)
opened_next (y ∷ ys) (suc n) x e = ap (λ z. y ∷ z) (opened_next ys n x (omega arith))

pub ruleset openings = (at_read, opened_within, opened_beyond)
