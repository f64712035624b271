-- Texts of numbers one after another, and one more.
use Rattle.std.proofs.Common.{◌≡◌, ℕ, zero, suc, ◌+◌, List, ◌++◌, sym, ap, ◌∙◌, arith, Result, Ok, Err, if◌then◌else◌, is_ok}
use Rattle.std.specs.Result.{OnOk}
use Rattle.std.specs.List.{flat_map, range_with_len}
use Rattle.std.proofs.lemmas.List.{append_assoc, append-nil}

each_suc : (f : ℕ → List ℕ) (first count : ℕ) → flat_map f (range_with_len first (suc count)) ≡ flat_map f (range_with_len first count) ++ f (first + count)
each_suc f first zero = let same : first ≡ first + 0 = omega arith in append-nil (f first) ∙ ap f same
each_suc f first (suc count) =
    let same : first + 1 + count ≡ first + suc count = omega arith in
    ap (λ (t : List ℕ). f first ++ t)
    (each_suc f (first + 1) count ∙ ap (λ (k : ℕ). flat_map f (range_with_len (first + 1) count) ++ f k) same)
    ∙ sym (append_assoc (f first) (flat_map f (range_with_len (first + 1) count)) (f (first + suc count)))

-- what is appended to a text goes on with one more
pub each_more : (f : ℕ → List ℕ) (start text next : List ℕ) (first count more : ℕ) → more ≡ count + 1 → text ≡ start ++ flat_map f (range_with_len first count)
    → next ≡ text ++ f (first + count) → next ≡ start ++ flat_map f (range_with_len first more)
each_more f start text next first count more e is goes =
    let same : more ≡ suc count = omega (arith, e) in
    goes ∙ ap (λ (t : List ℕ). t ++ f (first + count)) is
    ∙ append_assoc start (flat_map f (range_with_len first count)) (f (first + count))
    ∙ ap (λ (t : List ℕ). start ++ t) (sym (each_suc f first count))
    ∙ ap (λ (k : ℕ). start ++ flat_map f (range_with_len first k)) (sym same)

-- the same from 0 on
pub each_first : (f : ℕ → List ℕ) (start text next : List ℕ) (count more : ℕ) → more ≡ count + 1 → text ≡ start ++ flat_map f (range_with_len 0 count)
    → next ≡ text ++ f count → next ≡ start ++ flat_map f (range_with_len 0 more)
each_first f start text next count more e is goes =
    let same : count ≡ 0 + count = omega arith in each_more f start text next 0 count more e is (goes ∙ ap (λ (k : ℕ). text ++ f k) same)

-- what is appended to a text in six steps
pub six_steps : {T E : Type 0} (r : Result T E) (old t u v w x new a b c d e f : List ℕ) → t ≡ old ++ a → u ≡ t ++ b → v ≡ u ++ c → w ≡ v ++ d → x ≡ w ++ e
    → new ≡ (if is_ok r then x ++ f else x) → OnOk r (new ≡ old ++ (a ++ b ++ c ++ d ++ e ++ f))
six_steps (Ok y) old t u v w x new a b c d e f one two three four five last =
    last ∙ rw (five, four, three, two, one) (simp append_assoc)
six_steps (Err y) old t u v w x new a b c d e f one two three four five last = tt
