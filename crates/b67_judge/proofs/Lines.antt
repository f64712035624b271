-- Outputs, line by line.
use Rattle.std.proofs.Common.{arith, ◌≡◌, refl, ap, sym, ◌∙◌, ℕ, zero, suc, ◌+◌, ◌<◌, ◌≤◌, List, [], ◌∷◌, length, take, get_or, Option, Some, None}
use Rattle.std.proofs.lemmas.Option.{slice_get-get_or, slice_get_past}
use Rattle.b67_judge.specs.Judging.{IsFirstOther}

-- the lines before are the same, and this one is another
pub other_line : (xs ys : List (List ℕ)) (k : ℕ) (d : List ℕ) → k < length xs → k < length ys → take k xs ≡ take k ys → (get_or xs k d ≡ get_or ys k d → ⊥)
    → IsFirstOther xs ys (k + 1)
other_line xs ys k d l m same other =
    record {
      before = k;
      is = refl;
      same = same;
      other = λ e. let p : Some (get_or xs k d) ≡ Some (get_or ys k d) = sym (slice_get-get_or xs k d l) ∙ e ∙ slice_get-get_or ys k d m in other (some_in p);
    }
  where
    some_in : {a b : List ℕ} → Some a ≡ Some b → a ≡ b
    some_in {a} {b} p = ap (λ (o : Option (List ℕ)). value o) p
      where
        value : Option (List ℕ) → List ℕ
        value None = a
        value (Some x) = x

-- one of them ends here
pub shorter : (xs ys : List (List ℕ)) (k : ℕ) → take k xs ≡ take k ys → length xs ≤ k → k < length ys → IsFirstOther xs ys (k + 1)
shorter xs ys k same l m =
    record {
      before = k;
      is = refl;
      same = same;
      other = λ e. let p : None ≡ Some (get_or ys k []) = sym (slice_get_past xs k l) ∙ e ∙ slice_get-get_or ys k [] m in cc;
    }

pub longer_one : (xs ys : List (List ℕ)) (k : ℕ) → take k xs ≡ take k ys → k < length xs → length ys ≤ k → IsFirstOther xs ys (k + 1)
longer_one xs ys k same l m =
    record {
      before = k;
      is = refl;
      same = same;
      other = λ e. let p : Some (get_or xs k []) ≡ None = sym (slice_get-get_or xs k [] l) ∙ e ∙ slice_get_past ys k m in cc;
    }

take_whole : {A : Type 0} (xs : List A) (n : ℕ) → length xs ≤ n → take n xs ≡ xs
take_whole [] zero l = refl
take_whole [] (suc n) l = refl
take_whole (x ∷ xs) zero l = absurd (omega (arith, l))
take_whole {A} (x ∷ xs) (suc n) l = ap (λ (ys : List A). x ∷ ys) (take_whole xs n (omega (arith, l)))

-- all lines are the same
pub all_same : (xs ys : List (List ℕ)) (k : ℕ) → take k xs ≡ take k ys → length xs ≤ k → length ys ≤ k → xs ≡ ys
all_same xs ys k same l m = sym (take_whole xs k l) ∙ same ∙ take_whole ys k m

pub ruleset line_laws = (other_line, shorter, longer_one, all_same)
