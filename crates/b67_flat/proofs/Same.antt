-- Lists by number that are seen alike, and the spans of what is left where the last of a list is forgotten.
use Rattle.std.proofs.Common.{◌≡◌, ◌≢◌, ⊎_elim, subst, Bool, true, false, if◌then◌else◌, ℕ, suc, ◌+◌, ◌<◌, ◌≤◌, List, [], ◌∷◌, ◌++◌, length, set, Option, Some, None, refl, sym, ap, ◌∙◌, arith}
use Rattle.std.specs.Prelude.{is_some, option_map}
use Rattle.std.proofs.lemmas.Bool.{cases_eq, cases_lt}
use Rattle.b67_store.proofs.StoreLaws.{closed_here, changed_others}
use Rattle.b67_store.specs.Store.{at_number, closed_at}
use Rattle.b67_list.proofs.Answered.{none_there}
use Rattle.b67_flat.specs.declared.Span.{Span}
use Rattle.b67_flat.specs.declared.row_table.HeldRow.{HeldRow}
use Rattle.b67_flat.specs.Flat.{IsHeld, AreSpans}

-- what is open at each number, and how many there are, is all of a list
pub all_numbers : {X : Type 0} (xs ys : List (Option X)) → length xs ≡ length ys → ((k : ℕ) → k < length xs → at_number xs k ≡ at_number ys k) → xs ≡ ys
all_numbers [] [] e h = refl
all_numbers [] (y ∷ ys) e h = absurd (omega (arith, e))
all_numbers (x ∷ xs) [] e h = absurd (omega (arith, e))
all_numbers {X = X} (x ∷ xs) (y ∷ ys) e h =
    let same : x ≡ y = h 0 (omega arith) in
    ap (λ (z : Option X). z ∷ xs) same ∙ ap (λ (zs : List (Option X)). y ∷ zs) (all_numbers xs ys (omega (arith, e)) (λ k p. h (suc k) (omega (arith, p))))

-- what holds at each number below another one, and at that one
pub one_more : (P : ℕ → Type 0) (n : ℕ) → ((k : ℕ) → k < n → P k) → P n → (k : ℕ) → k < n + 1 → P k
one_more P n h here k p = ⊎_elim
    (λ (q : k < n). h k q)
    (λ (q : n ≤ k). let e : n ≡ k = omega (arith, p, q) in subst P e here)
    (cases_lt k n)

pub closed_from : {X : Type 0} (old new : List (Option X)) (ok : Bool) (n : ℕ) → ok ≡ is_some (at_number old n) → new ≡ (if ok then closed_at old n else old)
    → ((k : ℕ) → n + 1 ≤ k → at_number old k ≡ None) → (k : ℕ) → n ≤ k → at_number new k ≡ None
closed_from {X = X} old new true n found is h k p =
    ap (λ (xs : List (Option X)). at_number xs k) is
    ∙ ⊎_elim
    (λ (e : k ≡ n). ap (λ (i : ℕ). at_number (set old n None) i) e ∙ closed_here old n)
    (λ (d : k ≢ n). changed_others old n k None d ∙ h k (omega (arith, p, d)))
    (cases_eq k n)
closed_from {X = X} old new false n found is h k p =
    ap (λ (xs : List (Option X)). at_number xs k) is
    ∙ ⊎_elim
    (λ (e : k ≡ n). ap (λ (i : ℕ). at_number old i) e ∙ none_there (at_number old n) (sym found))
    (λ (d : k ≢ n). h k (omega (arith, p, d)))
    (cases_eq k n)

pub unmapped : {X Y : Type 0} (f : X → Y) (o : Option X) → option_map f o ≡ None → o ≡ None
unmapped f None e = refl
unmapped f (Some x) e = cc

-- the spans are those of the rows that are open, whatever else the list has
module _ (spans : List Span) (rows left : List (Option HeldRow)) (alike : (k : ℕ) → at_number left k ≡ at_number rows k) where
  still_held : (row : ℕ) (s : Span) → IsHeld rows row s → IsHeld left row s
  still_held k s (x, e, f) = (x, alike k ∙ e, f)

  pub spans_still : AreSpans spans rows → AreSpans spans left
  spans_still are =
      record {
        of_rows = λ k x e. are.of_rows k x (sym (alike k) ∙ e);
        no_other = λ s o. still_held s.row s (are.no_other s o);
      }
