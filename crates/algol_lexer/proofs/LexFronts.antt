-- A text in capitals begins with one token at most, whatever limits it breaks.
use Rattle.std.proofs.Common.{◌≡◌, ℕ, ◌+◌, ◌<◌, Bool, true, List, [], ◌∷◌, ◌++◌, length, refl, sym, ◌∙◌, ap, subst, arith, length-append}
use Rattle.std.specs.List.{list_all}
use Rattle.std.proofs.lemmas.Bool.{and_parts, and_from}
use Rattle.std.proofs.lemmas.List.{nil_from_length}
use Rattle.algol_tree.specs.declared.token.TokenKind.{TokenKind}
use Rattle.algol_tree.specs.declared.token.TokenKind.TheVariants as kinds
use Rattle.algol_tree.specs.Spelling.{is_letter, is_digit, is_letter_or_digit, is_name, is_number, drawn, IsReserved, Spells, word, name, number, symbol}
use Rattle.algol_lexer.proofs.LexSpelling.{Shape, letters, digits, mark, shape_of, length_shape_pos, length_drawn_le, one_kind}

-- the bytes would not be a token with the next one
abbrev pub IsLongestOf : List ℕ → List ℕ → Type 0
IsLongestOf bytes after = (b : ℕ) (more : List ℕ) (k : TokenKind) → after ≡ b ∷ more → Spells (bytes ++ b ∷ []) k → ⊥

-- where all of a list passes, so does a front of it
list_all_front : (p : ℕ → Bool) (xs : List ℕ) (b : ℕ) (more : List ℕ) → list_all p (xs ++ b ∷ more) ≡ true → list_all p (xs ++ b ∷ []) ≡ true
list_all_front p [] b more h = let q = (and_parts (p b) (list_all p more) h).0 in and_from (p b) true q refl
list_all_front p (x ∷ xs) b more h = let q = and_parts (p x) (list_all p (xs ++ b ∷ more)) h in and_from (p x) (list_all p (xs ++ b ∷ [])) q.0 (list_all_front p xs b more q.1)

is_name_front : (xs : List ℕ) (b : ℕ) (more : List ℕ) → 0 < length xs → is_name (xs ++ b ∷ more) ≡ true → is_name (xs ++ b ∷ []) ≡ true
is_name_front [] b more some h = absurd (omega arith)
is_name_front (x ∷ xs) b more some h = let q = and_parts (is_letter x) (list_all is_letter_or_digit (xs ++ b ∷ more)) h in and_from (is_letter x) (list_all is_letter_or_digit (xs ++ b ∷ [])) q.0 (list_all_front is_letter_or_digit xs b more q.1)

is_number_front : (xs : List ℕ) (b : ℕ) (more : List ℕ) → 0 < length xs → is_number (xs ++ b ∷ more) ≡ true → is_number (xs ++ b ∷ []) ≡ true
is_number_front [] b more some h = absurd (omega arith)
is_number_front (x ∷ xs) b more some h = let q = and_parts (is_digit x) (list_all is_digit (xs ++ b ∷ more)) h in and_from (is_digit x) (list_all is_digit (xs ++ b ∷ [])) q.0 (list_all_front is_digit xs b more q.1)

-- no kind spells these bytes
abbrev pub IsUnspelled : List ℕ → Type 0
IsUnspelled bytes = (k : TokenKind) → Spells bytes k → ⊥

-- what has the shape of a name is a word or a name
pub name_spelled : (bytes : List ℕ) → is_name bytes ≡ true → IsUnspelled bytes → ⊥
name_spelled bytes h none =
    let other : IsReserved bytes → ⊥ = λ r. none (kinds.Word r.0) (subst (λ (l : List ℕ). Spells l (kinds.Word r.0)) (sym r.1) (word r.0)) in
    none (kinds.Name bytes) (name bytes h other)

-- Where a front of a spelled list is not empty, the front and the next byte are spelled too.
goes_on : (text xs : List ℕ) (b : ℕ) (more : List ℕ) → Shape text → text ≡ xs ++ b ∷ more → 0 < length xs → IsUnspelled (xs ++ b ∷ []) → ⊥
goes_on text xs b more (letters bytes h) e some none = name_spelled (xs ++ b ∷ []) (is_name_front xs b more some (ap is_name (sym e) ∙ h)) none
goes_on text xs b more (digits bytes h) e some none = none _ (number (xs ++ b ∷ []) (is_number_front xs b more some (ap is_number (sym e) ∙ h)))
goes_on text xs b more (mark s) e some none =
    let sizes : length (drawn s) ≡ length xs + length (b ∷ more) = ap length e ∙ length-append xs (b ∷ more) in
    let no_more : more ≡ [] = nil_from_length more (omega (arith, length_drawn_le s)) in
    none (kinds.Symbol s) (subst (λ (l : List ℕ). Spells l (kinds.Symbol s)) (e ∙ ap (λ (l : List ℕ). xs ++ b ∷ l) no_more) (symbol s))

-- Of two fronts of one text, one begins with the other.
data Compared : List ℕ → List ℕ → List ℕ → List ℕ → Type 0 where
  same : (xs ys a b : List ℕ) → xs ≡ ys → a ≡ b → Compared xs a ys b
  shorter : (xs ys a b : List ℕ) (x : ℕ) (more : List ℕ) → ys ≡ xs ++ x ∷ more → a ≡ x ∷ (more ++ b) → Compared xs a ys b
  longer : (xs ys a b : List ℕ) (x : ℕ) (more : List ℕ) → xs ≡ ys ++ x ∷ more → b ≡ x ∷ (more ++ a) → Compared xs a ys b

compared_cons : (x : ℕ) (xs ys a b : List ℕ) → Compared xs a ys b → Compared (x ∷ xs) a (x ∷ ys) b
compared_cons x xs ys a b (same xs' ys' a' b' p q) = same (x ∷ xs) (x ∷ ys) a b (ap (λ (l : List ℕ). x ∷ l) p) q
compared_cons x xs ys a b (shorter xs' ys' a' b' y more p q) = shorter (x ∷ xs) (x ∷ ys) a b y more (ap (λ (l : List ℕ). x ∷ l) p) q
compared_cons x xs ys a b (longer xs' ys' a' b' y more p q) = longer (x ∷ xs) (x ∷ ys) a b y more (ap (λ (l : List ℕ). x ∷ l) p) q

compared : (xs ys a b : List ℕ) → xs ++ a ≡ ys ++ b → Compared xs a ys b
compared [] [] a b e = same [] [] a b refl e
compared [] (y ∷ ys) a b e = shorter [] (y ∷ ys) a b y ys refl e
compared (x ∷ xs) [] a b e = longer (x ∷ xs) [] a b x xs refl (sym e)
compared (x ∷ xs) (y ∷ ys) a b e =
    let heads : x ≡ y = cc in
    let tails : xs ++ a ≡ ys ++ b = cc in
    subst (λ (z : ℕ). Compared (x ∷ xs) a (z ∷ ys) b) heads (compared_cons x xs ys a b (compared xs ys a b tails))

-- what two fronts of one text are that are tokens, and no longer ones
pub record IsOneToken (xs ys a b : List ℕ) (k j : TokenKind) : Type 0 where
  pub bytes : xs ≡ ys
  pub after : a ≡ b
  pub kind : k ≡ j

one_front_at : (xs ys a b : List ℕ) (k j : TokenKind) → Compared xs a ys b → Spells xs k → IsLongestOf xs a → Spells ys j → IsLongestOf ys b → IsOneToken xs ys a b k j
one_front_at xs ys a b k j (same xs' ys' a' b' p q) s g t h = record { bytes = p; after = q; kind = one_kind s (subst (λ (l : List ℕ). Spells l j) (sym p) t) }
one_front_at xs ys a b k j (shorter xs' ys' a' b' x more p q) s g t h = absurd (goes_on ys xs x more (shape_of t) p (length_shape_pos (shape_of s)) (λ i u. g x (more ++ b) i q u))
one_front_at xs ys a b k j (longer xs' ys' a' b' x more p q) s g t h = absurd (goes_on xs ys x more (shape_of s) p (length_shape_pos (shape_of t)) (λ i u. h x (more ++ a) i q u))

pub one_front : (xs ys a b : List ℕ) (k j : TokenKind) → xs ++ a ≡ ys ++ b → Spells xs k → IsLongestOf xs a → Spells ys j → IsLongestOf ys b → IsOneToken xs ys a b k j
one_front xs ys a b k j e = one_front_at xs ys a b k j (compared xs ys a b e)
