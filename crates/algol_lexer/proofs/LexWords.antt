-- The table of the reserved words has each of them, as it is written, and nothing else.
use Rattle.std.proofs.Common.{◌≡◌, ℕ, zero, suc, ◌-◌, Bool, true, false, cond, List, [], ◌∷◌, ◌⊎◌, inl, inr, Option, Some, None, MatchOption, map, slice_get, refl, sym, ◌∙◌, ap}
use Rattle.std.specs.Prelude.{if◌then◌else◌}
use Rattle.std.specs.Borrow.{Bor}
use Rattle.std.specs.Option.{option_map}
use Rattle.std.specs.List.{list_all}
use Rattle.std.proofs.lemmas.Option.{slice_get-map}
use Rattle.std.specs.Str.{bytes_eq}
use Rattle.std.proofs.lemmas.Bool.{and_parts}
use Rattle.std.proofs.lemmas.Slice.Eq.{bytes_eq-Decides}
use Rattle.algol_tree.specs.declared.token.Reserved.{Reserved}
use Rattle.algol_tree.specs.declared.token.Reserved.TheVariants as reserved
use Rattle.algol_tree.specs.Spelling.{written, IsReserved}
use Rattle.algol_lexer.specs.Words.{first_written, rows_at, rows_or_none, reserved_word_in, word_of}
use Rattle.algol_lexer.specs.declared.words.TheConstants.{TABLE}

-- ---- rows as words and texts

-- `spelled` reads a name, and `rows` the rows of a letter
module _ {Name Place : Type 0} (spelled : Name → List ℕ) (rows : Place → List (Reserved × Name)) where
  abbrev pub plain : Place → List (Reserved × List ℕ)
  plain place = map (λ (row : Reserved × Name). (row.0, spelled row.1)) (rows place)

module _ {Name : Type 0} (spelled : Name → List ℕ) where
  first_plain : (bytes : List ℕ) (rs : List (Reserved × Name)) →
      first_written spelled bytes rs ≡ first_written (λ n. n) bytes (map (λ (row : Reserved × Name). (row.0, spelled row.1)) rs)
  first_plain bytes [] = refl
  first_plain bytes (row ∷ rs) = ap (λ o. if bytes_eq (spelled row.1) bytes then Some row.0 else o) (first_plain bytes rs)

-- the table of the code
abbrev words : List (List (Reserved × List ℕ))
words = map (plain (λ name. name.now) (λ place. place.now)) TABLE

abbrev found : List ℕ → Option Reserved
found bytes = first_written (λ n. n) bytes (rows_at (λ p. p) words bytes)

-- each word stands in the table
has_written : (w : Reserved) → found (written w) ≡ Some w
has_written w = elim w as (λ v. found (written v) ≡ Some v) [ reserved.And ↦ refl | _ ↦ refl ]

-- no two words are written alike
pub written_injective : (v w : Reserved) → written v ≡ written w → v ≡ w
written_injective v w e =
    let same : Some v ≡ Some w = sym (has_written v) ∙ ap found e ∙ has_written w in
    cc

-- a row tells how its word is written
abbrev is_row : Reserved × List ℕ → Bool
is_row row = bytes_eq row.1 (written row.0)

-- what is found in such rows is written so
found_in : (bytes : List ℕ) (rows : List (Reserved × List ℕ)) → list_all is_row rows ≡ true → MatchOption (first_written (λ n. n) bytes rows) Unit (λ word. bytes ≡ written word)
found_in bytes [] h = tt
found_in bytes (row ∷ rows) h =
    let p = and_parts (is_row row) (list_all is_row rows) h in
    let P : Bool → Type 0 = λ b. bytes_eq row.1 bytes ≡ b → MatchOption (cond b (Some row.0) (first_written (λ n. n) bytes rows)) Unit (λ word. bytes ≡ written word) in
    elim (bytes_eq row.1 bytes) as P [
      | true ↦ λ e. sym ((bytes_eq-Decides row.1 bytes).0 e) ∙ (bytes_eq-Decides row.1 (written row.0)).0 p.0
      | false ↦ λ e. found_in bytes rows p.1
    ] refl

-- the rows of each letter are such rows
at_place : (places : List (List (Reserved × List ℕ))) (i : ℕ) → list_all (list_all is_row) places ≡ true → list_all is_row (rows_or_none (λ p. p) (slice_get places i)) ≡ true
at_place [] i h = refl
at_place (p ∷ ps) zero h = (and_parts (list_all is_row p) (list_all (list_all is_row) ps) h).0
at_place (p ∷ ps) (suc i) h = at_place ps i (and_parts (list_all is_row p) (list_all (list_all is_row) ps) h).1

are_rows : (bytes : List ℕ) → list_all is_row (rows_at (λ p. p) words bytes) ≡ true
are_rows [] = refl
are_rows (first ∷ more) = at_place words (first - 65) refl

-- a text is the word that the table finds, or else no word
settled : (bytes : List ℕ) (o : Option Reserved) → found bytes ≡ o → MatchOption o Unit (λ word. bytes ≡ written word) → MatchOption o (IsReserved bytes → ⊥) (λ word. bytes ≡ written word)
settled bytes (Some word) e h = h
settled bytes None e h = λ r.
    let same : Some r.0 ≡ None = sym (has_written r.0) ∙ ap found (sym r.1) ∙ e in
    absurd cc

word_or_none : (bytes : List ℕ) (o : Option Reserved) → o ≡ found bytes → MatchOption o (IsReserved bytes → ⊥) (λ word. bytes ≡ written word)
word_or_none bytes o e = settled bytes o (sym e) (rw e (found_in bytes (rows_at (λ p. p) words bytes) (are_rows bytes)))

-- ---- what is read in a table of such rows

module _ (table : List (Bor (List (Reserved × Bor (List ℕ))))) where
  -- the rows for a text with this first byte
  at_first : (bytes : List ℕ) (b i : ℕ) (o : Option (Bor (List (Reserved × Bor (List ℕ))))) → Some b ≡ slice_get bytes 0 → i ≡ b - 65 → slice_get table i ≡ o →
      rows_or_none (λ rows. rows.now) o ≡ rows_at (λ rows. rows.now) table bytes
  at_first [] b i o first letter there = absurd cc
  at_first (x ∷ xs) b i o first letter there =
      let front : b ≡ x = cc in
      ap (rows_or_none (λ rows. rows.now)) (sym there ∙ ap (slice_get table) (letter ∙ ap (λ z. z - 65) front))

  pub reads_some : (bytes : List ℕ) (b i : ℕ) (rows : Bor (List (Reserved × Bor (List ℕ)))) (o : Option Reserved) → Some b ≡ slice_get bytes 0 → i ≡ b - 65 →
      slice_get table i ≡ Some rows → o ≡ reserved_word_in rows.now bytes → o ≡ word_of table bytes
  unfolding word_of
  reads_some bytes b i rows o first letter there e = e ∙ ap (λ rs. reserved_word_in rs bytes) (at_first bytes b i (Some rows) first letter there)

  pub reads_none : (bytes : List ℕ) (b i : ℕ) → Some b ≡ slice_get bytes 0 → i ≡ b - 65 → slice_get table i ≡ None → None ≡ word_of table bytes
  unfolding word_of
  reads_none bytes b i first letter there = ap (λ rs. reserved_word_in rs bytes) (at_first bytes b i None first letter there)

  pub reads_empty : (bytes : List ℕ) → None ≡ slice_get bytes 0 → None ≡ word_of table bytes
  unfolding word_of
  reads_empty [] e = refl
  reads_empty (x ∷ xs) e = absurd cc

  -- the rows are those of the table of the code
  module _ (same : map (plain (λ name. name.now) (λ rows. rows.now)) table ≡ words) where
    same_rows : (bytes : List ℕ) → map (λ (row : Reserved × Bor (List ℕ)). (row.0, row.1.now)) (rows_at (λ rows. rows.now) table bytes) ≡ rows_at (λ p. p) words bytes
    same_rows [] = refl
    same_rows (x ∷ xs) =
        mapped (slice_get table (x - 65)) ∙ ap (rows_or_none (λ p. p)) (sym (slice_get-map (plain (λ name. name.now) (λ rows. rows.now)) table (x - 65))
        ∙ ap (λ t. slice_get t (x - 65)) same)
      where
        mapped : (o : Option (Bor (List (Reserved × Bor (List ℕ))))) →
            map (λ (row : Reserved × Bor (List ℕ)). (row.0, row.1.now)) (rows_or_none (λ rows. rows.now) o) ≡
            rows_or_none (λ p. p) (option_map (plain (λ name. name.now) (λ rows. rows.now)) o)
        mapped None = refl
        mapped (Some p) = refl

    pub is_word_or_none : (bytes : List ℕ) (o : Option Reserved) → o ≡ word_of table bytes → MatchOption o (IsReserved bytes → ⊥) (λ word. bytes ≡ written word)
    unfolding word_of
    is_word_or_none bytes o e =
        word_or_none bytes o
        (e ∙ first_plain (λ (name : Bor (List ℕ)). name.now) bytes (rows_at (λ rows. rows.now) table bytes) ∙ ap (first_written (λ n. n) bytes) (same_rows bytes))

-- bytes are a reserved word or are not
either : (bytes : List ℕ) (o : Option Reserved) → MatchOption o (IsReserved bytes → ⊥) (λ word. bytes ≡ written word) → IsReserved bytes ⊎ (IsReserved bytes → ⊥)
either bytes (Some word) h = inl (word, h)
either bytes None h = inr h

pub reserved_or_not : (bytes : List ℕ) → IsReserved bytes ⊎ (IsReserved bytes → ⊥)
reserved_or_not bytes = either bytes (found bytes) (word_or_none bytes (found bytes) refl)
