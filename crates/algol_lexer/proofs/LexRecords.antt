-- The records of a text, one after the other.
use Rattle.std.proofs.Common.{◌≡◌, ℕ, ◌+◌, ◌<◌, ◌≤◌, Bool, true, false, not, cond, List, [], ◌∷◌, length, take, drop, refl, sym, ◌∙◌, ap, subst, arith, length-take-le}
use Rattle.std.specs.Prelude.{Some, None, position}
use Rattle.std.specs.List.{list_all, slice_split, onto_first}
use Rattle.std.specs.Str.Lines.{strip_carriage_return}
use Rattle.std.proofs.lemmas.Bool.{and_parts}
use Rattle.std.proofs.lemmas.List.{take_all}
use Rattle.std.proofs.lemmas.List.Splits.{slice_split_first, slice_split-cons_no}
use Rattle.algol_tree.specs.declared.TheConstants.{LAST_COLUMN}
use Rattle.algol_tree.specs.Records.{Record, is_line_feed, records_from, has_dollar, columns_of}
use Rattle.algol_tree.specs.Lexes.{end_of_text}
use Rattle.algol_lexer.proofs.LexStrings.{first_is, none_passes}

-- a split has a part
split_cons : (p : ℕ → Bool) (xs : List ℕ) → (part : List ℕ) × (parts : List (List ℕ)) × (slice_split p xs ≡ part ∷ parts)
split_cons p [] = ([], [], refl)
split_cons p (x ∷ xs) =
    let ih = split_cons p xs in
    elim (p x) as (λ v. (part : List ℕ) × (parts : List (List ℕ)) × (cond v ([] ∷ slice_split p xs) (onto_first x (slice_split p xs)) ≡ part ∷ parts)) [ true ↦ ([], slice_split p xs, refl) | false ↦ (x ∷ ih.0, ih.1, ap (onto_first x) ih.2) ]

pub split_some : (p : ℕ → Bool) (xs : List ℕ) → 0 < length (slice_split p xs)
split_some p xs = let q = split_cons p xs in omega (arith, ap length q.2)

records_cons : (line from : ℕ) (bytes : List ℕ) (parts : List (List ℕ)) → 0 < length parts → records_from line from (bytes ∷ parts) ≡ record { line = line; from = from; bytes = strip_carriage_return bytes } ∷ records_from (line + 1) (from + length bytes + 1) parts
records_cons line from bytes [] some = absurd (omega arith)
records_cons line from bytes (part ∷ parts) some = refl

-- the record that an LF ends, and those after it
pub records_next : (line from : ℕ) (rest : List ℕ) (k : ℕ) → position is_line_feed rest ≡ Some k → records_from line from (slice_split is_line_feed rest) ≡ record { line = line; from = from; bytes = strip_carriage_return (take k rest) } ∷ records_from (line + 1) (from + (k + 1)) (slice_split is_line_feed (drop (k + 1) rest))
records_next line from rest k e =
    let first = first_is is_line_feed rest k e in
    let P : ℕ → Type 0 = λ n. slice_split is_line_feed rest ≡ take n rest ∷ slice_split is_line_feed (drop (n + 1) rest) in
    let split : slice_split is_line_feed rest ≡ take k rest ∷ slice_split is_line_feed (drop (k + 1) rest) = subst P first.1 (slice_split_first is_line_feed rest 0 first.0) in
    let parts : List (List ℕ) = slice_split is_line_feed (drop (k + 1) rest) in
    let within : k ≤ length rest = omega (arith, first.0, first.1) in
    let size : from + length (take k rest) + 1 ≡ from + (k + 1) = omega (arith, length-take-le k rest within) in
    ap (records_from line from) split ∙ records_cons line from (take k rest) parts (split_some is_line_feed (drop (k + 1) rest)) ∙ ap (λ (n : ℕ). record { line = line; from = from; bytes = strip_carriage_return (take k rest) } ∷ records_from (line + 1) n parts) size

-- the last record
no_split : (p : ℕ → Bool) (xs : List ℕ) → list_all (λ b. not (p b)) xs ≡ true → slice_split p xs ≡ xs ∷ []
no_split p [] h = refl
no_split p (x ∷ xs) h =
    let q = and_parts (not (p x)) (list_all (λ b. not (p b)) xs) h in
    let here = not_true (p x) q.0 in
    slice_split-cons_no p x xs here ∙ ap (onto_first x) (no_split p xs q.1)
  where
    not_true : (b : Bool) → not b ≡ true → b ≡ false
    not_true true h = absurd cc
    not_true false h = refl

pub records_last : (line from : ℕ) (rest : List ℕ) → position is_line_feed rest ≡ None → records_from line from (slice_split is_line_feed rest) ≡ record { line = line; from = from; bytes = rest } ∷ []
records_last line from rest e = ap (records_from line from) (no_split is_line_feed rest (none_passes is_line_feed rest e))

-- the end of a text is the end of its last record
records_some : (line from : ℕ) (parts : List (List ℕ)) → 0 < length parts → 0 < length (records_from line from parts)
records_some line from [] some = absurd (omega arith)
records_some line from (part ∷ []) some = omega arith
records_some line from (part ∷ next ∷ parts) some = omega arith

end_of_cons : (r : Record) (rs : List Record) → 0 < length rs → end_of_text (r ∷ rs) ≡ end_of_text rs
end_of_cons r [] some = absurd (omega arith)
end_of_cons r (q ∷ rs) some = refl

pub end_of_next : (r : Record) (line from : ℕ) (rest : List ℕ) → end_of_text (r ∷ records_from line from (slice_split is_line_feed rest)) ≡ end_of_text (records_from line from (slice_split is_line_feed rest))
end_of_next r line from rest = end_of_cons r (records_from line from (slice_split is_line_feed rest)) (records_some line from (slice_split is_line_feed rest) (split_some is_line_feed rest))

-- the columns of a short record are the record
pub columns_short : (bytes : List ℕ) → has_dollar bytes ≡ false → length bytes ≤ LAST_COLUMN → bytes ≡ columns_of bytes
columns_short bytes plain short = sym (ap (λ (v : Bool). cond v [] (take LAST_COLUMN bytes)) plain ∙ take_all LAST_COLUMN bytes short)

-- the columns of a longer one
pub length_taken : (n : ℕ) (bytes : List ℕ) → n < length bytes → n ≡ length (take n bytes)
length_taken n bytes lt = sym (length-take-le n bytes (omega arith))

pub taken_within : (n : ℕ) (bytes : List ℕ) → n < length bytes → length (take n bytes) ≤ length bytes
taken_within n bytes lt = omega (arith, length_taken n bytes lt)
