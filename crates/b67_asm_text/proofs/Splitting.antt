-- The records of a text, one after another.
use Rattle.std.proofs.Common.{◌≡◌, ℕ, ◌+◌, ◌<◌, ◌≤◌, not, cond, List, [], ◌∷◌, ◌++◌, length, map, take, drop, refl, sym, ap, ◌∙◌, subst, inl, inr, arith, append_assoc}
use Rattle.std.specs.List.{flat_map, onto_first, position_or_len}
use Rattle.std.proofs.lemmas.Bool.{cases_Bool}
use Rattle.std.proofs.lemmas.List.{append-nil, drop-drop}
use Rattle.std.proofs.lemmas.List.Splits.{slice_split_first, slice_split-cons_no}
use Rattle.b67_segment.specs.declared.code.Format.{Format}
use Rattle.b67_asm_text.specs.declared.item.Reading.{Reading}
use Rattle.b67_asm_text.specs.Items.{format_from, format_of, record_reading}
use Rattle.b67_asm_text.specs.Phrases.{phrases_in}
use Rattle.b67_asm_text.specs.Records.{code_part, is_line_feed, records, unblanked}

-- a record that an LF ends, and those after it
pub records_next : (text : List ℕ) → position_or_len is_line_feed text < length text →
    records text ≡ take (position_or_len is_line_feed text) text ∷ records (drop (position_or_len is_line_feed text + 1) text)
records_next text h = slice_split_first is_line_feed text 0 h

-- what was split off a text
pub records_split : (rest line after next : List ℕ) (count : ℕ) → count ≡ position_or_len is_line_feed rest → count < length rest → line ≡ take count rest → after ≡ drop count rest →
    next ≡ drop 1 after → records rest ≡ line ∷ records next
records_split rest line after next count e h l a n =
    let P : ℕ → Type 0 = λ k. records rest ≡ take k rest ∷ records (drop (k + 1) rest) in
    subst P (sym e) (records_next rest (subst (λ (k : ℕ). k < length rest) e h))
    ∙ ap (λ (xs : List ℕ). xs ∷ records (drop (count + 1) rest)) (sym l)
    ∙ ap (λ (xs : List ℕ). line ∷ records xs) (sym (n ∙ ap (drop 1) a ∙ drop-drop 1 count rest))

-- the last record
pub records_last : (text : List ℕ) → length text ≤ position_or_len is_line_feed text → records text ≡ text ∷ []
records_last [] h = refl
records_last (x ∷ xs) h =
    elim (cases_Bool (is_line_feed x)) [
      | inl hit ↦
          let none : position_or_len is_line_feed (x ∷ xs) ≡ 0 = ap (λ b. cond (not b) (1 + position_or_len is_line_feed xs) 0) hit in
          absurd (omega (arith, none))
      | inr other ↦
          let more : position_or_len is_line_feed (x ∷ xs) ≡ 1 + position_or_len is_line_feed xs = ap (λ b. cond (not b) (1 + position_or_len is_line_feed xs) 0) other in
          slice_split-cons_no is_line_feed x xs other ∙ ap (onto_first x) (records_last xs (omega (arith, more)))
    ]

-- one more record was read
module _ (rest line next : List ℕ) (split : records rest ≡ line ∷ records next) where
  pub lines_more : (old new all : List Reading) → new ≡ old ++ record_reading line ∷ [] → old ++ map record_reading (records rest) ≡ all → new ++ map record_reading (records next) ≡ all
  lines_more old new all e h =
      ap (λ (rs : List Reading). rs ++ map record_reading (records next)) e
      ∙ append_assoc old (record_reading line ∷ []) (map record_reading (records next))
      ∙ ap (λ (rs : List (List ℕ)). old ++ map record_reading rs) (sym split)
      ∙ h

  pub formats_more : (old new all : List Format) → new ≡ old ++ format_of line → old ++ flat_map format_of (records rest) ≡ all → new ++ flat_map format_of (records next) ≡ all
  formats_more old new all e h =
      ap (λ (fs : List Format). fs ++ flat_map format_of (records next)) e
      ∙ append_assoc old (format_of line) (flat_map format_of (records next))
      ∙ ap (λ (rs : List (List ℕ)). old ++ flat_map format_of rs) (sym split)
      ∙ h

-- the last record was read
module _ (rest : List ℕ) (split : records rest ≡ rest ∷ []) where
  pub lines_all : (old new all : List Reading) → new ≡ old ++ record_reading rest ∷ [] → old ++ map record_reading (records rest) ≡ all → new ≡ all
  lines_all old new all e h = e ∙ ap (λ (rs : List (List ℕ)). old ++ map record_reading rs) (sym split) ∙ h

  pub formats_all : (old new all : List Format) → new ≡ old ++ format_of rest → old ++ flat_map format_of (records rest) ≡ all → new ≡ all
  formats_all old new all e h =
      e ∙ ap (λ (fs : List Format). old ++ fs) (sym (append-nil (format_of rest))) ∙ ap (λ (rs : List (List ℕ)). old ++ flat_map format_of rs) (sym split) ∙ h

-- a record with nothing in it is no format
no_format : (code : List ℕ) → length code ≡ 0 → format_from (phrases_in code) ≡ []
unfolding phrases_in
no_format [] e = refl
no_format (x ∷ xs) e = absurd (omega arith)

pub format_none : (bytes part code : List ℕ) (old : List Format) → part ≡ code_part bytes → code ≡ unblanked part → length code ≡ 0 → old ≡ old ++ format_of bytes
unfolding format_of
format_none bytes part code old p e z =
    sym (append-nil old)
    ∙ ap (λ (fs : List Format). old ++ fs) (sym (ap (λ (t : List ℕ). format_from (phrases_in t)) (sym (e ∙ ap unblanked p)) ∙ no_format code z))
