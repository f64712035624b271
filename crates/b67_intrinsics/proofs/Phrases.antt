-- The phrases of a line, one after another.
use Rattle.std.proofs.Common.{◌≡◌, refl, sym, ap, ◌∙◌, ℕ, zero, suc, ◌≤◌, ◌<◌, ℤ, List, [], ◌∷◌, length, drop, None, arith}
use Rattle.b67_segment.specs.declared.code.Phrase.{Phrase}
use Rattle.b67_table.specs.Lines.{before, format_line}

-- ---- one phrase

-- ---- some phrases

-- what is made so far, and the line of the phrases and items that are left, are the line of all
abbrev pub IsBegun : List Phrase → List ℤ → List ℕ → ℕ → ℕ → Type 0
IsBegun phrases items text at used = before text (format_line (drop at phrases) (drop used items)) ≡ format_line phrases items

none_left : (xs : List Phrase) (k : ℕ) → length xs ≤ k → drop k xs ≡ []
none_left [] zero h = refl
none_left [] (suc k) h = refl
none_left (x ∷ xs) zero h = absurd (omega (arith, h))
none_left (x ∷ xs) (suc k) h = none_left xs k (omega (arith, h))

items_left : (xs : List ℤ) (k : ℕ) → k < length xs → None ≡ format_line [] (drop k xs)
items_left [] k h = absurd (omega (arith, h))
items_left (x ∷ xs) zero h = refl
items_left (x ∷ xs) (suc k) h = items_left xs k (omega (arith, h))

module _ (phrases : List Phrase) (items : List ℤ) (text : List ℕ) (at used : ℕ) (all : length phrases ≤ at) (begun : IsBegun phrases items text at used) where
  whole : before text (format_line [] (drop used items)) ≡ format_line phrases items
  whole = ap (λ (ps : List Phrase). before text (format_line ps (drop used items))) (sym (none_left phrases at all)) ∙ begun

  pub begun_short : used < length items → None ≡ format_line phrases items
  begun_short h = ap (before text) (items_left items used h) ∙ whole
