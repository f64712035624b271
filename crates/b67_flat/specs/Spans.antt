-- How spans stand in a memory, and where a new one comes to stand.
use Rattle.std.specs.Prelude.{◌≡◌, ◌⊎◌, ℕ, zero, suc, ◌+◌, ◌-◌, ◌<◌, ◌≤◌, ⊤, nat_lt, List, [], ◌∷◌, take, Some, slice_get, if◌then◌else◌}
use Rattle.std.specs.List.{insert, remove}
use Rattle.b67_flat.specs.declared.Span.{Span}

-- the place after a span's last word
abbrev pub end_of_span : Span → ℕ
end_of_span span = span.place + span.length

-- from a place on they stand in ascending order and do not overlap, and each has words
abbrev pub Ascend : ℕ → List Span → Type 0
Ascend from [] = ⊤
Ascend from (span ∷ spans) = (from ≤ span.place) × (1 ≤ span.length) × Ascend (end_of_span span) spans

-- where the last of them ends
abbrev pub end_after : ℕ → List Span → ℕ
end_after from [] = from
end_after from (span ∷ spans) = end_after (end_of_span span) spans

-- the number of words between a span and the one before it, by its index
abbrev pub gap_before : ℕ → List Span → ℕ → ℕ
gap_before from [] k = 0
gap_before from (span ∷ spans) zero = span.place - from
gap_before from (span ∷ spans) (suc k) = gap_before (end_of_span span) spans k

-- the index of the first span before which there is room for so many words; the end of all where there is none
abbrev pub first_fit : ℕ → ℕ → List Span → ℕ
first_fit from count [] = 0
first_fit from count (span ∷ spans) = if nat_lt span.place (from + count) then suc (first_fit (end_of_span span) count spans) else 0

-- the place at which a span of so many words is opened
abbrev pub place_for : ℕ → List Span → ℕ
place_for count spans = end_after 0 (take (first_fit 0 count spans) spans)

abbrev pub span_for : ℕ → ℕ → List Span → Span
span_for count row spans = record { place = place_for count spans; length = count; row = row }

-- the spans with one more
abbrev pub span_opened : ℕ → ℕ → List Span → List Span
span_opened count row spans = insert spans (first_fit 0 count spans) (span_for count row spans)

-- how many of them begin below a place, where they ascend
abbrev pub spans_below : ℕ → List Span → ℕ
spans_below place [] = 0
spans_below place (span ∷ spans) = if nat_lt span.place place then suc (spans_below place spans) else 0

-- the spans without the one that begins at a place
abbrev pub closed : ℕ → List Span → List Span
closed place spans = remove spans (spans_below place spans)

-- a span is one of them
abbrev pub IsOneOf : Span → List Span → Type 0
IsOneOf span spans = (k : ℕ) × (slice_get spans k ≡ Some span)

-- ---- what that place is

-- a word belongs to a span
abbrev pub Belongs : ℕ → List Span → Type 0
Belongs at [] = ⊥
Belongs at (span ∷ spans) = ((span.place ≤ at) × (at < end_of_span span)) ⊎ Belongs at spans

-- so many words from a place on belong to no span
abbrev pub IsFree : ℕ → ℕ → List Span → Type 0
IsFree place count spans = (at : ℕ) → place ≤ at → at < place + count → ¬ Belongs at spans

-- of the places at which so many words belong to no span it is the least
pub record IsLeastPlace (count : ℕ) (spans : List Span) (place : ℕ) : Type 0 where
  pub free : IsFree place count spans
  pub least : (other : ℕ) → IsFree other count spans → place ≤ other

-- spans are opened at that place
abbrev pub PlacesAreLeast : Type 0
PlacesAreLeast = (count : ℕ) (spans : List Span) → 1 ≤ count → Ascend 0 spans → IsLeastPlace count spans (place_for count spans)
