-- How a word is laid out in fields. `[place:width]` is `width` bits from bit `place` downwards. A layout names
-- every bit from 47 to 0: a field either is a fixed value or holds one.
use Rattle.std.specs.Prelude.{ℕ, ◌+◌, ◌-◌, ◌*◌, ◌^◌, ◌<◌, ◌==◌, ◌&&◌, nat_lt, nat_le, Bool, true, false, List, [], ◌∷◌, Option, Some, None, if◌then◌else◌}
use Rattle.b67_word.specs.Word.{Word, word, field}

pub data Field : Type 0 where
  -- [place:width] is the value
  Is : ℕ → ℕ → ℕ → Field
  -- [place:width] holds a number
  Number : ℕ → ℕ → Field
  -- [place:width] holds a number below the limit
  Below : ℕ → ℕ → ℕ → Field
  -- [place:1] holds a truth value
  Flag : ℕ → Field

-- the tag of a kind of word, and its fields from bit 47 down to bit 0
pub record Layout : Type 0 where
  pub tag : ℕ
  pub fields : List Field

-- what the fields hold, in their order
abbrev pub Values : List Field → Type 0
Values [] = Unit {0}
Values (Is place width value ∷ fields) = Values fields
Values (Number place width ∷ fields) = ℕ × Values fields
Values (Below place width limit ∷ fields) = ℕ × Values fields
Values (Flag place ∷ fields) = Bool × Values fields

-- each number fits its field
abbrev pub Fit : (fields : List Field) → Values fields → Type 0
Fit [] v = Unit {0}
Fit (Is place width value ∷ fields) v = Fit fields v
Fit (Number place width ∷ fields) v = (v.0 < 2 ^ width) × Fit fields v.1
Fit (Below place width limit ∷ fields) v = (v.0 < limit) × Fit fields v.1
Fit (Flag place ∷ fields) v = Fit fields v.1

-- a truth value as a bit
abbrev pub bit : Bool → ℕ
bit false = 0
bit true = 1

-- the 48 bits: each value at its place
abbrev pub bits_of : (fields : List Field) → Values fields → ℕ
bits_of [] v = 0
bits_of (Is place width value ∷ fields) v = value * 2 ^ (place + 1 - width) + bits_of fields v
bits_of (Number place width ∷ fields) v = v.0 * 2 ^ (place + 1 - width) + bits_of fields v.1
bits_of (Below place width limit ∷ fields) v = v.0 * 2 ^ (place + 1 - width) + bits_of fields v.1
bits_of (Flag place ∷ fields) v = bit v.0 * 2 ^ place + bits_of fields v.1

-- what the fields of some bits hold
abbrev pub values_in : (fields : List Field) → ℕ → Values fields
values_in [] bits = tt
values_in (Is place width value ∷ fields) bits = values_in fields bits
values_in (Number place width ∷ fields) bits = (field place width bits, values_in fields bits)
values_in (Below place width limit ∷ fields) bits = (field place width bits, values_in fields bits)
values_in (Flag place ∷ fields) bits = (field place 1 bits == 1, values_in fields bits)

-- whether the fields that have a fixed value have it, and the limited numbers are below their limits
abbrev pub is_laid_out : List Field → ℕ → Bool
is_laid_out [] bits = true
is_laid_out (Is place width value ∷ fields) bits = field place width bits == value && is_laid_out fields bits
is_laid_out (Number place width ∷ fields) bits = is_laid_out fields bits
is_laid_out (Below place width limit ∷ fields) bits = nat_lt (field place width bits) limit && is_laid_out fields bits
is_laid_out (Flag place ∷ fields) bits = is_laid_out fields bits

-- whether a field of some width at a place stands at the top of this many bits
abbrev pub is_on_top : ℕ → ℕ → ℕ → Bool
is_on_top bits place width = place + 1 == bits && nat_lt 0 width && nat_le width bits

-- whether the fields follow one another from the top of this many bits down to bit 0, and hold what they are for
abbrev pub is_tiled : ℕ → List Field → Bool
is_tiled bits [] = bits == 0
is_tiled bits (Is place width value ∷ fields) = is_on_top bits place width && nat_lt value (2 ^ width) && is_tiled (bits - width) fields
is_tiled bits (Number place width ∷ fields) = is_on_top bits place width && is_tiled (bits - width) fields
is_tiled bits (Below place width limit ∷ fields) = is_on_top bits place width && nat_le limit (2 ^ width) && is_tiled (bits - width) fields
is_tiled bits (Flag place ∷ fields) = is_on_top bits place 1 && is_tiled (bits - 1) fields

-- the word of a kind that holds these values
abbrev pub packed : (l : Layout) → Values l.fields → Word
packed l v = word l.tag (bits_of l.fields v)

-- whether a word is of a kind: its tag, its 48 bits, and its fixed fields
abbrev pub is_kind : Layout → Word → Bool
is_kind l w = w.tag == l.tag && nat_lt w.bits (2 ^ 48) && is_laid_out l.fields w.bits

-- what a word of a kind holds, and None for any other word
abbrev pub unpacked : {K : Type 0} (l : Layout) → (Values l.fields → K) → Word → Option K
unpacked l made w = if is_kind l w then Some (made (values_in l.fields w.bits)) else None
