-- How far items can be read as the beginning of a text of some kind.
use Rattle.std.specs.Prelude.{◌≡◌, ℕ, ◌+◌, ◌-◌, ◌≤◌, List, ◌++◌, length, take, drop, slice_get, Some}

-- some more items make it one of these
abbrev pub Begins : {A : Type 0} → (List A → Type 0) → List A → Type 0
Begins {A} Is front = (more : List A) × Is (front ++ more)

-- so many of the items are the longest front that begins one of these
pub record IsLongest {A : Type 0} (Is : List A → Type 0) (items : List A) (count : ℕ) : Type 0 where
  pub within : count ≤ length items
  pub begins : Begins Is (take count items)
  pub longest : (k : ℕ) → k ≤ length items → Begins Is (take k items) → k ≤ count

-- the items are none of these, and so many of them are the longest front that begins one
pub record IsRefused {A : Type 0} (Is : List A → Type 0) (items : List A) (count : ℕ) : Type 0 where
  pub none : Is items → ⊥
  pub reach : IsLongest Is items count

-- no front of the items is one of these, and so many items are the longest front that begins one
pub record HasNone {A : Type 0} (Is : List A → Type 0) (items : List A) (count : ℕ) : Type 0 where
  pub none : (part rest : List A) → Is part → part ++ rest ≡ items → ⊥
  pub reach : IsLongest Is items count

-- none of these stands at a place, and the longest beginning of one that stands there ends at the other place
pub record StopsAt {A : Type 0} (Is : List A → Type 0) (items : List A) (at end : ℕ) : Type 0 where
  pub behind : at ≤ end
  pub none : HasNone Is (drop at items) (end - at)

-- this stands at a place, and ends at the next
pub record PartStands {A : Type 0} (part items : List A) (at next : ℕ) : Type 0 where
  pub within : next ≤ length items
  pub next_is : next ≡ at + length part
  pub part_is : drop at items ≡ part ++ drop next items

-- one of these at most begins a list
abbrev pub AreApart : {A : Type 0} → (List A → Type 0) → Type 0
AreApart {A} Is = (part other a b : List A) → Is part → Is other → part ++ a ≡ other ++ b → part ≡ other

-- this byte stands at a place
abbrev pub HasByte : ℕ → List ℕ → ℕ → Type 0
HasByte byte bytes at = slice_get bytes at ≡ Some byte
