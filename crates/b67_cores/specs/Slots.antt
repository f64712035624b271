-- Which words slots are, above the floor of a frame.
use Rattle.std.specs.Prelude.{◌≡◌, ◌⊎◌, ℕ, ◌+◌, ◌-◌, ◌%◌, ◌^◌, ◌<◌, if◌then◌else◌, ℤ, Bool, List, [], ◌∷◌, length}
use Rattle.algol_tree.specs.Scopes.{Scopes}
use Rattle.algol_meaning.specs.Value.{Value, number, truth}
use Rattle.b67_word.specs.Word.{Word}
use Rattle.b67_word.specs.Word as words
use Rattle.b67_control.specs.Control.{pcw_word}
use Rattle.b67_ops.specs.Intrinsics.{couple_of_intrinsic}
use Rattle.b67_table.specs.PrivateRows.{open_mark}
use Rattle.b67_table.specs.PrivateRows as rows
use Rattle.b67_templates.specs.Fragments.{IsWholeNumber}
use Rattle.b67_standing.specs.Stepping.{HeldWord, Slot, operand, reference, intrinsic, control, descriptor, mark}

-- ---- values

pub record IsNumberWord (z : ℤ) (w : Word) : Type 0 where
  pub is : w ≡ words.operand z
  pub whole : IsWholeNumber z

-- a word of tag 0 says a truth value by its bit 0, whatever its other bits are
pub record IsTruth (b : Bool) (w : Word) : Type 0 where
  pub tag : w.tag ≡ 0
  pub bits : w.bits < 2 ^ 48
  pub lowest : w.bits % 2 ≡ (if b then 1 else 0)

abbrev pub ValueIs : Value → Word → Type 0
ValueIs (number z) w = IsNumberWord z w
ValueIs (truth b) w = IsTruth b w

-- ---- slots

-- where the newest mark lies, in a frame whose own mark is at `home` and whose floor is at `base`: what F says
abbrev pub newest : ℕ → ℕ → List Slot → ℕ
newest home base [] = home
newest home base (operand v ∷ below) = newest home base below
newest home base (reference n ∷ below) = newest home base below
newest home base (intrinsic i ∷ below) = newest home base below
newest home base (control c ∷ below) = newest home base below
newest home base (descriptor h ∷ below) = newest home base below
newest home base (mark ∷ below) = base + length below

-- a descriptor that lies on the stack: what it is of, and its word
pub record Known : Type 0 where
  pub held : HeldWord
  pub word : Word

abbrev pub IsKnown : List Known → HeldWord → Word → Type 0
IsKnown [] held w = ⊥
IsKnown (x ∷ known) held w = ((x.held ≡ held) × (x.word ≡ w)) ⊎ IsKnown known held w

-- these are known as the words of descriptors
module _ (sc : Scopes) (known : List Known) (level home base : ℕ) where
  -- the word of a slot above these: a mark has its distance to the newest of them, or to the frame's own
  abbrev pub SlotIs : List Slot → Slot → Word → Type 0
  SlotIs below (operand v) w = ValueIs v w
  SlotIs below (reference c) w = w ≡ rows.reference c
  SlotIs below (intrinsic i) w = w ≡ rows.reference (couple_of_intrinsic i)
  SlotIs below (control c) w = w ≡ pcw_word c
  SlotIs below (descriptor held) w = IsKnown known held w
  SlotIs below mark w = w ≡ open_mark (base + length below - newest home base below)

  -- the words of slots, the top first
  abbrev pub SlotsAre : List Slot → List Word → Type 0
  SlotsAre [] [] = Unit {0}
  SlotsAre [] (w ∷ ws) = ⊥
  SlotsAre (slot ∷ slots) [] = ⊥
  SlotsAre (slot ∷ slots) (w ∷ ws) = SlotIs slots slot w × SlotsAre slots ws
