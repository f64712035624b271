-- Words of a stack that are read as descriptors, or as whole numbers.
use Rattle.std.proofs.Common.{◌≡◌, refl, sym, ◌∙◌, ℕ, ◌+◌, Some, None, Bool, true, false}
use Rattle.b67_rows.proofs.Prelude.{Word, Place, irw_laws, as_sirw_other, descriptor_laws, as_irw, as_sirw, as_descriptor, Descriptor, Irw, Registers, Sirw, word_at, is_array_descriptor, place, Image, display_at, cell_place, sirw_cell}
use Rattle.b67_rows.proofs.Touching.{NearCell}

-- a descriptor is no reference
pub record IsDescriptor (w : Word) (d : Descriptor) : Type 0 where
  pub reads : as_descriptor w ≡ Some d
  pub no_irw : as_irw w ≡ None
  pub no_sirw : as_sirw w ≡ None

pub is_descriptor : (w : Word) (d : Descriptor) → as_descriptor w ≡ Some d → IsDescriptor w d
is_descriptor w d e =
    record {
      reads = e;
      no_irw = irw_laws.other w (λ k. let is = sym (descriptor_laws.kind w d e) ∙ k in cc);
      no_sirw = as_sirw_other w (λ k. let is = sym (descriptor_laws.kind w d e) ∙ k in cc);
    }

-- an array, not indexed
abbrev pub whole_array : Bool → Bool → ℕ → ℕ → Descriptor
whole_array copied mother size n = record { presence = true; copy = copied; indexed = false; mother = mother; length = size; address = n }

pub is_whole_array : (copied mother : Bool) (size n : ℕ) → is_array_descriptor mother (whole_array copied mother size n) ≡ true
is_whole_array copied true size n = refl
is_whole_array copied false size n = refl

-- A word of process p that is a descriptor itself, or refers to a near cell in which one lies, or in which a reference to the near cell of one lies.
pub data IsFound (p : ℕ) (img : Image) (r : Registers) (x : Word) : Type 0 where
  itself : as_irw x ≡ None → as_sirw x ≡ None → IsFound p img r x
  in_cell : (i : Irw) (home : Place) (w : Word) → as_irw x ≡ Some i → display_at r i.level ≡ Some home → NearCell p img (record { frame = home; index = i.index }) →
      word_at img.stacks (place home.stack (home.at + i.index)) ≡ Some w → as_sirw w ≡ None → IsFound p img r x
  through_cell : (i : Irw) (home : Place) (v : Word) (s : Sirw) (w : Word) → as_irw x ≡ Some i → display_at r i.level ≡ Some home → NearCell p img (record { frame = home; index = i.index }) →
      word_at img.stacks (place home.stack (home.at + i.index)) ≡ Some v → as_sirw v ≡ Some s → NearCell p img (sirw_cell s) → word_at img.stacks (cell_place (sirw_cell s)) ≡ Some w → as_sirw w ≡ None →
      IsFound p img r x
