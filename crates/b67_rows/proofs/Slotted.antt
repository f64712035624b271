-- The words of slots, one after another.
use Rattle.std.proofs.Common.{◌≡◌, refl, subst, ℕ, List, [], ◌∷◌}
use Rattle.b67_rows.proofs.Prelude.{Scopes, Word, Slot, Known, SlotIs, SlotsAre}

module _ (sc : Scopes) (known : List Known) (level home base : ℕ) where
  -- the word on top
  pub record Top (slot : Slot) (below : List Slot) (words : List Word) : Type 0 where
    pub word : Word
    pub words_below : List Word
    pub is : words ≡ word ∷ words_below
    pub slot_is : SlotIs sc known level home base below slot word
    pub are : SlotsAre sc known level home base below words_below

  top_of : (slot : Slot) (below : List Slot) (words : List Word) → SlotsAre sc known level home base (slot ∷ below) words → Top slot below words
  top_of slot below [] are = absurd are
  top_of slot below (w ∷ ws) are = record { word = w; words_below = ws; is = refl; slot_is = are.0; are = are.1 }

  pub top_slot : (slots : List Slot) (slot : Slot) (below : List Slot) (words : List Word) → SlotsAre sc known level home base slots words → slots ≡ slot ∷ below → Top slot below words
  top_slot slots slot below words are e = top_of slot below words (subst (λ (l : List Slot). SlotsAre sc known level home base l words) e are)
