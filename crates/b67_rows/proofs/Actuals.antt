-- The words of values that lie one on another.
use Rattle.std.proofs.Common.{◌≡◌, refl, sym, ap, ◌∙◌, ℕ, List, [], ◌∷◌, ◌++◌, append_assoc}
use Rattle.b67_rows.proofs.Prelude.{Scopes, Value, Word, Slot, operand, Known, newest, SlotsAre}
use Rattle.b67_standing.specs.Standing.{operands}
use Rattle.b67_footprints.proofs.Lists.{Each, each_both}
use Rattle.b67_rows.proofs.Slotted.{Top, top_slot}
use Rattle.b67_rows.proofs.Words.{value_tag}

module _ (sc : Scopes) (known : List Known) (level home base : ℕ) where
  -- the words of these values, the top first, and those below them
  pub record Given_words (vs : List Value) (below : List Slot) (all : List Word) : Type 0 where
    pub arguments : List Word
    pub others : List Word
    pub is : all ≡ arguments ++ others
    pub are_operands : Each (λ (w : Word). w.tag ≡ 0) arguments
    pub are : SlotsAre sc known level home base below others
    pub mark_is : newest home base (operands vs below) ≡ newest home base below

  pub given_words : (vs : List Value) (below : List Slot) (all : List Word) → SlotsAre sc known level home base (operands vs below) all → Given_words vs below all
  given_words [] below all are = record { arguments = []; others = all; is = refl; are_operands = tt; are = are; mark_is = refl }
  given_words (v ∷ vs) below all are =
      let g : Given_words vs (operand v ∷ below) all = given_words vs (operand v ∷ below) all are in
      let t : Top sc known level home base (operand v) below g.others = top_slot sc known level home base (operand v ∷ below) (operand v) below g.others g.are refl in
      record {
        arguments = g.arguments ++ t.word ∷ [];
        others = t.words_below;
        is = g.is ∙ ap (λ (ws : List Word). g.arguments ++ ws) t.is ∙ sym (append_assoc g.arguments (t.word ∷ []) t.words_below);
        are_operands = each_both (λ (w : Word). w.tag ≡ 0) g.arguments (t.word ∷ []) g.are_operands (value_tag v t.word t.slot_is, tt);
        are = t.are;
        mark_is = g.mark_is;
      }
