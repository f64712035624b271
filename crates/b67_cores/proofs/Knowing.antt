-- More is known: words that were slots still are.
use Rattle.std.proofs.Common.{sym, subst, ℕ, ◌+◌, ◌≤◌, List, [], ◌∷◌, ◌++◌, append_assoc, length, inr, arith}
use Rattle.algol_tree.specs.Scopes.{Scopes}
use Rattle.b67_word.specs.Word.{Word}
use Rattle.b67_segment.specs.Operators.{Placed}
use Rattle.b67_segment.specs.declared.code.Code.{Code}
use Rattle.b67_table.specs.Private.{frame}
use Rattle.b67_templates.specs.Contexts.{Context}
use Rattle.b67_standing.specs.Stepping.{HeldWord, Slot, operand, reference, intrinsic, control, descriptor, mark}
use Rattle.b67_cores.specs.Cores.{Core}
use Rattle.b67_cores.specs.Slots.{Known, IsKnown, SlotIs, SlotsAre}
use Rattle.b67_cores.specs.Stretches.{AreStuffed}
use Rattle.b67_cores.proofs.Moving.{steps_on, Are, Reaches, Performs}

pub known_among : (known more : List Known) (held : HeldWord) (w : Word) → IsKnown known held w → IsKnown (more ++ known) held w
known_among known [] held w k = k
known_among known (x ∷ more) held w k = inr (known_among known more held w k)

module _ (sc : Scopes) (known more : List Known) (level home base : ℕ) where
  slot_among : (x : List Slot) (slot : Slot) (w : Word) → SlotIs sc known level home base x slot w → SlotIs sc (more ++ known) level home base x slot w
  slot_among x (operand v) w is = is
  slot_among x (reference c) w is = is
  slot_among x (intrinsic i) w is = is
  slot_among x (control c) w is = is
  slot_among x (descriptor held) w is = known_among known more held w is
  slot_among x mark w is = is

  pub slots_among : (x : List Slot) (ws : List Word) → SlotsAre sc known level home base x ws → SlotsAre sc (more ++ known) level home base x ws
  slots_among [] [] are = tt
  slots_among [] (w ∷ ws) are = absurd are
  slots_among (slot ∷ x) [] are = absurd are
  slots_among (slot ∷ x) (w ∷ ws) are = (slot_among x slot w are.0, slots_among x ws are.1)

-- ---- fragments that add to what is known

module _ (sc : Scopes) (context : Context) (core : Core) where
  stuffed_both : (xs ys : List Known) → AreStuffed sc context core xs → AreStuffed sc context core ys → AreStuffed sc context core (xs ++ ys)
  stuffed_both [] ys are more = more
  stuffed_both (x ∷ xs) ys are more = (are.0, stuffed_both xs ys are.1 more)

module _ (sc : Scopes) (context : Context) (code : Code) (ps : List Placed) (level most bound : ℕ) (core : Core) where
  -- private operators lead from words at a place to those of other slots, where more words may be known
  pub record Adds (known : List Known) (from : ℕ) (x : List Slot) (words : List Word) (to : ℕ) (y : List Slot) : Type 0 where
    pub added : List Known
    pub added_are : AreStuffed sc context core added
    pub reaches : Reaches sc (added ++ known) code ps level most bound core from x words to y

  -- so they do from whatever words are those slots
  abbrev pub Gains : List Known → ℕ → List Slot → ℕ → List Slot → Type 0
  Gains known from x to y = (words : List Word) → Are sc known code ps level most bound core x words → length x ≤ most → Adds known from x words to y

  -- .. though nothing is added
  pub plainly : {known : List Known} {from to : ℕ} {x y : List Slot} → Performs sc known code ps level most bound core from x to y → Gains known from x to y
  plainly f words are room = record { added = []; added_are = tt; reaches = f words are room }

  -- what the second adds lies before what the first added
  pub then_adds : {known : List Known} {a b c : ℕ} {x y z : List Slot} {words : List Word} → (f : Adds known a x words b y)
      → Adds (f.added ++ known) b y f.reaches.left c z → Adds known a x words c z
  then_adds {known} {a} {b} {c} {x} {y} {z} {words} f g = record {
    added = g.added ++ f.added;
    added_are = stuffed_both sc context core g.added f.added g.added_are f.added_are;
    reaches = record {
      count = f.reaches.count + g.reaches.count;
      left = g.reaches.left;
      are = subst (λ (k : List Known). SlotsAre sc k level (frame core.registers) (length core.below) z g.reaches.left) (sym (append_assoc g.added f.added known))
          g.reaches.are;
      steps = steps_on f.reaches.steps g.reaches.steps;
      few = omega (arith, f.reaches.few, g.reaches.few);
      room = g.reaches.room;
    };
  }
