-- The events of an instance that stands lie in its frame: below all that is above that, or in another stack.
use Rattle.std.proofs.Common.{◌≡◌, ◌≢◌, ◌⊎◌, inl, inr, sym, ap, ◌∙◌, ℕ, ◌+◌, ◌<◌, List, ◌++◌, length, Some, Bool, false, arith, length-append}
use Rattle.b67_list.proofs.Lists.{get_within}
use Rattle.b67_list.proofs.Truths.{and_false}
use Rattle.b67_frames.proofs.Prelude.{nat_tests, ◌==◌, ◌&&◌, nat_le, numbered, EventState, block_numbered, PProgram, Scopes, event, Instance, Part, World, IsOwn, Word, Place, Code, is_from, place, simple_cells, made_base, Yields, Texts, control_words, some_same, Layout, HasEvent, block_controls, Around}
use Rattle.algol_tree.specs.Scopes.{scopes_of}
use Rattle.b67_frames.proofs.Completing.{made_many}
use Rattle.b67_frames.proofs.ControlWords.{as_many_controls, controls_many}
use Rattle.b67_frames.proofs.Lying.{Lies, lies_low, lies_around}
use Rattle.b67_frames.proofs.MadeArrays.{as_many_values}
use Rattle.b67_frames.proofs.Zeros.{cells_length}

-- the frame of an instance lies in another stack than this one
abbrev pub IsElsewhere : Layout → ℕ → ℕ → Type 0
IsElsewhere lay p j = (f : Place) → numbered lay.places j ≡ Some f → f.stack ≢ p

other_stack : (m n : ℕ) (b : Bool) → m ≢ n → ((m == n) && b) ≡ false
other_stack m n b other = ap (λ (t : Bool). t && b) (is_other m n other)
  where
    is_other : (m n : ℕ) → m ≢ n → (m == n) ≡ false
    is_other m n h = grind (arith, nat_tests)

below : (b : Bool) (m n : ℕ) → n < m → (b && nat_le m n) ≡ false
below b m n low = ap (λ (t : Bool). b && t) (not_most m n low) ∙ and_false b
  where
    not_most : (m n : ℕ) → n < m → nat_le m n ≡ false
    not_most m n h = grind (arith, nat_tests)

module _ (tree : PProgram) (code : Code) (texts : Texts) (w : World) (lay : Layout) (p : ℕ) where
  abbrev sc : Scopes
  sc = scopes_of tree

  -- in the frame of the instance
  pub event_in_frame : (parts : List Part) (j : ℕ) (words : List Word) (l : Lies tree code texts w lay p parts j words) (number : ℕ) (e : EventState) (at : Place) → HasEvent (scopes_of tree) w lay j number e at →
      (at.stack ≡ p) × (at.at < length words)
  event_in_frame parts j words l number e at h = (
    ap (λ (x : Place). x.stack) h.at_is ∙ ap (λ (x : Place). x.stack) frame_is,
    omega (
      arith,
      lies_low tree code texts w lay p parts j words l,
      ap (λ (x : Place). x.at) h.at_is,
      ap (λ (x : Place). x.at) frame_is,
      ap (λ (x : Instance). made_base sc (block_numbered sc.blocks x.block)) here,
      ap (λ (x : Instance). length (simple_cells sc (block_numbered sc.blocks x.block))) here,
      ap (λ (x : Instance). length x.cells) here,
      get_within h.instance.cells (length (simple_cells sc (block_numbered sc.blocks h.instance.block)) + number) (record { name = h.name; cell = event e }) h.has,
      cells_are,
    ),
  )
    where
      here : h.instance ≡ l.owned.framed.instance
      here = some_same (sym h.is ∙ ap (λ (k : ℕ). numbered w.instances k) (sym l.instance_is) ∙ l.owned.framed.is)

      frame_is : h.frame ≡ place p (length l.frame.lower)
      frame_is = some_same (sym h.laid ∙ ap (λ (k : ℕ). numbered lay.places k) (sym l.instance_is) ∙ l.owned.framed.laid)

      -- as many cells are made as there are words for them
      cells_are : 2 + length l.frame.cells + length (simple_cells sc (block_numbered sc.blocks l.owned.framed.instance.block)) ≡ made_base sc (block_numbered sc.blocks l.owned.framed.instance.block) + length l.owned.framed.instance.cells
      cells_are =
          omega (
            arith,
            ap length l.owned.framed.cells_is,
            length-append l.owned.framed.values (control_words (block_controls sc l.owned.framed.instance.block l.owned.framed.ats) ++ l.owned.framed.descriptors),
            length-append (control_words (block_controls sc l.owned.framed.instance.block l.owned.framed.ats)) l.owned.framed.descriptors,
            as_many_values (simple_cells sc (block_numbered sc.blocks l.owned.framed.instance.block)) l.owned.framed.simple l.owned.framed.values l.owned.framed.simple_are,
            as_many_controls (block_controls sc l.owned.framed.instance.block l.owned.framed.ats),
            controls_many sc l.owned.framed.instance.block l.owned.framed.ats l.owned.framed.each_has_place,
            (made_many l.owned.framed.declared l.owned.framed.arrays (lay.rows l.part.instance) l.owned.framed.descriptors l.owned.framed.made).words_many,
            (made_many l.owned.framed.declared l.owned.framed.arrays (lay.rows l.part.instance) l.owned.framed.descriptors l.owned.framed.made).cells_many,
            ap length l.owned.framed.has,
            length-append l.owned.framed.simple l.owned.framed.arrays,
            cells_length (simple_cells sc (block_numbered sc.blocks l.owned.framed.instance.block)) l.owned.framed.simple l.owned.framed.values l.owned.framed.simple_are,
          )

  -- It is not among what lies from some place of this stack on, where the instance is one of these parts' own that lie below there.
  pub event_outside : (parts : List Part) (lower : List Word) (mark control : Word) (wanted : Yields) → Around tree code texts w lay p parts lower mark control wanted → (j : ℕ) → IsOwn parts j ⊎ IsElsewhere lay p j →
      (number : ℕ) (e : EventState) (at : Place) → HasEvent (scopes_of tree) w lay j number e at → is_from p (length lower) at ≡ false
  event_outside parts lower mark control wanted a j (inl own) number e at h =
      below (at.stack == p) (length lower) at.at (event_in_frame parts j lower (lies_around tree code texts w lay p parts lower mark control wanted a j own) number e at h).1
  event_outside parts lower mark control wanted a j (inr elsewhere) number e at h =
      other_stack at.stack p (nat_le (length lower) at.at) (λ (same : at.stack ≡ p). elsewhere h.frame h.laid (ap (λ (x : Place). x.stack) (sym h.at_is) ∙ same))
