-- Under the frame of a part lies that of the part around it, to which the marks lead down.
use Rattle.std.proofs.Common.{◌≡◌, refl, ap, ◌∙◌, subst, ℕ, ◌+◌, ◌≤◌, List, ◌∷◌, ◌++◌, length, Ok, arith}
use Rattle.b67_scenes.proofs.Prelude.{reverse, PProgram, Scopes, scopes_of, Part, World, Word, as_mscw, as_rcw, Code, Stacks, stack_limit, place, left_to, read_as, look_seen, Below, Texts, slots_length, newest, entered_to, length_stack, Begins_with, begins_front, mark_there, control_there, Layout, Frame, Waits, Around}
use Rattle.b67_rows.proofs.Marks.{Above, left_seen}
use Rattle.b67_scenes.proofs.Staying.{level_in, frame_low}

-- The frame of a part that has one around it, with which these words end.
pub record InnerFrame (tree : PProgram) (code : Code) (texts : Texts) (w : World) (lay : Layout) (p : ℕ) (stacks : Stacks) : Type 0 where
  pub part : Part
  pub next : Part
  pub parts : List Part
  pub words : List Word
  pub frame : Frame tree code texts w lay p part (next ∷ parts) words
  pub around : Around tree code texts w lay p (next ∷ parts) frame.lower frame.mark frame.control frame.gives
  pub begins : Begins_with stacks p words
  pub small : length words ≤ stack_limit

module _ (tree : PProgram) (code : Code) (texts : Texts) (w : World) (lay : Layout) (p : ℕ) (stacks : Stacks) (inner : InnerFrame tree code texts w lay p stacks) where
  open inner use {part, next, parts, words as all, frame, around, begins, small}

  abbrev sc : Scopes
  sc = scopes_of tree

  -- the part around, and where its frame and the one above it lie
  abbrev pub u : Waits tree code texts w lay p next parts frame.lower frame.mark frame.control frame.gives
  u = around.0

  abbrev pub home : ℕ
  home = length u.frame.lower

  abbrev pub f : ℕ
  f = length frame.lower

  pub low : home + 2 + length u.frame.cells ≡ length u.below
  low = frame_low tree code texts w lay p next parts u.below u.frame

  pub many : length u.words ≡ length u.slots
  many = slots_length sc u.held (level_in tree w next) home (length u.below) u.slots u.words u.words_are

  pub height : f ≡ length u.below + length u.words
  height = ap length u.lower_is ∙ length_stack u.below u.words

  pub top : f + 2 + length frame.cells ≡ length all
  top = frame_low tree code texts w lay p part (next ∷ parts) all frame

  begins_lower : Begins_with stacks p frame.lower
  begins_lower = begins_front stacks p frame.lower (frame.mark ∷ frame.control ∷ frame.cells) (subst (Begins_with stacks p) frame.words_are begins)

  begins_words : Begins_with stacks p (u.below ++ reverse u.words)
  begins_words = subst (Begins_with stacks p) u.lower_is begins_lower

  pub begins_below : Begins_with stacks p u.below
  begins_below = begins_front stacks p u.below (reverse u.words) begins_words

  above : Above stacks p home u.below u.words
  above =
      record {
        lies = begins_words;
        own = entered_to u.frame.home u.frame.df;
        marked = ap (read_as as_mscw) (mark_there tree code texts w lay p stacks next parts u.below u.frame begins_below) ∙ u.frame.mark_is;
        entered = refl;
        control = u.frame.back;
        controlled = ap (read_as as_rcw) (control_there tree code texts w lay p stacks next parts u.below u.frame begins_below) ∙ u.frame.control_is;
        low = omega (arith, low);
      }

  abbrev pub below_it : Below
  below_it = record { mark = newest home (length u.below) u.slots; frame = home; control = u.back }

  pub leads_down : look_seen stacks (left_to (place p f)) ≡ Ok below_it
  leads_down =
      left_seen sc u.held (level_in tree w next) stacks p home u.below u.words above f (entered_to u.home u.df)
      (ap (read_as as_mscw) (mark_there tree code texts w lay p stacks part (next ∷ parts) all frame begins) ∙ u.mark_is) u.back
      (ap (read_as as_rcw) (control_there tree code texts w lay p stacks part (next ∷ parts) all frame begins) ∙ u.control_is)
      u.slots u.words_are (omega (arith, height, many, top, small)) u.far (omega (arith, u.cells_are, low, height))
