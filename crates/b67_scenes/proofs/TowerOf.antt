-- The frames of a process's parts lie one on the other, and their marks lead down.
use Rattle.std.proofs.Common.{◌≡◌, refl, sym, ap, ◌∙◌, subst, ℕ, ◌+◌, ◌<◌, ◌≤◌, List, [], ◌∷◌, ◌++◌, length, Some, false, Ok, arith}
use Rattle.b67_cores.proofs.Operating.{newest_low}
use Rattle.b67_scenes.proofs.Prelude.{reverse, numbered, PProgram, Scopes, scopes_of, is_evaluation, Part, World, Word, as_mscw, as_rcw, Code, Stacks, word_at, stack_limit, place, frame_below, read_as, look_seen, Yields, Texts, slots_length, newest, entered_to, length_stack, Begins_with, begins_front, mark_there, control_there, owned_frame, Layout, Frame, Waits, Around}
use Rattle.b67_rows.proofs.Marks.{Above, under_seen}
use Rattle.b67_scenes.proofs.Staying.{level_in, frame_low}
use Rattle.b67_scenes.proofs.Towers.{Tower, base, above}

module _ (tree : PProgram) (code : Code) (texts : Texts) (w : World) (lay : Layout) (p : ℕ) (stacks : Stacks) where
  abbrev sc : Scopes
  sc = scopes_of tree

  -- the frame of a part that has an instance for its own is that of the instance
  frame_laid : (part : Part) (outer : List Part) (words : List Word) (f : Frame tree code texts w lay p part outer words) → is_evaluation part.purpose ≡ false →
      numbered lay.places part.instance ≡ Some (place p (length f.lower))
  frame_laid part outer words f owns = (owned_frame tree code texts w lay p part outer words f owns).framed.laid

  -- ---- under a frame lies that of the part around

  -- The part that waits for what is above it, and the words of its frame.
  pub record WaitsBelow : Type 0 where
    pub next : Part
    pub parts : List Part
    pub lower : List Word
    pub mark : Word
    pub control : Word
    pub wanted : Yields
    pub waiting : Waits tree code texts w lay p next parts lower mark control wanted
    pub marked : word_at stacks (place p (length lower)) ≡ Some mark
    pub begins : Begins_with stacks p lower
    pub small : length lower ≤ stack_limit

  module _ (under : WaitsBelow) where
    open under use {next, parts, lower, control, waiting as u, marked, begins, small}

    abbrev home : ℕ
    home = length u.frame.lower

    low : home + 2 + length u.frame.cells ≡ length u.below
    low = frame_low tree code texts w lay p next parts u.below u.frame

    many : length u.words ≡ length u.slots
    many = slots_length sc u.held (level_in tree w next) home (length u.below) u.slots u.words u.words_are

    height : length lower ≡ length u.below + length u.words
    height = ap length u.lower_is ∙ length_stack u.below u.words

    under_home : home < length u.below
    under_home = omega (arith, low)

    begins_words : Begins_with stacks p (u.below ++ reverse u.words)
    begins_words = subst (Begins_with stacks p) u.lower_is begins

    begins_below : Begins_with stacks p u.below
    begins_below = begins_front stacks p u.below (reverse u.words) begins_words

    pub begins_next : Begins_with stacks p u.frame.lower
    begins_next = begins_front stacks p u.frame.lower (u.frame.mark ∷ u.frame.control ∷ u.frame.cells) (subst (Begins_with stacks p) u.frame.words_are begins_below)

    pub next_marked : word_at stacks (place p (length u.frame.lower)) ≡ Some u.frame.mark
    next_marked = mark_there tree code texts w lay p stacks next parts u.below u.frame begins_below

    above_it : Above stacks p home u.below u.words
    above_it =
        record {
          lies = begins_words;
          own = entered_to u.frame.home u.frame.df;
          marked = ap (read_as as_mscw) next_marked ∙ u.frame.mark_is;
          entered = refl;
          control = u.frame.back;
          controlled = ap (read_as as_rcw) (control_there tree code texts w lay p stacks next parts u.below u.frame begins_below) ∙ u.frame.control_is;
          low = under_home;
        }

    newest_under : newest home (length u.below) u.slots < length u.below + length u.slots
    newest_under = newest_low home (length u.below) u.slots under_home

    pub leads_under : look_seen stacks (frame_below (place p (length lower))) ≡ Ok (place p (length u.frame.lower))
    leads_under =
        under_seen sc u.held (level_in tree w next) stacks p home u.below u.words above_it (length lower) (entered_to u.home u.df) (ap (read_as as_mscw) marked ∙ u.mark_is) u.slots u.words_are
        (omega (arith, height, many, small)) u.far (omega (arith, u.far, newest_under, height, many))

    pub next_low : length u.frame.lower < length lower
    next_low = omega (arith, low, height)

  -- ---- all of them

  -- The last of these parts has an instance for its own.
  abbrev pub LastOwns : List Part → Type 0
  LastOwns [] = Unit {0}
  LastOwns (part ∷ []) = is_evaluation part.purpose ≡ false
  LastOwns (part ∷ next ∷ parts) = LastOwns (next ∷ parts)

  pub tower_around : (parts : List Part) (lower : List Word) (mark control : Word) (wanted : Yields) → Around tree code texts w lay p parts lower mark control wanted → (part : Part) → LastOwns (part ∷ parts) →
      (is_evaluation part.purpose ≡ false → numbered lay.places part.instance ≡ Some (place p (length lower))) → word_at stacks (place p (length lower)) ≡ Some mark → Begins_with stacks p lower → length lower ≤ stack_limit →
      Tower stacks lay p (part ∷ parts) (length lower)
  tower_around [] lower mark control wanted a part owns laid marked begins small =
      let bottom : length lower ≡ 0 = ap length a.0 in
      subst (λ (n : ℕ). Tower stacks lay p (part ∷ []) n) (sym bottom) (base owns (subst (λ (n : ℕ). numbered lay.places part.instance ≡ Some (place p n)) bottom (laid owns)))
  tower_around (next ∷ parts) lower mark control wanted a part owns laid marked begins small =
      let under : WaitsBelow = record { next = next; parts = parts; lower = lower; mark = mark; control = control; wanted = wanted; waiting = a.0; marked = marked; begins = begins; small = small } in
      let low = next_low under in
      above laid (leads_under under) low
      (tower_around parts a.0.frame.lower a.0.frame.mark a.0.frame.control a.0.frame.gives a.1 next owns (λ owned. frame_laid next parts a.0.below a.0.frame owned)
      (next_marked under) (begins_next under) (omega (arith, low, small)))

  -- the innermost part's frame, whose mark and what lies below it is there
  pub tower_of : (part : Part) (outer : List Part) (words : List Word) (f : Frame tree code texts w lay p part outer words) → Around tree code texts w lay p outer f.lower f.mark f.control f.gives → LastOwns (part ∷ outer) →
      word_at stacks (place p (length f.lower)) ≡ Some f.mark → Begins_with stacks p f.lower → length f.lower ≤ stack_limit → Tower stacks lay p (part ∷ outer) (length f.lower)
  tower_of part outer words f a owns marked begins small =
      tower_around outer f.lower f.mark f.control f.gives a part owns (λ owned. frame_laid part outer words f owned) marked begins small
