-- What lies under a frame that is left: the words of the part around, with what is given on top.
use Rattle.std.proofs.Common.{◌≡◌, inl, refl, sym, ap, ◌∙◌, subst, ℕ, ◌+◌, ◌≤◌, List, [], ◌∷◌, ◌++◌, length, Option, Some, None, Ok, arith}
use Rattle.b67_pictures.proofs.Prelude.{reverse, PProgram, Scopes, scopes_of, Kind, Named, Answer, done, value, Value, InAnswer, IsStanding, Word, Place, place_at, Code, Rows, stack_limit, place, rebuilt, with_rows, arrays_closed, look_seen, Change, Below, Yields, Texts, pushed, PlaceIsFound, held_at, Slot, slots_length, ValueIs, Known, newest, SlotsAre, shown, shown_top, rebuilt_seen, Leaves, facts_of, Hangs, hangs, Linked, Begins_with, begins_core, part_stands, Waits, frame_is, actor_of, InnerActor, level_in, most_in}
use Rattle.algol_meaning.specs.Rest as rests
use Rattle.algol_paths.specs.Texts.{InPlace}
use Rattle.b67_table.specs.Chains.{left_to}
use Rattle.b67_table.specs.Program.{changed}
use Rattle.b67_templates.specs.Contexts as yielding
use Rattle.b67_rows.proofs.Displays.{IsEntered}
use Rattle.b67_rows.proofs.LeaveRow.{given_words}
use Rattle.b67_pictures.proofs.ParentPlaces.{standing_linked}
use Rattle.b67_scenes.proofs.FrameBelow as under
use Rattle.b67_pictures.proofs.Indexing.{more_known}
use Rattle.b67_scenes.proofs.FrameBelow.{InnerFrame}

-- what a part gives, and the word of it
pub data IsGiven : Yields → Answer → Option Word → Type 0 where
  nothing_given : IsGiven yielding.nothing done None
  value_given : (kind : Kind) (v : Value) (x : Word) → ValueIs v x → IsGiven (yielding.value kind) (value v) (Some x)
  place_given : (kind : Kind) (at : rests.Place) (x : Word) → PlaceIsFound at → IsGiven (yielding.element kind) (rests.place at) (Some x)

-- what is then known of that word
abbrev pub known_given : Yields → Answer → Option Word → List Known
known_given (yielding.element kind) (rests.place at) (Some x) = record { held = held_at at kind; word = x } ∷ []
known_given _ _ _ = []

-- a place that was found has no name of the part
found_nameless : (P : Named → Type 0) (at : rests.Place) → PlaceIsFound at → InPlace P at
found_nameless P (rests.own n) found = absurd found
found_nameless P (rests.there r) found = tt
found_nameless P (rests.element_of r ks) found = tt

module _ (tree : PProgram) (code : Code) (texts : Texts) (actor : InnerActor tree code texts) where
  open actor use {w, lay, img, p, part, next, parts, core, s}

  abbrev sc : Scopes
  sc = scopes_of tree

  -- the part around, and where its frame and the one that is left lie
  abbrev pub u : Waits tree code texts w lay p next parts s.stands.frame.lower s.stands.frame.mark s.stands.frame.control s.stands.frame.gives
  u = s.around.0

  abbrev pub home : ℕ
  home = length u.frame.lower

  abbrev pub f : ℕ
  f = length s.stands.frame.lower

  abbrev pub f' : ℕ
  f' = length (u.below ++ reverse u.words)

  pub same_f : f ≡ f'
  same_f = ap length u.lower_is

  begins : Begins_with img.stacks p core.below
  begins = begins_core img p core s.has

  core_small : length core.below ≤ stack_limit
  core_small = omega (arith, s.small)

  abbrev inner : InnerFrame tree code texts w lay p img.stacks
  inner = record { part = part; next = next; parts = parts; words = core.below; frame = s.stands.frame; around = s.around; begins = begins; small = core_small }

  pub low : home + 2 + length u.frame.cells ≡ length u.below
  low = under.low tree code texts w lay p img.stacks inner

  pub many : length u.words ≡ length u.slots
  many = under.many tree code texts w lay p img.stacks inner

  pub height : f ≡ length u.below + length u.words
  height = under.height tree code texts w lay p img.stacks inner

  pub top : f + 2 + length s.stands.frame.cells ≡ length core.below
  top = under.top tree code texts w lay p img.stacks inner

  pub begins_below : Begins_with img.stacks p u.below
  begins_below = under.begins_below tree code texts w lay p img.stacks inner

  -- ---- the frames

  pub next_stands : IsStanding w next.instance
  next_stands = part_stands tree code texts w lay p (facts_of sc w s.ok) next parts u.below u.frame s.around.1

  pub next_linked : Linked sc w lay img.stacks next.instance
  next_linked = standing_linked tree code texts w lay img s.by s.ok next.instance next_stands

  -- that of the part around, which may be lent
  pub hung : Hangs tree code texts w lay p img.stacks next parts u.below u.frame begins_below next_linked
  hung = hangs tree code texts w lay p img.stacks next parts u.below u.frame begins_below next_linked

  abbrev pub b : Below
  b = record { mark = newest home (length u.below) u.slots; frame = home; control = u.back }

  left_there : look_seen img.stacks (left_to (place p f)) ≡ Ok b
  left_there = under.leads_down tree code texts w lay p img.stacks inner

  abbrev pub display : List (Option Place)
  display = shown (place p home) hung.more

  rebuilt_there : look_seen img.stacks (rebuilt (place p home) u.back.caller_level) ≡ Ok display
  rebuilt_there =
      rebuilt_seen (place p home) hung.home hung.more u.back.caller_level
      (subst (λ (n : ℕ). IsEntered img.stacks (place p home) hung.home n) (sym (u.level_is ∙ hung.level_is)) hung.entered) hung.links (u.level_is ∙ hung.level_is)

  -- the display names the frame of the part around at the level at which its code runs
  pub shown_home : place_at display u.back.caller_level ≡ Some (place p home)
  shown_home = ap (place_at display) (u.level_is ∙ hung.level_is) ∙ shown_top (place p home) hung.more

  -- the frame is left, where these rows are left once its cells are closed
  module _ (rows : Rows) (closed : (m : ℕ) (change : Change) → changed m (arrays_closed s.stands.frame.cells change) img ≡ changed m change (with_rows img rows)) where
    pub leaves_so : Leaves img core u.below u.words s.stands.frame.mark s.stands.frame.control s.stands.frame.cells b display
    leaves_so =
        record {
          is = s.stands.frame.words_are ∙ ap (λ (ws : List Word). ws ++ s.stands.frame.mark ∷ s.stands.frame.control ∷ s.stands.frame.cells) u.lower_is;
          some = omega (arith, same_f, height, low);
          frame_is = frame_is tree code texts (actor_of s) ∙ same_f;
          counted = s.stands.counted;
          rows = rows;
          closed = closed;
          left_to = subst (λ (n : ℕ). look_seen img.stacks (left_to (place n f')) ≡ Ok b) (sym s.has.own) (subst (λ (n : ℕ). look_seen img.stacks (left_to (place p n)) ≡ Ok b) same_f left_there);
          rebuilt = subst (λ (n : ℕ). look_seen img.stacks (rebuilt (place n home) u.back.caller_level) ≡ Ok display) (sym s.has.own) rebuilt_there;
        }

    pub rows_are : leaves_so.rows ≡ rows
    unfolding leaves_so
    rows_are = refl

  -- ---- what is given lies on top

  module _ (r : Answer) (given : Option Word) (g : IsGiven s.stands.frame.gives r given) where
    abbrev pub slots : List Slot
    slots = pushed s.stands.frame.gives r u.slots

    abbrev pub words : List Word
    words = given_words given ++ u.words

    abbrev pub held : List Known
    held = known_given s.stands.frame.gives r given ++ u.held

    pub nameless : (P : Named → Type 0) → InAnswer P r
    nameless P = by_given s.stands.frame.gives r given g
      where
        by_given : (y : Yields) (a : Answer) (o : Option Word) → IsGiven y a o → InAnswer P a
        by_given y a o nothing_given = tt
        by_given y a o (value_given kind v x is) = tt
        by_given y a o (place_given kind at x found) = found_nameless P at found

    pub words_are : SlotsAre sc held (level_in tree w next) home (length u.below) slots words
    words_are = by_given s.stands.frame.gives r given g
      where
        by_given : (y : Yields) (a : Answer) (o : Option Word) → IsGiven y a o →
            SlotsAre sc (known_given y a o ++ u.held) (level_in tree w next) home (length u.below) (pushed y a u.slots) (given_words o ++ u.words)
        by_given y a o nothing_given = u.words_are
        by_given y a o (value_given kind v x is) = (is, u.words_are)
        by_given y a o (place_given kind at x found) =
            (inl (refl, refl), more_known u.held (record { held = held_at at kind; word = x }) sc (level_in tree w next) home (length u.below) u.slots u.words u.words_are)

    pub same_newest : newest home (length u.below) u.slots ≡ newest home (length u.below) slots
    same_newest = by_given s.stands.frame.gives r given g
      where
        by_given : (y : Yields) (a : Answer) (o : Option Word) → IsGiven y a o → newest home (length u.below) u.slots ≡ newest home (length u.below) (pushed y a u.slots)
        by_given y a o nothing_given = refl
        by_given y a o (value_given kind v x is) = refl
        by_given y a o (place_given kind at x found) = refl

    pub one_more : length words ≤ length u.words + 1
    one_more = by_given s.stands.frame.gives r given g
      where
        by_given : (y : Yields) (a : Answer) (o : Option Word) → IsGiven y a o → length (given_words o ++ u.words) ≤ length u.words + 1
        by_given y a o nothing_given = omega arith
        by_given y a o (value_given kind v x is) = omega arith
        by_given y a o (place_given kind at x found) = omega arith

    pub few : length slots ≤ most_in tree w next
    few = omega (arith, slots_length sc held (level_in tree w next) home (length u.below) slots words words_are, many, one_more, u.few)
