-- The part around a frame that was left goes on, with what is given.
use Rattle.std.proofs.Common.{◌≡◌, refl, sym, ap, ◌∙◌, subst, ℕ, ◌+◌, ◌≤◌, List, ◌∷◌, length, Option, Some, arith, ◌<◌}
use Rattle.b67_pictures.proofs.Prelude.{slice_get, numbered, block_numbered, level_of, PProgram, Scopes, scopes_of, resume, is_evaluation, Answer, Process, Part, World, instance_at, ancestor, BlockIsSeen, segment_of, Word, Place, place_at, Code, stack_limit, place, Image, frame, at_or, in_routine, Yields, Texts, context_of, Gives, ComesTo, Slot, Core, size, HasCore, Known, newest, SlotsAre, CoreAt, weight, IsSameBut, HasText, HaveTexts, makes, unmade, StayBelow, known_after, frame_resumed, AreKnown, IsInReach, IsChained, most_around, Frame, Waits, run_level, all_laid, steps_none, living_of, CanClimb, InnerActor, weight_of, text_in, level_in, most_in, FrameStill, frame_still, still_low, same_weight, context_in, names_in, task_stays, TheLaws, Living}
use Rattle.b67_rows.proofs.LeaveRow.{without_frame}
use Rattle.b67_scenes.specs.Reaches as reaching
use Rattle.b67_scenes.proofs.Tasks.{events_left}
use Rattle.b67_scenes.proofs.Stuffed.{known_both}
use Rattle.b67_pictures.proofs.LeavingWords as leaving
use Rattle.b67_pictures.proofs.LeavingWords.{IsGiven, known_given, low, height, top, hung, shown_home, nameless, words_are, same_newest, one_more, few}

module _ (tree : PProgram) (code : Code) (texts : Texts) (actor : InnerActor tree code texts) where
  open actor use {w, lay, next, parts, s}

  -- what the part gives to the one around it
  pub record GivesBack : Type 0 where
    pub answer : Answer
    pub given : Option Word
    pub is_given : IsGiven s.stands.frame.gives answer given
    pub gives_it : Gives s.stands.frame.gives answer
    pub known_there : AreKnown (scopes_of tree) w lay (IsInReach w (next ∷ parts)) next.instance (known_given s.stands.frame.gives answer given)

module _ (tree : PProgram) (code : Code) (texts : Texts) (stand : HaveTexts tree code texts) (laws : TheLaws) (actor : InnerActor tree code texts) where
  open laws use {fragments, keeps, order}
  open actor use {w, lay, p, q, next, parts, core, s}

  module _ (given_back : GivesBack tree code texts actor) where
    open given_back use {answer as r, given, is_given as g, gives_it, known_there}

    abbrev sc : Scopes
    sc = scopes_of tree

    abbrev u : Waits tree code texts w lay p next parts s.stands.frame.lower s.stands.frame.mark s.stands.frame.control s.stands.frame.gives
    u = s.around.0

    abbrev home : ℕ
    home = length u.frame.lower

    abbrev f : ℕ
    f = length s.stands.frame.lower

    abbrev slots : List Slot
    slots = leaving.slots tree code texts actor r given g

    abbrev words : List Word
    words = leaving.words tree code texts actor r given g

    abbrev held : List Known
    held = leaving.held tree code texts actor r given g

    abbrev display : List (Option Place)
    display = leaving.display tree code texts actor

    -- ---- the part, its process, and its core

    abbrev pub part' : Part
    part' = record next { rest = resume sc next.rest r }

    abbrev pub q' : Process
    q' = record q { todo = part' ∷ parts }

    abbrev pub new : Core
    new =
        without_frame core u.below u.words (leaving.f' tree code texts actor)
        (record { below = leaving.b tree code texts actor; display = display }) given

    frame_now : frame new.registers ≡ home
    frame_now = ap at_or (shown_home tree code texts actor)

    pub smaller : size new ≤ stack_limit
    smaller =
        omega (
          arith,
          height tree code texts actor,
          top tree code texts actor,
          one_more tree code texts actor r given g,
          s.small,
        )

    lowest : home < f
    lowest = omega (arith, low tree code texts actor, height tree code texts actor)

    -- ---- in a world in which the instances are what they were, but for what was left

    -- The world after it, and an image in which the process has its core.
    pub record WorldAround : Type 0 where
      pub world : World
      pub climb : CanClimb (scopes_of tree) world
      pub as_many : length lay.places ≡ length world.instances
      pub at_now : numbered world.processes p ≡ Some q'
      pub stay : StayBelow (scopes_of tree) w world lay lay p f
      pub same_now : (j : ℕ) → IsSameBut (instance_at world j) (instance_at w j)
      pub same_up : (up j : ℕ) → ancestor world up j ≡ ancestor w up j
      pub now : Image
      pub has_here : HasCore now p new

    module _ (then : WorldAround) where
      open then use {world as w', climb, as_many, at_now, stay, same_now, same_up, now, has_here}

      still : FrameStill tree code texts w w' lay lay p f stay next parts u.below u.frame.cells u.frame.gives
      still = frame_still tree code texts w w' lay lay p f stay next parts u.below u.frame s.around.1 lowest

      block_now : (instance_at w next.instance).block ≡ (instance_at w' next.instance).block
      block_now = sym (same_now next.instance).block

      -- what is known of descriptors and references holds as it did
      known_now : AreKnown sc w' lay (IsInReach w' (next ∷ parts)) next.instance held
      known_now =
          known_after tree code texts w w' lay lay p f stay next parts u.below u.frame s.around.1 lowest held
          (known_both sc w lay (IsInReach w (next ∷ parts)) next.instance (known_given s.stands.frame.gives r given) u.held known_there u.held_are)

      text : HasText code texts (segment_of sc.blocks ((instance_at w next.instance).block))
      text = stand ((instance_at w next.instance).block)

      core_at : CoreAt sc held code (text_in tree texts w next) (level_in tree w next) u.pc slots new
      core_at =
          record {
            segment = text.segment;
            there = ap (λ (n : ℕ). slice_get code.segments n) u.segment_is ∙ text.there;
            spells = text.spells;
            level_is = u.level_is;
            place_is = u.place_is;
            is = has_here.is;
            mark_is = same_newest tree code texts actor r given g ∙ ap (λ (n : ℕ). newest n (length u.below) slots) (sym frame_now);
            words_are = subst (λ (n : ℕ). SlotsAre sc held (level_in tree w next) n (length u.below) slots words) (sym frame_now) (words_are tree code texts actor r given g);
          }

      few_now : length slots ≤ most_in tree w next
      few_now = few tree code texts actor r given g

      chained_now : IsChained sc w' lay next.instance (names_in tree w' next) display
      chained_now =
          subst (λ (j : ℕ). IsChained sc w' lay next.instance (level_of (block_numbered sc.blocks j)) display) block_now
          (λ up h. (hung tree code texts actor).chained up h ∙ ap (λ (j : ℕ). numbered lay.places j) (sym (same_up up next.instance)))

      abbrev frame_there : Frame tree code texts w' lay p part' parts u.below
      frame_there = frame_resumed tree code texts w' lay p keeps order next parts u.below u.below still.frame refl (unmade next.rest (ap makes u.waits)) r (nameless tree code texts actor r given g (BlockIsSeen sc ((instance_at w' next.instance).block)))

      top_now : place_at display (level_in tree w' next) ≡ Some (place p (length still.frame.lower))
      top_now =
          ap (λ (j : ℕ). place_at display (run_level (is_evaluation next.purpose) (level_of (block_numbered sc.blocks j)))) (sym block_now)
          ∙ ap (place_at display) (sym u.level_is)
          ∙ shown_home tree code texts actor
          ∙ ap (λ (n : ℕ). Some (place p n)) (sym (still_low tree code texts w w' lay lay p f stay next parts u.below u.frame still))

      abbrev bound' : ℕ
      bound' = length u.below + most_in tree w next

      light' : bound' + 3 ≤ weight tree w' p
      light' =
          subst (λ (n : ℕ). bound' + 3 ≤ n)
          (sym (same_weight tree w w' (next ∷ parts) (λ j own. record { block = (same_now j).block; cells = ap length (same_now j).cells }))
          ∙ sym (weight_of tree w' p q' (part' ∷ parts) at_now refl)) u.light

      pub living_now : Living tree code texts w' lay now p q'
      living_now =
          living_of tree code texts w' lay now climb (all_laid w' lay climb.facts as_many) fragments p q' part' parts bound' new new (record {
            todo = refl;
            has = has_here;
            critical = s.critical;
            task = task_stays sc w w' lay lay (events_left w w' same_now) (λ j f laid. laid) q.task core.registers.task s.task;
            sees = refl;
            small = smaller;
            begun = 0;
            begins = steps_none sc held code (text_in tree texts w next) (level_in tree w next) (most_in tree w next) bound' u.pc slots new core_at few_now (omega arith);
            frame = frame_there;
            around = still.around;
            counted = u.cells_are ∙ sym (ap length still.cells_are);
            chained = chained_now;
            top = top_now;
            segment_is = u.segment_is ∙ ap (segment_of sc.blocks) block_now;
            pc = u.pc;
            slots = slots;
            known = held;
            known_are = known_now;
            at = subst (λ (j : ℕ). CoreAt sc held code (texts.placed (segment_of sc.blocks j)) (run_level (is_evaluation next.purpose) (level_of (block_numbered sc.blocks j))) u.pc slots new) block_now core_at;
            held = subst (λ (j : ℕ). length slots ≤ most_around tree j) block_now few_now;
            comes = subst (λ (y : Yields). ComesTo sc (context_in tree code texts w' part' y) (text_in tree texts w' part') (level_in tree w' part') (most_in tree w' part') part'.rest u.pc slots) (sym still.gives_are)
                (subst (λ (j : ℕ). ComesTo sc (in_routine u.frame.gives (context_of code texts sc j)) (texts.placed (segment_of sc.blocks j)) (run_level (is_evaluation next.purpose) (level_of (block_numbered sc.blocks j))) (most_around tree j) (resume sc next.rest r) u.pc slots) block_now
                (u.returns r gives_it));
            reaches = reaching.all refl;
            room = subst (λ (j : ℕ). length u.below + most_around tree j ≤ bound') block_now (omega arith);
            light = light';
          })
