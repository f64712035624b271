-- A process goes on in its innermost part, in a world in which its own instances, and the rows of their arrays, are what they were.
use Rattle.std.proofs.Common.{◌≡◌, refl, sym, ap, ◌∙◌, subst, ℕ, ◌+◌, ◌<◌, ◌≤◌, ◌∷◌, length, Some, arith}
use Rattle.b67_pictures.proofs.Prelude.{numbered, block_numbered, level_of, PProgram, scopes_of, resume, is_evaluation, Instance, Process, Part, State, World, instance_at, BlockIsSeen, segment_of, InAnswer, place_at, Registers, Code, stack_limit, Image, in_routine, Yields, Texts, context_of, ComesTo, size, HasCore, CoreAt, weight, facts_of, StayBelow, StandOn, frame_resumed, Layout, most_around, IsChained, Frame, run_level, AreLaid, all_laid, steps_none, living_of, CanClimb, Actor, weight_of, text_in, level_in, most_in, names_in, FrameStill, frame_still, frame_low, chained_stays, top_stays, parts_weigh, known_stays, EventsStay, critical_stays, task_stays, TheLaws, CriticalIs, TaskIs, Living}
use Rattle.b67_scenes.specs.Reaches as reaching
use Rattle.b67_scenes.proofs.Staying.{block_stays}
use Rattle.b67_pictures.proofs.InFrame.{GoesOn}

module _ (tree : PProgram) (code : Code) (texts : Texts) (laws : TheLaws) (actor : Actor tree code texts) where
  open laws use {fragments, keeps, order}
  open actor use {w, lay, p, q, part, outer, bound, core, s}

  -- The world after it, and its layout, in which its own instances and their rows are what they were.
  pub record WorldThen (onward : GoesOn tree code texts actor) : Type 0 where
    pub world : World
    pub layout : Layout
    pub state : State
    pub on : StandOn (scopes_of tree) w world lay layout
    pub own : (i : ℕ) (x : Instance) → numbered w.instances i ≡ Some x → x.process ≡ p → numbered world.instances i ≡ Some x
    pub rows : (i : ℕ) (x : Instance) → numbered w.instances i ≡ Some x → x.process ≡ p → layout.rows i ≡ lay.rows i
    pub events : EventsStay w world
    pub laid_later : length layout.places ≡ length world.instances
    pub at_later : numbered world.processes p ≡ Some (record q { todo = record part { rest = resume (scopes_of tree) part.rest onward.answer } ∷ outer; state = state })

  module _ (onward : GoesOn tree code texts actor) (then : WorldThen onward) where
    open then use {world as w', layout as lay', state, on, own, rows, events, laid_later, at_later}
    open onward use {unmade, answer as a, nameless, new, below, frame_is, known, known_are, pc, slots, there, few, comes}

    abbrev part' : Part
    part' = record part { rest = resume (scopes_of tree) part.rest a }

    abbrev q' : Process
    q' = record q { todo = part' ∷ outer; state = state }

    laid : AreLaid w lay
    laid = all_laid w lay (facts_of (scopes_of tree) w s.ok) s.by.laid

    abbrev stay : StayBelow (scopes_of tree) w w' lay lay' p (length core.below)
    stay = record { on = on; instances = λ i at x e mine lies low. own i x e mine; rows = λ i at x e mine lies low. rows i x e mine }

    all_low : length core.below ≤ length core.below
    all_low = omega arith

    frame_lies : length s.stands.frame.lower < length core.below
    frame_lies = omega (arith, frame_low tree code texts w lay p part outer core.below s.stands.frame)

    still : FrameStill tree code texts w w' lay lay' p (length core.below) stay part outer core.below s.stands.frame.cells s.stands.frame.gives
    still = frame_still tree code texts w w' lay lay' p (length core.below) stay part outer core.below s.stands.frame s.around frame_lies

    block_is : (instance_at w part.instance).block ≡ (instance_at w' part.instance).block
    block_is = block_stays tree code texts w w' lay lay' p (length core.below) stay laid part outer core s.stands s.around all_low

    abbrev At : ℕ → Type 0
    At b = CoreAt (scopes_of tree) known code (texts.placed (segment_of (scopes_of tree).blocks b)) (run_level (is_evaluation part.purpose) (level_of (block_numbered (scopes_of tree).blocks b))) pc slots new

    abbrev Comes : ℕ → Yields → Type 0
    Comes b y =
        ComesTo (scopes_of tree) (in_routine y (context_of code texts (scopes_of tree) b)) (texts.placed (segment_of (scopes_of tree).blocks b)) (run_level (is_evaluation part.purpose) (level_of (block_numbered (scopes_of tree).blocks b))) (most_around tree b)
        (resume (scopes_of tree) part.rest a) pc slots

    abbrev frame' : Frame tree code texts w' lay' p part' outer new.below
    frame' = frame_resumed tree code texts w' lay' p keeps order part outer core.below new.below still.frame below unmade a (subst (λ (b : ℕ). InAnswer (BlockIsSeen (scopes_of tree) b) a) block_is nameless)

    light' : bound + 3 ≤ weight tree w' p
    light' =
        subst (λ (n : ℕ). bound + 3 ≤ n)
        (weight_of tree w p q (part ∷ outer) s.at s.todo
        ∙ sym (parts_weigh tree code texts w w' lay lay' p (length core.below) stay laid part outer core s.stands s.around all_low)
        ∙ sym (weight_of tree w' p q' (part' ∷ outer) at_later refl)) s.light

    room' : length new.below + most_in tree w part ≤ bound
    room' = omega (arith, s.room, ap length below)

    pub goes_along : (after : Image) → HasCore after p new → size new ≤ stack_limit → CanClimb (scopes_of tree) w' →
        Living tree code texts w' lay' after p (record q { todo = record part { rest = resume (scopes_of tree) part.rest a } ∷ outer; state = state })
    goes_along after has small climb =
        living_of tree code texts w' lay' after climb (all_laid w' lay' on.after laid_later) fragments p q' part' outer bound new new (record {
          todo = refl;
          has = has;
          critical = subst (λ (r : Registers). CriticalIs lay' q.critical r.critical) (sym frame_is.is) (critical_stays lay lay' on.places q.critical core.registers.critical s.critical);
          task = subst (λ (r : Registers). TaskIs (scopes_of tree) w' lay' q.task r.task) (sym frame_is.is)
              (task_stays (scopes_of tree) w w' lay lay' events on.places q.task core.registers.task s.task);
          sees = ap (λ (r : Registers). place_at r.display 0) frame_is.is ∙ s.sees;
          small = small;
          begun = 0;
          begins = steps_none (scopes_of tree) known code (text_in tree texts w part) (level_in tree w part) (most_in tree w part) bound pc slots new there few room';
          frame = frame';
          around = still.around;
          counted = ap (λ (r : Registers). r.cells) frame_is.is ∙ s.stands.counted ∙ sym (ap length still.cells_are);
          chained = subst (λ d. IsChained (scopes_of tree) w' lay' part.instance (names_in tree w' part) d) (sym (ap (λ (r : Registers). r.display) frame_is.is))
              (subst (λ (b : ℕ). IsChained (scopes_of tree) w' lay' part.instance (level_of (block_numbered (scopes_of tree).blocks b)) core.registers.display) block_is
              (chained_stays tree code texts w w' lay lay' p (length core.below) stay laid part outer core s.stands s.around all_low core.registers.display s.stands.chained));
          top = ap (λ (r : Registers). place_at r.display (level_in tree w' part)) frame_is.is
              ∙ top_stays tree code texts w w' lay lay' p (length core.below) stay laid part outer core s.stands s.around all_low still;
          segment_is = ap (λ (r : Registers). r.segment) frame_is.is ∙ s.stands.segment_is ∙ ap (λ (b : ℕ). segment_of (scopes_of tree).blocks b) block_is;
          pc = pc;
          slots = slots;
          known = known;
          known_are = known_stays tree code texts w w' lay lay' p (length core.below) stay laid part outer core s.stands s.around all_low known known_are;
          at = subst At block_is there;
          held = subst (λ (b : ℕ). length slots ≤ most_around tree b) block_is few;
          comes = subst (λ (b : ℕ). Comes b still.frame.gives) block_is (subst (λ (y : Yields). Comes ((instance_at w part.instance).block) y) (sym still.gives_are) comes);
          reaches = reaching.all refl;
          room = subst (λ (b : ℕ). length new.below + most_around tree b ≤ bound) block_is room';
          light = light';
        })
