-- A process goes on in its innermost part, after a store into a cell of one of its own instances: of a variable, whose word in its stack is another one, or
-- of an array or an event, whose word stays.
use Rattle.std.proofs.Common.{◌≡◌, refl, sym, ap, ◌∙◌, subst, ℕ, suc, ◌+◌, ◌<◌, ◌≤◌, ◌∷◌, length, Some, arith}
use Rattle.b67_list.proofs.Numbered.{numbered_set}
use Rattle.b67_pictures.proofs.Prelude.{numbered, block_numbered, level_of, PProgram, Scopes, scopes_of, resume, is_evaluation, Instance, Process, Part, State, World, instance_at, with_process, BlockIsSeen, segment_of, InAnswer, IsOwn, place_at, Registers, Code, stack_limit, place, Image, frame, in_routine, Yields, Texts, context_of, ComesTo, Core, size, over, HasCore, newest, SlotsAre, CoreAt, weight, StayBelow, known_after, StandOn, frame_resumed, AreKnown, IsInReach, most_around, IsChained, Frame, FrameStands, run_level, AreLaid, steps_none, living_of, CanClimb, Actor, weight_of, text_in, level_in, most_in, names_in, same_weight, FrameStill, frame_still, still_low, put, length_put, stored_world, same_of, CellStore, EventsStay, task_stays, TheLaws, CriticalIs, TaskIs, Living}
use Rattle.b67_scenes.specs.Reaches as reaching
use Rattle.b67_scenes.proofs.Staying.{IsAsHeavy}
use Rattle.b67_scenes.proofs.StoringFrames.{same_ancestors, as_heavy, Stored, known_stored, onward_from, frame_stored}
use Rattle.b67_pictures.proofs.InFrame.{GoesOnAbove}

module _ (tree : PProgram) (code : Code) (texts : Texts) (laws : TheLaws) (actor : Actor tree code texts) where
  open laws use {fragments, keeps as kept, order}
  open actor use {w, lay, p, q, part, outer, bound, core, s}

  module _ (onward : GoesOnAbove tree code texts actor) (store : CellStore tree w lay p) (own : IsOwn (part ∷ outer) store.i) (state : State) where
    open onward use {unmade, answer, nameless, words, registers, frame_is, pc, slots, there, few, comes}
    open store use {i, x, at, with_cells, up as k, place_is, word, many}

    abbrev sc : Scopes
    sc = scopes_of tree

    abbrev b : ℕ
    b = (instance_at w part.instance).block

    abbrev level : ℕ
    level = run_level (is_evaluation part.purpose) (level_of (block_numbered sc.blocks b))

    abbrev st : FrameStands tree code texts w lay p part outer core
    st = s.stands

    abbrev part' : Part
    part' = record part { rest = resume sc part.rest answer }

    abbrev q' : Process
    q' = record q { todo = part' ∷ outer; state = state }

    abbrev stored : World
    stored = stored_world w i x at with_cells

    abbrev w' : World
    w' = with_process stored p q'

    -- the core after it
    abbrev before : Core
    before = record { below = core.below; words = words; registers = registers }

    abbrev new : Core
    new = over (put word core.below k) before

    abbrev AfterStore : Type 0
    AfterStore = Stored tree code texts w lay p store part outer core.below st.frame

    frames : AfterStore
    frames = frame_stored tree code texts w lay p store part outer core.below st.frame s.around own

    block_is : b ≡ (instance_at w' part.instance).block
    block_is = same_of w i x at with_cells (λ (z : Instance). z.block) refl part.instance

    as_high : length core.below ≡ length new.below
    as_high = sym (length_put word core.below k)

    core_at : CoreAt sc st.held code (text_in tree texts w part) (level_in tree w part) pc slots new
    core_at =
        record {
          segment = there.segment;
          there = there.there;
          spells = there.spells;
          level_is = there.level_is;
          place_is = there.place_is;
          is = record { bottom = sym as_high ∙ there.is.bottom; top = omega (arith, there.is.top, as_high) };
          mark_is = there.mark_is ∙ ap (λ (n : ℕ). newest (frame registers) n slots) as_high;
          words_are = subst (λ (n : ℕ). SlotsAre sc st.held level (frame registers) n slots words) as_high there.words_are;
        }

    room' : length new.below + most_in tree w part ≤ bound
    room' = omega (arith, s.room, as_high)

    chained : IsChained sc w' lay part.instance (level_of (block_numbered sc.blocks b)) core.registers.display
    chained up low =
        st.chained up low
        ∙ ap (λ (j : ℕ). numbered lay.places j) (same_ancestors w w' (λ j. same_of w i x at with_cells (λ (z : Instance). z.parent) refl j) up part.instance)

    heavy : (j : ℕ) → IsAsHeavy w w' j
    heavy j = let h : IsAsHeavy w stored j = as_heavy w i x at with_cells many j in record { block = h.block; cells = h.cells }

    light' : bound + 3 ≤ weight tree w' p
    light' =
        subst (λ (m : ℕ). bound + 3 ≤ m)
        (weight_of tree w p q (part ∷ outer) s.at s.todo
        ∙ sym (same_weight tree w w' (part ∷ outer) (λ j own_part. heavy j))
        ∙ sym (weight_of tree w' p q' (part' ∷ outer) (numbered_set w.processes p q q' s.at) refl)) s.light

    -- the world with the process's part gone on has the same instances
    module _ (on : StandOn (scopes_of tree) w (with_process (stored_world w i x at with_cells) p (record q { todo = record part { rest = resume (scopes_of tree) part.rest answer } ∷ outer; state = state })) lay lay) where
      abbrev stay : StayBelow sc stored w' lay lay p (suc (length frames.frame.lower))
      stay =
          record {
            on = onward_from tree code texts w lay p store w' refl on;
            instances = λ j n y e mine lies low. e;
            rows = λ j n y e mine lies low. refl;
          }

      frame_low : length frames.frame.lower < suc (length frames.frame.lower)
      frame_low = omega arith

      still : FrameStill tree code texts stored w' lay lay p (suc (length frames.frame.lower)) stay part outer new.below frames.frame.cells frames.frame.gives
      still = frame_still tree code texts stored w' lay lay p (suc (length frames.frame.lower)) stay part outer new.below frames.frame frames.around frame_low

      abbrev frame' : Frame tree code texts w' lay p part' outer new.below
      frame' = frame_resumed tree code texts w' lay p kept order part outer new.below new.below still.frame refl unmade answer (subst (λ (m : ℕ). InAnswer (BlockIsSeen (scopes_of tree) m) answer) block_is nameless)

      -- what is known of descriptors and references holds as it did
      known_now : AreKnown sc w' lay (IsInReach w' (part' ∷ outer)) part.instance st.held
      known_now =
          known_after tree code texts stored w' lay lay p (suc (length frames.frame.lower)) stay part outer new.below frames.frame frames.around frame_low st.held
          (known_stored tree code texts w lay p store (part ∷ outer) part.instance st.held st.held_are)

      abbrev At : ℕ → Type 0
      At c = CoreAt sc st.held code (texts.placed (segment_of sc.blocks c)) (run_level (is_evaluation part.purpose) (level_of (block_numbered sc.blocks c))) pc slots new

      abbrev Comes : ℕ → Yields → Type 0
      Comes c y =
          ComesTo sc (in_routine y (context_of code texts sc c)) (texts.placed (segment_of sc.blocks c)) (run_level (is_evaluation part.purpose) (level_of (block_numbered sc.blocks c))) (most_around tree c) (resume sc part.rest answer) pc slots

      pub own_goes_along : (after : Image) → HasCore after p (over (put word core.below k) (record { below = core.below; words = words; registers = registers })) → size (record { below = core.below; words = words; registers = registers }) ≤ stack_limit →
          CanClimb (scopes_of tree) (with_process (stored_world w i x at with_cells) p (record q { todo = record part { rest = resume (scopes_of tree) part.rest answer } ∷ outer; state = state })) →
          AreLaid (with_process (stored_world w i x at with_cells) p (record q { todo = record part { rest = resume (scopes_of tree) part.rest answer } ∷ outer; state = state })) lay →
          EventsStay w (with_process (stored_world w i x at with_cells) p (record q { todo = record part { rest = resume (scopes_of tree) part.rest answer } ∷ outer; state = state })) →
          Living tree code texts (with_process (stored_world w i x at with_cells) p (record q { todo = record part { rest = resume (scopes_of tree) part.rest answer } ∷ outer; state = state })) lay after p
          (record q { todo = record part { rest = resume (scopes_of tree) part.rest answer } ∷ outer; state = state })
      own_goes_along after has small climb laid' events_stay =
          living_of tree code texts w' lay after climb laid' fragments p q' part' outer bound new new (record {
            todo = refl;
            has = has;
            critical = subst (λ (r : Registers). CriticalIs lay q.critical r.critical) (sym frame_is.is) s.critical;
            task = subst (λ (r : Registers). TaskIs sc w' lay q.task r.task) (sym frame_is.is) (task_stays sc w w' lay lay events_stay (λ j f there. there) q.task core.registers.task s.task);
            sees = ap (λ (r : Registers). place_at r.display 0) frame_is.is ∙ s.sees;
            small = omega (arith, small, as_high);
            begun = 0;
            begins = steps_none sc st.held code (text_in tree texts w part) (level_in tree w part) (most_in tree w part) bound pc slots new core_at few room';
            frame = frame';
            around = still.around;
            counted = ap (λ (r : Registers). r.cells) frame_is.is ∙ st.counted ∙ sym frames.cells ∙ sym (ap length still.cells_are);
            chained = subst (λ d. IsChained sc w' lay part.instance (names_in tree w' part) d) (sym (ap (λ (r : Registers). r.display) frame_is.is))
                (subst (λ (m : ℕ). IsChained sc w' lay part.instance (level_of (block_numbered sc.blocks m)) core.registers.display) block_is chained);
            top = ap (λ (r : Registers). place_at r.display (level_in tree w' part)) frame_is.is
                ∙ ap (λ (m : ℕ). place_at core.registers.display (run_level (is_evaluation part.purpose) (level_of (block_numbered sc.blocks m)))) (sym block_is)
                ∙ st.top
                ∙ ap (λ (m : ℕ). Some (place p m)) (sym (still_low tree code texts stored w' lay lay p (suc (length frames.frame.lower)) stay part outer new.below frames.frame still ∙ frames.lower));
            segment_is = ap (λ (r : Registers). r.segment) frame_is.is ∙ st.segment_is ∙ ap (λ (m : ℕ). segment_of sc.blocks m) block_is;
            pc = pc;
            slots = slots;
            known = st.held;
            known_are = known_now;
            at = subst At block_is core_at;
            held = subst (λ (m : ℕ). length slots ≤ most_around tree m) block_is few;
            comes = subst (λ (m : ℕ). Comes m still.frame.gives) block_is (subst (λ (y : Yields). Comes b y) (sym (still.gives_are ∙ frames.gives)) comes);
            reaches = reaching.all refl;
            room = subst (λ (m : ℕ). length new.below + most_around tree m ≤ bound) block_is room';
            light = light';
          })
