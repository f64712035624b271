-- A store into a cell of a frame of a process, by whatever process: the one whose frame it is lives on after it, with the word in its stack below its
-- floor, on its way to where it stands or there; and all others are pictured as they were.
use Rattle.std.proofs.Common.{◌≡◌, ◌≢◌, ◌⊎◌, inl, inr, refl, sym, ap, ◌∙◌, subst, ℕ, ◌+◌, ◌<◌, ◌≤◌, List, [], ◌∷◌, ◌++◌, length, Option, Some, arith}
use Rattle.b67_scenes.proofs.Prelude.{numbered, block_numbered, level_of, PProgram, Scopes, scopes_of, is_evaluation, Instance, Part, Process, World, instance_at, process_at, with_process, segment_of, IsOwn, Word, place_at, Code, stack_at, place, Image, frame, ProcessState, in_routine, Yields, Texts, context_of, StandsFor, steps_stay_above, Core, HasCore, CoreSteps, newest, SlotsAre, CoreAt, Above, length_set_numbered, weight, parts_weight, same_or_not, StayBelow, Layout, ArraysAre, EventsAre, most_around, IsChained, FrameStands, Around, Frames, run_level, innermost_most, Living, Pictured, living, dead, PicturesBy, ReachesFor, StateIs, WaitsAre}
use Rattle.b67_cores.specs.Cores.{over}
use Rattle.b67_scenes.proofs.Kept.{LeavesAlone, reach_alone, alike_but, pictured_alike}
use Rattle.b67_scenes.proofs.Stage.{process_is, comes_by}
use Rattle.b67_scenes.proofs.Staying.{IsAsHeavy, same_weight, frames_stay}
use Rattle.b67_scenes.proofs.Tasks.{EventsStay, task_stays, state_stays, events_kept, events_beside}
use Rattle.b67_scenes.proofs.StoringFrames.{IsStored, put, length_put, put_first, changed, stored_world, others_at, same_of, same_ancestors, as_heavy, Stored, known_stored, onward_from, laid_from, frame_stored, CellStore}

-- The instance's frame lies so high in the stack of process p. A word that is stored lies so far above the frame's two words, at the place k.
module _ (tree : PProgram) (code : Code) (texts : Texts) (w : World) (lay : Layout) (p : ℕ) (store : CellStore tree w lay p) where
  open store use {i, x, at, with_cells, up as k, place_is, word, many, keeps}

  abbrev sc : Scopes
  sc = scopes_of tree

  abbrev w' : World
  w' = stored_world w i x at with_cells

  events_stay : EventsStay w w'
  events_stay = events_beside w w' i (λ j apart. others_at w i x at with_cells j apart) (events_kept sc w w' lay lay i keeps)

  -- the core with the word
  abbrev pub stored_core : Core → Core
  stored_core core = over (put word core.below k) core

  module _ (part : Part) (outer : List Part) (core : Core) (s : FrameStands tree code texts w lay p part outer core) (a : Around tree code texts w lay p outer s.frame.lower s.frame.mark s.frame.control s.frame.gives)
      (own : IsOwn (part ∷ outer) i) where
    g : Stored tree code texts w lay p store part outer core.below s.frame
    g = frame_stored tree code texts w lay p store part outer core.below s.frame a own

    block_is : (instance_at w part.instance).block ≡ (instance_at w' part.instance).block
    block_is = same_of w i x at with_cells (λ (y : Instance). y.block) refl part.instance

    as_high : length core.below ≡ length (put word core.below k)
    as_high = sym (length_put word core.below k)

    abbrev level : ℕ
    level = run_level (is_evaluation part.purpose) (level_of (block_numbered sc.blocks ((instance_at w part.instance).block)))

    core_at : CoreAt sc s.held code (texts.placed (segment_of sc.blocks ((instance_at w part.instance).block))) level s.pc s.slots (stored_core core)
    core_at =
        record {
          segment = s.there.segment;
          there = s.there.there;
          spells = s.there.spells;
          level_is = s.there.level_is;
          place_is = s.there.place_is;
          is = record { bottom = sym as_high ∙ s.there.is.bottom; top = omega (arith, s.there.is.top, as_high) };
          mark_is = s.there.mark_is ∙ ap (λ (n : ℕ). newest (frame core.registers) n s.slots) as_high;
          words_are = subst (λ (n : ℕ). SlotsAre sc s.held level (frame core.registers) n s.slots core.words) as_high s.there.words_are;
        }

    chained : IsChained sc w' lay part.instance (level_of (block_numbered sc.blocks ((instance_at w part.instance).block))) core.registers.display
    chained up low =
        s.chained up low
        ∙ ap (λ (j : ℕ). numbered lay.places j) (same_ancestors w w' (λ j. same_of w i x at with_cells (λ (z : Instance). z.parent) refl j) up part.instance)

    stands_stored : FrameStands tree code texts w' lay p part outer (stored_core core)
    stands_stored =
        record {
          frame = g.frame;
          counted = s.counted ∙ sym g.cells;
          chained = subst (λ (m : ℕ). IsChained sc w' lay part.instance (level_of (block_numbered sc.blocks m)) core.registers.display) block_is chained;
          top = ap (λ (m : ℕ). place_at core.registers.display (run_level (is_evaluation part.purpose) (level_of (block_numbered sc.blocks m)))) (sym block_is) ∙ s.top ∙ ap (λ (n : ℕ). Some (place p n)) (sym g.lower);
          segment_is = s.segment_is ∙ ap (λ (m : ℕ). segment_of sc.blocks m) block_is;
          asks = s.asks;
          pc = s.pc;
          slots = s.slots;
          held = s.held;
          held_are = known_stored tree code texts w lay p store (part ∷ outer) part.instance s.held s.held_are;
          stands = subst (λ (m : ℕ). StandsFor sc (in_routine g.frame.gives (context_of code texts sc m)) (texts.placed (segment_of sc.blocks m)) (run_level (is_evaluation part.purpose) (level_of (block_numbered sc.blocks m))) (most_around tree m) part.rest s.pc s.slots) block_is
              (subst (λ (y : Yields). StandsFor sc (in_routine y (context_of code texts sc ((instance_at w part.instance).block))) (texts.placed (segment_of sc.blocks ((instance_at w part.instance).block))) level
              (most_around tree ((instance_at w part.instance).block)) part.rest s.pc s.slots) (sym g.gives) s.stands);
          there = subst (λ (m : ℕ). CoreAt sc s.held code (texts.placed (segment_of sc.blocks m)) (run_level (is_evaluation part.purpose) (level_of (block_numbered sc.blocks m))) s.pc s.slots (stored_core core)) block_is core_at;
          few = subst (λ (m : ℕ). length s.slots ≤ most_around tree m) block_is s.few;
        }

  -- Process a stores, and has the state q' after it.
  module _ (a : ℕ) (q' : Process) where
    abbrev after : World
    after = with_process w' a q'

    -- as many words may lie above its innermost frame
    most_same : (parts : List Part) → innermost_most tree w parts ≡ innermost_most tree after parts
    most_same [] = refl
    most_same (part ∷ outer) = ap (most_around tree) (same_of w i x at with_cells (λ (y : Instance). y.block) refl part.instance)

    heavy : (j : ℕ) → IsAsHeavy w after j
    heavy j = let h = as_heavy w i x at with_cells many j in record { block = h.block; cells = h.cells }

    module _ (alone : LeavesAlone (scopes_of tree) w (with_process (stored_world w i x at with_cells) a q') lay lay p) (img : Image) (o : Process) (before : numbered w.processes p ≡ Some o) (own : IsOwn o.todo i) (l : Living tree code texts w lay img p o)
        (low : IsStored word → k < length l.core.below) where
      above : Above code l.bound l.count l.core l.settled
      above = steps_stay_above code l.bound l.count l.core l.settled l.has.is l.steps

      below_stored : put word l.settled.below k ≡ put word l.core.below k ++ above.cells
      below_stored = ap (λ (ws : List Word). put word ws k) above.below ∙ put_first word l.core.below above.cells k low

      -- it goes on as it did
      steps_stored : CoreSteps code l.bound l.count (stored_core l.core) (stored_core l.settled)
      steps_stored =
          subst (λ (ws : List Word). CoreSteps code l.bound l.count (stored_core l.core) (over ws l.settled)) (sym below_stored)
          (above.same (put word l.core.below k) (length_put word l.core.below k))

      stay_on : StayBelow sc w' after lay lay p (length (put word l.settled.below k))
      stay_on = record { on = onward_from tree code texts w lay p store after refl alone.on; instances = λ j n y e mine there lower. e; rows = λ j n y e mine there lower. refl }

      frames_after : (parts : List Part) → IsOwn parts i → Frames tree code texts w lay p parts l.settled → Frames tree code texts after lay p parts (stored_core l.settled)
      unfolding stands_stored g
      frames_after [] mine f = absurd f
      frames_after (part ∷ outer) mine f =
          frames_stay tree code texts w' after lay lay p (length (put word l.settled.below k)) stay_on (laid_from tree code texts w lay p store alone.laid) (part ∷ outer) (stored_core l.settled) (omega arith)
          (stands_stored part outer l.settled f.0 f.1 mine, (g part outer l.settled f.0 f.1 mine).around)

      reaches_after : (parts : List Part) → o.todo ≡ parts → Frames tree code texts w lay p parts l.settled → ReachesFor sc w lay p parts l.core l.settled → ReachesFor sc after lay p parts (stored_core l.core) (stored_core l.settled)
      reaches_after [] todo f reaches = absurd f
      reaches_after (part ∷ outer) todo f reaches =
          reach_alone tree code texts w after lay lay p alone o before part outer todo l.core l.settled (stored_core l.core) (stored_core l.settled) f.0.frame (length_put word l.core.below k) (length_put word l.settled.below k)
          (same_of w i x at with_cells (λ (y : Instance). y.block) refl part.instance) reaches

      -- in an image in which it has that core it lives
      pub living_stored : (img' : Image) → HasCore img' p (stored_core l.core) → (process_at (with_process (stored_world w i x at with_cells) a q') p).todo ≡ o.todo →
          Living tree code texts (with_process (stored_world w i x at with_cells) a q') lay img' p o
      living_stored img' has now =
          let weighs : weight tree w p ≡ weight tree after p =
          ap (λ (x : Process). parts_weight tree w x.todo) (process_is w p o before) ∙ sym (same_weight tree w after o.todo (λ j own_part. heavy j)) ∙ ap (parts_weight tree after) (sym now) in
          record {
            core = stored_core l.core;
            has = has;
            critical = l.critical;
            task = task_stays sc w after lay lay events_stay (λ j f there. there) o.task l.core.registers.task l.task;
            sees = l.sees;
            small = omega (arith, l.small, length_put word l.core.below k);
            settled = stored_core l.settled;
            bound = l.bound;
            count = l.count;
            steps = steps_stored;
            frames = frames_after o.todo own l.frames;
            reaches = reaches_after o.todo refl l.frames l.reaches;
            room = omega (arith, l.room, length_put word l.settled.below k, most_same o.todo);
            light = subst (λ (n : ℕ). l.bound + 3 ≤ n) weighs l.light;
          }

    -- ---- all but the process that stores

    -- The instance is one of process p, whose core has the word; all others have their cores.
    module _ (alone : (r : ℕ) → r ≢ a → LeavesAlone (scopes_of tree) w (with_process (stored_world w i x at with_cells) a q') lay lay r) (img img' : Image) (mine : x.process ≡ p)
        (owns : (o : Process) → numbered w.processes p ≡ Some o → IsOwn o.todo i)
        (low : (core : Core) → HasCore img p core → IsStored word → k < length core.below) (holds : (core : Core) → HasCore img p core → HasCore img' p (stored_core core))
        (stay : (r : ℕ) (core : Core) → r ≢ a → r ≢ p → HasCore img r core → HasCore img' r core) (states : (r : ℕ) → r ≢ a → numbered img'.states r ≡ numbered img.states r) where
      -- the one whose frame it is
      owner_stored : (o : Process) → p ≢ a → numbered w.processes p ≡ Some o → numbered after.processes p ≡ Some o → Pictured tree code texts w lay img p o → Pictured tree code texts after lay img' p o
      owner_stored o other before now (dead e s) = dead e (states p other ∙ s)
      owner_stored o other before now (living e s l) =
          living e (subst (λ (x : Option ProcessState). StateIs sc after lay o.state x) (sym (states p other)) (state_stays sc w after lay lay events_stay (λ j f there. there) o.state (numbered img.states p) s))
          (living_stored (alone p other) img o before (owns o before) l (low l.core l.has) img' (holds l.core l.has) (ap (λ (q : Process). q.todo) (process_is after p o now)))

      pub others_stored : (r : ℕ) (o : Process) → r ≢ a → numbered w.processes r ≡ Some o → numbered (with_process (stored_world w i x at with_cells) a q').processes r ≡ Some o → Pictured tree code texts w lay img r o →
          Pictured tree code texts (with_process (stored_world w i x at with_cells) a q') lay img' r o
      others_stored r o other before now pictured = by_owner (same_or_not r p)
        where
          by_owner : (r ≡ p) ⊎ (r ≢ p) → Pictured tree code texts after lay img' r o
          by_owner (inl e) =
              subst (λ (n : ℕ). Pictured tree code texts after lay img' n o) (sym e)
              (owner_stored o (λ (same : p ≡ a). other (e ∙ same)) (ap (λ (n : ℕ). numbered w.processes n) (sym e) ∙ before) (ap (λ (n : ℕ). numbered after.processes n) (sym e) ∙ now)
              (subst (λ (n : ℕ). Pictured tree code texts w lay img n o) e pictured))
          by_owner (inr apart) =
              pictured_alike tree code texts w after lay lay r
              (alike_but (scopes_of tree) w after lay r i x (changed w i x at with_cells) (alone r other) at (λ (same : r ≡ x.process). apart (same ∙ mine)) refl events_stay) img img' o
              before (process_is after r o now) (states r other) (λ core has. stay r core other apart has) pictured

      -- so the image pictures the world after it, where it pictures the process that stores
      pub stored_pictured : (by : PicturesBy tree code texts w lay img) (q : Process) → numbered w.processes a ≡ Some q → ArraysAre (scopes_of tree) (with_process (stored_world w i x at with_cells) a q') lay img'.rows →
          EventsAre (scopes_of tree) (with_process (stored_world w i x at with_cells) a q') lay img'.events → WaitsAre (scopes_of tree) (with_process (stored_world w i x at with_cells) a q') lay img' → img'.output ≡ w.output →
          img'.fault ≡ img.fault → img'.started ≡ img.started → length img'.regs ≡ length img.regs → length img'.states ≡ length img.states → stack_at img'.stacks 0 ≡ stack_at img.stacks 0 → Pictured tree code texts (with_process (stored_world w i x at with_cells) a q') lay img' a q' →
          PicturesBy tree code texts (with_process (stored_world w i x at with_cells) a q') lay img'
      stored_pictured by q at_a arrays events waits output fault started regs many_states system own =
          comes_by tree code texts w lay img by a q at_a after lay img' q' refl (by.laid ∙ sym (length_set_numbered w.instances i (changed w i x at with_cells))) arrays events waits output refl fault started regs many_states system
          others_stored own
