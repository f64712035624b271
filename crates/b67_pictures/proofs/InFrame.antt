-- Actions that change nothing but what lies above the cells of the process's own frame, and the output.
use Rattle.std.proofs.Common.{◌≡◌, ◌≢◌, ◌⊎◌, inl, inr, refl, sym, ap, ◌∙◌, subst, ℕ, ◌+◌, ◌<◌, ◌≤◌, List, [], ◌∷◌, length, Some, None, false, arith}
use Rattle.b67_list.proofs.Numbered.{numbered_set}
use Rattle.b67_pictures.proofs.Prelude.{numbered, Letter, PProgram, scopes_of, resume, Choice, choice, Answer, Process, Part, World, instance_at, with_process, all_to_make, all_left_to_make, BlockIsSeen, InAnswer, Word, place_at, Registers, Code, stack_limit, Image, woken_number, frame, plain, letter, Yields, Texts, ComesTo, Slot, slots_length, Core, size, HasCore, with_core, Known, CoreAt, length_set_numbered, weight, has_now, others_have, system_stays, most_or_more, arrays_unchanged, events_unchanged, HasFacts, facts_of, keeps_same, StayBelow, StandOn, frame_resumed, AreKnown, IsInReach, IsChained, Frame, AreLaid, all_laid, alike_by, steps_none, living_of, Actor, actor_of, AbleActor, gives_within, limit_beyond, weight_of, process_is, text_in, level_in, context_in, most_in, FrameStill, frame_still, frame_low, chained_stays, top_stays, parts_weigh, known_stays, names_in, task_stays, state_stays, events_same, TheLaws, CriticalIs, TaskIs, Pictures, PicturesBy, WaitsAre, MayAct, Does, gave, stopped}
use Rattle.b67_table.specs.Effect as effects
use Rattle.b67_table.specs.Outcome as outcomes
use Rattle.b67_table.specs.Table.{table, raw}
use Rattle.b67_scenes.specs.Reaches as reaching
use Rattle.b67_scenes.proofs.Stage.{goes_on_so}
use Rattle.b67_scenes.proofs.Waiting.{waits_told}
use Rattle.b67_pictures.proofs.Alone.{IsAfter, after_choice, dependent_but, stands_on, leaves_alone}

-- the registers but for S, F and the place
pub record SameFrame (a b : Registers) : Type 0 where
  pub is : b ≡ record a { s = b.s; f = b.f; place = b.place }

-- How a process goes on in its innermost part, after an action in which it makes nothing: the answer, and where its core stands for what is left.
module _ (tree : PProgram) (code : Code) (texts : Texts) (actor : Actor tree code texts) where
  open actor use {w, lay, part, outer, core, s}

  pub record GoesOn : Type 0 where
    pub unmade : all_left_to_make part.rest ≡ all_to_make part.rest
    pub answer : Answer
    pub nameless : InAnswer (BlockIsSeen (scopes_of tree) ((instance_at w part.instance).block)) answer
    pub new : Core
    pub below : new.below ≡ core.below
    pub frame_is : SameFrame core.registers new.registers
    pub known : List Known
    pub known_are : AreKnown (scopes_of tree) w lay (IsInReach w (part ∷ outer)) part.instance known
    pub pc : ℕ
    pub slots : List Slot
    pub there : CoreAt (scopes_of tree) known code (text_in tree texts w part) (level_in tree w part) pc slots new
    pub few : length slots ≤ most_in tree w part
    pub comes : ComesTo (scopes_of tree) (context_in tree code texts w part s.stands.frame.gives) (text_in tree texts w part) (level_in tree w part) (most_in tree w part) (resume (scopes_of tree) part.rest answer) pc slots

  -- .. with these words above its floor, and these registers, where nothing more is known of descriptors and references
  pub record GoesOnAbove : Type 0 where
    pub unmade : all_left_to_make part.rest ≡ all_to_make part.rest
    pub answer : Answer
    pub nameless : InAnswer (BlockIsSeen (scopes_of tree) ((instance_at w part.instance).block)) answer
    pub words : List Word
    pub registers : Registers
    pub frame_is : SameFrame core.registers registers
    pub pc : ℕ
    pub slots : List Slot
    pub there : CoreAt (scopes_of tree) s.stands.held code (text_in tree texts w part) (level_in tree w part) pc slots (record { below = core.below; words = words; registers = registers })
    pub few : length slots ≤ most_in tree w part
    pub comes : ComesTo (scopes_of tree) (context_in tree code texts w part s.stands.frame.gives) (text_in tree texts w part) (level_in tree w part) (most_in tree w part) (resume (scopes_of tree) part.rest answer) pc slots

module _ (tree : PProgram) (code : Code) (texts : Texts) (laws : TheLaws) (actor : AbleActor tree code texts) where
  open laws use {fragments, keeps, order}
  open actor use {w, lay, img, p, q, part, outer, bound, core, s, able_is, able_p}

  module _ (onward : GoesOn tree code texts (actor_of s)) (out : List (List ℕ)) (woken : ℕ) (numbers : List ℕ) (many_numbers : length numbers ≡ length img.numbers) (numbered_so : woken_number numbers p ≡ woken)
      (numbered_others : (r : ℕ) → r ≢ p → woken_number numbers r ≡ woken_number img.numbers r) where
    open onward use {unmade, answer as a, nameless, new, below, frame_is, known, known_are, pc, slots, there, few, comes}

    abbrev pub part' : Part
    part' = record part { rest = resume (scopes_of tree) part.rest a }

    abbrev pub q' : Process
    q' = record q { todo = part' ∷ outer; woken = woken }

    abbrev pub w' : World
    w' = with_process (record w { output = out }) p q'

    abbrev pub after : Image
    after = record (with_core img p new) { output = out; numbers = numbers }

    same_stack : new.registers.stack ≡ core.registers.stack
    same_stack = ap (λ (r : Registers). r.stack) frame_is.is

    has_here : HasCore after p new
    has_here = let h = has_now img p core new s.has same_stack there.is in record { live = h.live; registers = h.registers; own = h.own; stack = h.stack; is = h.is }

    others : (r : ℕ) (other : Core) → r ≢ p → HasCore img r other → HasCore after r other
    others r other apart has =
        let h = others_have img p core new s.has same_stack r other apart has in record { live = h.live; registers = h.registers; own = h.own; stack = h.stack; is = h.is }

    room' : length new.below + most_in tree w part ≤ bound
    room' = omega (arith, s.room, ap length below)

    -- how many words its stack has
    pub top_is : new.registers.s ≡ length new.below + length slots
    top_is = omega (arith, there.is.top, slots_length (scopes_of tree) known (level_in tree w part) (frame new.registers) (length new.below) slots new.words there.words_are)

    -- ---- the world after it

    module _ (after_it : IsAfter (scopes_of tree) w w' p) where
      facts : HasFacts w
      facts = facts_of (scopes_of tree) w s.ok

      laid : AreLaid w lay
      laid = all_laid w lay facts s.by.laid

      -- no instance changes
      on : StandOn (scopes_of tree) w w' lay lay
      on = stands_on (scopes_of tree) w w' lay lay p facts after_it (λ j st later. keeps_same (scopes_of tree) w w' lay lay j refl refl) (λ j f there. there)

      abbrev stay : StayBelow (scopes_of tree) w w' lay lay p (length core.below)
      stay = record { on = on; instances = λ i at x e own laid low. e; rows = λ i at x e own laid low. refl }

      all_low : length core.below ≤ length core.below
      all_low = omega arith

      still : FrameStill tree code texts w w' lay lay p (length core.below) stay part outer core.below s.stands.frame.cells s.stands.frame.gives
      still =
          frame_still tree code texts w w' lay lay p (length core.below) stay part outer core.below s.stands.frame s.around
          (omega (arith, frame_low tree code texts w lay p part outer core.below s.stands.frame))

      abbrev frame' : Frame tree code texts w' lay p part' outer new.below
      frame' = frame_resumed tree code texts w' lay p keeps order part outer core.below new.below still.frame below unmade a nameless

      light' : bound + 3 ≤ weight tree w' p
      light' =
          subst (λ (n : ℕ). bound + 3 ≤ n)
          (weight_of tree w p q (part ∷ outer) s.at s.todo
          ∙ sym (parts_weigh tree code texts w w' lay lay p (length core.below) stay laid part outer core s.stands s.around all_low)
          ∙ sym (weight_of tree w' p q' (part' ∷ outer) (numbered_set w.processes p q q' s.at) refl)) s.light

      -- nobody waits for others
      waits_then : WaitsAre (scopes_of tree) w' lay after
      waits_then =
          waits_told (scopes_of tree) w w' lay lay (λ j. events_same w w' j refl) (λ j f laid_there. laid_there) img after s.by.waits p q q' s.at refl refl refl many_numbers numbered_so numbered_others s.by.waits.awaiting

      pub in_frame : size new ≤ stack_limit → PicturesBy tree code texts w' lay after
      in_frame small =
          goes_on_so tree code texts w lay img s.by p q s.at w' lay after q' refl able_is s.by.laid (arrays_unchanged (scopes_of tree) w w' lay img.rows refl s.by.arrays) (events_unchanged (scopes_of tree) w w' lay img.events refl s.by.events) waits_then (λ r other. alike_by (scopes_of tree) w w' lay r (leaves_alone (scopes_of tree) w w' lay lay p facts after_it (λ j st later. keeps_same (scopes_of tree) w w' lay lay j refl refl) (λ j f there. there) laid (dependent_but w.processes p q q' s.at refl (λ e. e)) r other) refl) refl refl refl refl (length_set_numbered img.regs p new.registers) refl
          (system_stays img p core new s.has same_stack q w s.at)
          (state_stays (scopes_of tree) w w' lay lay (λ j. events_same w w' j refl) (λ j f laid. laid) q.state (numbered img.states p) able_p) others
          (living_of tree code texts w' lay after after_it.climb (all_laid w' lay after_it.climb.facts s.by.laid) fragments p q' part' outer bound new new (record {
            todo = refl;
            has = has_here;
            critical = subst (λ (r : Registers). CriticalIs lay q.critical r.critical) (sym frame_is.is) s.critical;
            task = subst (λ (r : Registers). TaskIs (scopes_of tree) w' lay q.task r.task) (sym frame_is.is)
                (task_stays (scopes_of tree) w w' lay lay (λ j. events_same w w' j refl) (λ j f laid. laid) q.task core.registers.task s.task);
            sees = ap (λ (r : Registers). place_at r.display 0) frame_is.is ∙ s.sees;
            small = small;
            begun = 0;
            begins = steps_none (scopes_of tree) known code (text_in tree texts w part) (level_in tree w part) (most_in tree w part) bound pc slots new there few room';
            frame = frame';
            around = still.around;
            counted = ap (λ (r : Registers). r.cells) frame_is.is ∙ s.stands.counted ∙ sym (ap length still.cells_are);
            chained = subst (λ d. IsChained (scopes_of tree) w' lay part.instance (names_in tree w part) d) (sym (ap (λ (r : Registers). r.display) frame_is.is))
                (chained_stays tree code texts w w' lay lay p (length core.below) stay laid part outer core s.stands s.around all_low core.registers.display s.stands.chained);
            top = ap (λ (r : Registers). place_at r.display (level_in tree w part)) frame_is.is
                ∙ top_stays tree code texts w w' lay lay p (length core.below) stay laid part outer core s.stands s.around all_low still;
            segment_is = ap (λ (r : Registers). r.segment) frame_is.is ∙ s.stands.segment_is;
            pc = pc;
            slots = slots;
            known = known;
            known_are = known_stays tree code texts w w' lay lay p (length core.below) stay laid part outer core s.stands s.around all_low known known_are;
            at = there;
            held = few;
            comes = subst (λ (y : Yields). ComesTo (scopes_of tree) (context_in tree code texts w' part' y) (text_in tree texts w' part') (level_in tree w' part') (most_in tree w' part') part'.rest pc slots) (sym still.gives_are) comes;
            reaches = reaching.all refl;
            room = room';
            light = light';
          }))

    pub does_numbered : (action : Letter) → plain code img p ≡ false → raw code img p ≡ effects.gives after → choice (scopes_of tree) w p ≡ record { action = action; world = w'; released = []; started = None } →
        (table code img p ≡ outcomes.gives after → letter code img p ≡ Some action) → Does tree code texts w img p
    does_numbered action not_plain raw_is chosen acts = by_size (most_or_more new.registers.s stack_limit)
      where
        after_so : MayAct (scopes_of tree) w p → IsAfter (scopes_of tree) w w' p
        after_so may =
            after_choice (scopes_of tree) w w' p q (facts_of (scopes_of tree) w s.ok) may s.at (ap (λ (c : Choice). c.world) chosen)

        by_size : (new.registers.s ≤ stack_limit) ⊎ (stack_limit < new.registers.s) → Does tree code texts w img p
        by_size (inl small) =
            let table_is : table code img p ≡ outcomes.gives after = gives_within code img after p new.registers raw_is has_here.registers small in
            gave after not_plain table_is (acts table_is ∙ ap (λ (c : Choice). Some c.action) (sym chosen))
            (λ may. subst (λ (c : Choice). Pictures tree code texts c.world after) (sym chosen) (lay, in_frame (after_so may) (omega (arith, small, there.is.top))))
        by_size (inr long) =
            stopped not_plain (limit_beyond code img after p new.registers raw_is has_here.registers long) (omega (arith, long, top_is, few, room', s.light))

-- .. with the woken number that it had
module _ (tree : PProgram) (code : Code) (texts : Texts) (laws : TheLaws) (actor : AbleActor tree code texts) where
  open actor use {w, lay, img, p, q, part, outer, core, s}

  module _ (onward : GoesOn tree code texts (actor_of s)) (out : List (List ℕ)) where
    open onward use {answer as a, new}

    pub does_in_frame : (action : Letter) → plain code img p ≡ false → raw code img p ≡ effects.gives (record (with_core img p new) { output = out }) →
        choice (scopes_of tree) w p ≡ record {
          action = action;
          world = with_process (record w { output = out }) p (record q { todo = record part { rest = resume (scopes_of tree) part.rest a } ∷ outer });
          released = [];
          started = None;
        } →
        (table code img p ≡ outcomes.gives (record (with_core img p new) { output = out }) → letter code img p ≡ Some action) → Does tree code texts w img p
    does_in_frame =
        does_numbered tree code texts laws actor onward out
        q.woken img.numbers refl (s.by.waits.woken p ∙ ap (λ (x : Process). x.woken) (process_is w p q s.at)) (λ r other. refl)
