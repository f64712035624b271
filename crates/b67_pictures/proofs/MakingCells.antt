-- What a block declares is made: ENTR leaves words in place of the mark and what lies above it, and PUSH makes cells of them.
use Rattle.std.proofs.Common.{◌≡◌, ◌≢◌, ◌⊎◌, inl, inr, refl, sym, ap, ◌∙◌, subst, ℕ, ◌+◌, ◌<◌, ◌≤◌, List, [], ◌∷◌, ◌++◌, length, Option, Some, None, Ok, false, arith, length-append}
use Rattle.b67_pictures.proofs.Prelude.{reverse-reverse, length-reverse, numbered, IsListed, Letter, block_numbered, level_of, PProgram, Scopes, scopes_of, resume, Choice, choice, is_evaluation, done, NamedCell, Process, Part, World, instance_at, or_no_instance, Instance, Made, all_to_make, all_left_to_make, segment_of, IsLow, IsStanding, IsAmongParts, Word, Place, place_at, Registers, Intrinsic, Placed, Code, Rows, stack_limit, Event, waiters_at, Image, woken_number, frame, plain, operator_at, letter_of, made_base, in_routine, Has, AreNested, Texts, context_of, ComesTo, Slot, Core, size, IsCore, HasCore, with_core, Known, SlotsAre, CoreAt, CellsAreMade, length_set_numbered, weight, at_operator, has_now, others_have, system_stays, enter_class, same_or_not, most_or_more, action_not_plain, action_is, made_many, HasFacts, facts_of, KeepsArrays, keeps_same, below_frame, StandOn, Allotted, Layout, AreMade, ArraysAre, EventsAre, most_around, IsChained, Frame, Owned, run_level, all_laid, IsEntered, operator_there, AreAlike, living_of, AbleActor, actor_of, gives_within, limit_beyond, goes_on, text_in, level_in, context_in, most_in, names_in, changed_at, others_at, task_stays, state_stays, TheLaws, Living, Pictures, PicturesBy, MayAct, Does, gave, stopped}
use Rattle.algol_standing.specs.Lows.{IsMaking}
use Rattle.b67_ops.specs.declared.Operator.TheVariants as ops
use Rattle.b67_ops.specs.declared.PlainKind.TheVariants as kinds
use Rattle.b67_table.specs.Effect as effects
use Rattle.b67_table.specs.Limits.{most_cells}
use Rattle.b67_table.specs.Outcome as outcomes
use Rattle.b67_table.specs.Table.{table, raw}
use Rattle.b67_cores.specs.Stretches.{CoreIsAt, Becomes}
use Rattle.b67_frames.proofs.MakingRow.{with_descriptors}
use Rattle.b67_scenes.specs.Reaches as reaching
use Rattle.b67_scenes.specs.Reaches.{words_from_entry}
use Rattle.b67_scenes.proofs.MakingFrame as frames
use Rattle.b67_pictures.proofs.Alone.{IsAfter, dependent_but, after_choice, stands_on, leaves_alone}
use Rattle.b67_pictures.proofs.GrownCells.{made_no_reference, keeps_grown}

pub none_left : (sc : Scopes) (known : List Known) (level home base : ℕ) (ws : List Word) → SlotsAre sc known level home base [] ws → ws ≡ []
none_left sc known level home base [] are = refl
none_left sc known level home base (w ∷ ws) are = absurd are

module _ (tree : PProgram) (code : Code) (texts : Texts) (nested : AreNested (scopes_of tree)) (laws : TheLaws) (cells_made : CellsAreMade) (actor : AbleActor tree code texts) where
  open laws use {fragments, keeps, order}
  open actor use {w, lay, img, p, q, part, outer, bound, core, s, able_is, able_p}

  -- The intrinsic is entered that makes these cells: their descriptors are pushed onto the frame.
  pub record MakesCells : Type 0 where
    pub owns : is_evaluation part.purpose ≡ false
    pub declared : List Made
    pub makes : all_to_make part.rest ≡ declared ++ all_left_to_make part.rest
    pub new_cells : List NamedCell
    pub allotted : List Allotted
    pub descriptors : List Word
    pub added : AreMade declared new_cells allotted descriptors
    pub name : Intrinsic
    pub slots : List Slot
    pub lies : s.stands.slots ≡ slots
    pub arguments : List Word
    pub entered : IsEntered tree code texts (actor_of s) name slots [] lies arguments
    pub made : ℕ
    pub next : ℕ
    pub stands : Has (text_in tree texts w part) (level_in tree w part) s.stands.pc (ops.Plain kinds.Entr) made
    pub push : Has (text_in tree texts w part) (level_in tree w part) made (ops.Plain kinds.Push) next
    pub comes : ComesTo (scopes_of tree) (context_in tree code texts w part s.stands.frame.gives) (text_in tree texts w part) (level_in tree w part) (most_in tree w part) (resume (scopes_of tree) part.rest done) next []
    pub some : 1 ≤ length declared
    pub some_room : length declared ≤ most_in tree w part
    pub rows : Rows
    pub events : List Event

  module _ (made_cells : MakesCells) where
    open made_cells use {owns, declared as ms, makes, new_cells, allotted, descriptors, added, name, slots, arguments, entered as c, made, next, stands, push, comes, some, some_room, rows, events}

    abbrev sc : Scopes
    sc = scopes_of tree

    abbrev ps : List Placed
    ps = text_in tree texts w part

    abbrev level : ℕ
    level = level_in tree w part

    abbrev n : ℕ
    n = length ms

    abbrev pub part' : Part
    part' = frames.part' tree code texts nested keeps order (actor_of s) owns ms makes new_cells allotted descriptors added

    abbrev pub q' : Process
    q' = frames.q' tree code texts nested keeps order (actor_of s) owns ms makes new_cells allotted descriptors added

    abbrev pub w' : World
    w' = frames.w' tree code texts nested keeps order (actor_of s) owns ms makes new_cells allotted descriptors added

    abbrev pub lay' : Layout
    lay' = frames.lay' tree code texts nested keeps order (actor_of s) owns ms makes new_cells allotted descriptors added

    there : operator_at code core.registers ≡ Ok (ops.Plain kinds.Entr, made)
    there = operator_there sc s.stands.held code ps level s.stands.pc s.stands.slots core (ops.Plain kinds.Entr) made s.stands.there stands

    none : c.others ≡ []
    none = none_left sc s.stands.held level (frame core.registers) (length core.below) c.others (c.after_at made).words_are

    -- the mark lies at the floor
    floor_is : core.registers.f ≡ length core.below
    floor_is = omega (arith, c.calls.called.mark_at, ap length none)

    descriptors_many : length descriptors ≡ n
    descriptors_many = (made_many ms new_cells allotted descriptors added).words_many

    block_is : (instance_at w part.instance).block ≡ (instance_at w' part.instance).block
    block_is = frames.block_is tree code texts nested keeps order (actor_of s) owns ms makes new_cells allotted descriptors added

    -- ---- the core after the entry

    abbrev changed : Image
    changed = record img { rows = rows; events = events }

    abbrev new : Core
    new = with_descriptors core descriptors c.calls.m.df made

    abbrev pub after : Image
    after = with_core (record img { rows = rows; events = events }) p (with_descriptors core descriptors c.calls.m.df made)

    words_many : length new.words ≡ n
    words_many = length-reverse descriptors ∙ descriptors_many

    new_core : IsCore new
    new_core = record { bottom = s.has.is.bottom; top = omega (arith, floor_is, words_many, descriptors_many) }

    has_rows : HasCore changed p core
    has_rows = record { live = s.has.live; registers = s.has.registers; own = s.has.own; stack = s.has.stack; is = s.has.is }

    has_here : HasCore after p new
    has_here = has_now changed p core new has_rows refl new_core

    others : (r : ℕ) (other : Core) → r ≢ p → HasCore img r other → HasCore after r other
    others r other apart has =
        others_have changed p core new has_rows refl r other apart (record { live = has.live; registers = has.registers; own = has.own; stack = has.stack; is = has.is })

    -- ---- PUSH

    abbrev bound' : ℕ
    bound' = bound + n

    new_at : CoreIsAt code ps level made new
    new_at =
        record {
          segment = s.stands.there.segment;
          there = s.stands.there.there;
          spells = s.stands.there.spells;
          level_is = s.stands.there.level_is;
          place_is = refl;
          is = new_core;
        }

    cells_few : new.registers.cells + length new.words ≤ most_cells
    cells_few =
        omega (
          arith,
          words_many,
          s.stands.counted,
          frames.few_cells tree code texts nested keeps order (actor_of s) owns ms makes,
        )

    g : Becomes sc [] code ps level bound' next new
    g = cells_made sc [] code ps level bound' made next new push new_at (c.after_at made).mark_is cells_few (omega (arith, words_many, s.room))

    below_is : g.core.below ≡ core.below ++ descriptors
    below_is = g.below ∙ ap (λ (ws : List Word). core.below ++ ws) (reverse-reverse descriptors)

    below_long : length g.core.below ≡ length core.below + n
    below_long = omega (arith, ap length below_is, length-append core.below descriptors, descriptors_many)

    -- ---- the world after it

    abbrev own_frame : Owned tree code texts w lay p part outer (length s.stands.frame.lower) s.stands.frame.mark s.stands.frame.control s.stands.frame.cells
    own_frame = frames.own_frame tree code texts nested keeps order (actor_of s) owns ms makes

    facts : HasFacts w
    facts = facts_of sc w s.ok

    as_many : length lay'.places ≡ length w'.instances
    as_many = s.by.laid ∙ sym (length_set_numbered w.instances part.instance _)

    grown_at : instance_at w' part.instance ≡ record (instance_at w part.instance) { cells = (instance_at w part.instance).cells ++ new_cells }
    grown_at =
        ap or_no_instance (changed_at w part.instance own_frame.framed.instance own_frame.framed.is (own_frame.framed.instance.cells ++ new_cells))
        ∙ ap (λ (o : Option Instance). record (or_no_instance o) { cells = (or_no_instance o).cells ++ new_cells }) (sym own_frame.framed.is)

    each_keeps : (j : ℕ) → IsStanding w j → IsStanding w' j → KeepsArrays sc w w' lay lay' j
    each_keeps j st later = by_number (same_or_not j part.instance)
      where
        by_number : (j ≡ part.instance) ⊎ (j ≢ part.instance) → KeepsArrays sc w w' lay lay' j
        by_number (inl e) =
            subst (λ (k : ℕ). KeepsArrays sc w w' lay lay' k) (sym e)
            (keeps_grown sc w w' lay lay' part.instance new_cells allotted grown_at (frames.rows_here tree code texts nested keeps order (actor_of s) owns ms makes new_cells allotted descriptors added)
            (made_no_reference ms new_cells allotted descriptors added))
        by_number (inr apart) =
            keeps_same sc w w' lay lay' j (ap or_no_instance (others_at w part.instance own_frame.framed.instance own_frame.framed.is (own_frame.framed.instance.cells ++ new_cells) j apart))
            (frames.rows_elsewhere tree code texts nested keeps order (actor_of s) owns ms makes new_cells allotted descriptors added j apart)

    -- all that lies below what is made lies below the floor
    below_made : length s.stands.frame.lower + words_from_entry sc w' lay' part.instance ≤ length core.below
    below_made =
        omega (
          arith,
          ap (λ (k : ℕ). made_base sc (block_numbered sc.blocks k)) (sym block_is),
          ap (λ (o : Option Instance). made_base sc (block_numbered sc.blocks ((or_no_instance o).block))) own_frame.framed.is,
          frames.cells_many tree code texts nested keeps order (actor_of s) owns ms makes,
          below_frame core.below s.stands.frame.lower s.stands.frame.mark s.stands.frame.control s.stands.frame.cells s.stands.frame.words_are,
        )

    module _ (after_it : IsAfter (scopes_of tree) w w' p) (low_now : IsLow (scopes_of tree) w' part.instance) where
      on : StandOn sc w w' lay lay'
      on = stands_on sc w w' lay lay' p facts after_it each_keeps (λ j f there. there)

      alike : (m : ℕ) → m ≢ p → AreAlike sc w w' lay lay' m
      alike m other =
          frames.alike tree code texts nested keeps order (actor_of s) owns ms makes new_cells allotted descriptors added on m other
          (leaves_alone sc w w' lay lay' p facts after_it each_keeps (λ j f there. there) (all_laid w lay facts s.by.laid) (dependent_but w.processes p q q' s.at refl (λ alive. alive)) m other)

      abbrev frame' : Frame tree code texts w' lay' p part' outer g.core.below
      frame' = frames.frame' tree code texts nested keeps order (actor_of s) owns ms makes new_cells allotted descriptors added on g.core.below below_is

      heavier : weight tree w' p ≡ weight tree w p + n
      heavier = frames.heavier tree code texts nested keeps order (actor_of s) owns ms makes new_cells allotted descriptors added on

      living_now : size new ≤ stack_limit → Living tree code texts w' lay' after p q'
      living_now small =
          living_of tree code texts w' lay' after after_it.climb (all_laid w' lay' after_it.climb.facts as_many) fragments p q' part' outer bound' new g.core (record {
            todo = refl;
            has = has_here;
            critical = s.critical;
            task = task_stays sc w w' lay lay' (frames.events_stay tree code texts nested keeps order (actor_of s) owns ms makes new_cells allotted descriptors added on) (λ j f laid. laid) q.task
                core.registers.task s.task;
            sees = s.sees;
            small = small;
            begun = 1;
            begins = g.steps;
            frame = frame';
            around = frames.around' tree code texts nested keeps order (actor_of s) owns ms makes new_cells allotted descriptors added on;
            counted = omega (arith, ap (λ (r : Registers). r.cells) g.registers, words_many, s.stands.counted, length-append s.stands.frame.cells descriptors, descriptors_many);
            chained = subst (λ (d : List (Option Place)). IsChained sc w' lay' part.instance (names_in tree w' part') d) (sym (ap (λ (r : Registers). r.display) g.registers))
                (subst (λ (j : ℕ). IsChained sc w' lay' part.instance (level_of (block_numbered sc.blocks j)) core.registers.display) block_is
                (frames.chained tree code texts nested keeps order (actor_of s) owns ms makes new_cells allotted descriptors added on));
            top = ap (λ (r : Registers). place_at r.display (level_in tree w' part')) g.registers
                ∙ ap (λ (j : ℕ). place_at core.registers.display (run_level (is_evaluation part.purpose) (level_of (block_numbered sc.blocks j)))) (sym block_is) ∙ s.stands.top;
            segment_is = ap (λ (r : Registers). r.segment) g.registers ∙ s.stands.segment_is ∙ ap (λ (j : ℕ). segment_of sc.blocks j) block_is;
            pc = next;
            slots = [];
            known = [];
            known_are = tt;
            at = subst (λ (j : ℕ). CoreAt sc [] code (texts.placed (segment_of sc.blocks j)) (run_level (is_evaluation part.purpose) (level_of (block_numbered sc.blocks j))) next [] g.core) block_is g.at;
            held = omega arith;
            comes = subst (λ (j : ℕ). ComesTo sc (in_routine s.stands.frame.gives (context_of code texts sc j)) (texts.placed (segment_of sc.blocks j)) (run_level (is_evaluation part.purpose) (level_of (block_numbered sc.blocks j))) (most_around tree j) (resume sc part.rest done) next []) block_is comes;
            reaches = reaching.low (length s.stands.frame.lower) owns own_frame.framed.laid below_made low_now;
            room = subst (λ (j : ℕ). length g.core.below + most_around tree j ≤ bound') block_is (omega (arith, s.room, below_long));
            light = omega (arith, s.light, heavier);
          })

    -- where the rows and events are those of the world after it, an operator that leaves that does it
    -- What the intrinsic does, in the world and in the image.
    pub record MakesThen : Type 0 where
      pub arrays_now : ArraysAre (scopes_of tree) w' lay' rows
      pub events_now : EventsAre (scopes_of tree) w' lay' events
      pub fewer : (m : ℕ) (there : Place) → IsListed (waiters_at there events) m → IsListed (waiters_at there img.events) m
      pub action : Letter
      pub acts : Some (letter_of (woken_number img.numbers core.registers.stack) name) ≡ Some action
      pub raw_is : raw code img p ≡ effects.gives (with_core (record img { rows = rows; events = events }) p (with_descriptors core descriptors c.calls.m.df made))
      pub chosen : choice (scopes_of tree) w p ≡ record { action = action; world = w'; released = []; started = None }

    module _ (then : MakesThen) where
      open then use {arrays_now, events_now, fewer, acts, raw_is, chosen}

      making_it : IsMaking w part.instance
      making_it =
          record {
            number = p;
            process = q;
            part = part;
            is = s.at;
            among = subst (λ (parts : List Part). IsAmongParts parts part) (sym s.todo) (inl refl);
            owns = owns;
            instance_is = refl;
            makes = λ none_made. some_made (sym makes ∙ none_made);
          }
        where
          some_made : ms ++ all_left_to_make part.rest ≡ [] → ⊥
          some_made none_made = absurd (omega (arith, some, ap length none_made, length-append ms (all_left_to_make part.rest)))

      after_so : MayAct sc w p → IsAfter sc w w' p
      after_so may = after_choice sc w w' p q facts may s.at (ap (λ (o : Choice). o.world) chosen)

      low_so : MayAct sc w p → IsLow sc w' part.instance
      low_so may = subst (λ (o : Choice). IsLow sc o.world part.instance) chosen (may.making part.instance making_it)

      pictured : MayAct sc w p → size new ≤ stack_limit → PicturesBy tree code texts w' lay' after
      pictured may small =
          goes_on tree code texts w lay img s.by p q s.at w' lay' after q' refl able_is as_many arrays_now events_now refl refl refl refl fewer
          (alike (after_so may) (low_so may))
          s.by.output refl refl refl (length_set_numbered img.regs p new.registers) refl (system_stays img p core new s.has refl q w s.at)
          (state_stays sc w w' lay lay' (frames.events_stay tree code texts nested keeps order (actor_of s) owns ms makes new_cells allotted descriptors added (on (after_so may) (low_so may))) (λ j f laid. laid)
          q.state (numbered img.states p) able_p) others (living_now (after_so may) (low_so may) small)

      pub cells_are_made : Does tree code texts w img p
      cells_are_made = by_size (most_or_more new.registers.s stack_limit)
        where
          not_plain : plain code img p ≡ false
          not_plain = action_not_plain code (ops.Plain kinds.Entr) (at_operator s.has there) (enter_class code (at_operator s.has there) name arguments c.reference c.marked c.others c.calls)

          by_size : (new.registers.s ≤ stack_limit) ⊎ (stack_limit < new.registers.s) → Does tree code texts w img p
          by_size (inl small) =
              let table_is : table code img p ≡ outcomes.gives after = gives_within code img after p new.registers raw_is has_here.registers small in
              gave after not_plain table_is
              (action_is code (ops.Plain kinds.Entr) (at_operator s.has there) (outcomes.gives after) table_is ∙ c.action ∙ acts ∙ ap (λ (o : Choice). Some o.action) (sym chosen))
              (λ may. subst (λ (o : Choice). Pictures tree code texts o.world after) (sym chosen) (lay', pictured may (omega (arith, small, new_core.top))))
          by_size (inr long) =
              stopped not_plain (limit_beyond code img after p new.registers raw_is has_here.registers long) (omega (arith, long, new_core.top, words_many, some_room, s.room, s.light))
