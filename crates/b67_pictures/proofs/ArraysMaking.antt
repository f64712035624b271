-- The making of arrays: ENTR on ARRAYS, after which PUSH makes cells of the descriptors; or a fault.
use Rattle.std.proofs.Common.{◌≡◌, refl, sym, ap, ◌∙◌, subst, ℕ, ◌≤◌, List, [], ◌∷◌, ◌++◌, length, Option, Some, None, Ok, Bool, true, false, arith}
use Rattle.b67_list.proofs.Lists.{length_map}
use Rattle.b67_pictures.proofs.Prelude.{if◌then◌else◌, FaultKind, block_numbered, PProgram, PPair, Scopes, scopes_of, Kind, Named, Ask, makes_arrays, resume, Choice, choice, choice_of, goes, fails, is_evaluation, done, Value, Bounds, Instance, World, or_no_instance, with_instance, with_process, NamedCell, Made, an_array, all_to_make, all_left_to_make, Word, Arrays, Placed, Code, failed, frame, operator_at, simple_cells, AreNested, Texts, operands, intrinsic, mark, CellsAreMade, at_operator, action_is, fault_not_plain, events_replaced, asks_as_own, cells_length, Layout, Allotted, AreMade, ArraysAre, EventsAre, Framed, arrays_given, given_lie, IsCall, call, IsEntered, operator_there, AbleActor, actor_of, faults_so, choice_is, faulted, text_in, level_in, TheLaws, Pictures, Does, failed_by}
use Rattle.b67_num.specs.declared.FaultKind.TheVariants.{ArraySize, CoreFull}
use Rattle.algol_meaning.specs.Arrays.{new_arrays, has_wrong_size, has_no_room, bounds_of}
use Rattle.algol_meaning.specs.World.{add_cells}
use Rattle.b67_deeds.specs.declared.Letter.TheVariants.{MakeArrays}
use Rattle.b67_ops.specs.declared.Operator.TheVariants as ops
use Rattle.b67_ops.specs.declared.PlainKind.TheVariants as kinds
use Rattle.b67_table.specs.Effect as effects
use Rattle.b67_table.specs.Limits.{most_arrays}
use Rattle.b67_table.specs.Outcome as outcomes
use Rattle.b67_table.specs.Table.{table, raw}
use Rattle.b67_frames.proofs.ArraySizes.{HasDimensions, has_dimensions, bounds_lows}
use Rattle.b67_frames.proofs.ArraysMade.{rows_after, Makes, allotted_new, descriptors_new, new_made, arrays_after}
use Rattle.b67_frames.proofs.MakingRow.{size_faults, room_faults, arrays_raw, MakesArrays}
use Rattle.b67_scenes.proofs.ArraysGiven.{given_fit, given_whole}
use Rattle.b67_scenes.proofs.MakingFrame as frames
use Rattle.b67_pictures.proofs.Dispatching.{IsDone}
use Rattle.algol_paths.specs.Arrays.{made_in, arrays_in}
use Rattle.b67_rows.proofs.MakingAsked.{makes_first}
use Rattle.b67_frames.proofs.EventsKept.{HaveNoEvent, event_in_front}
use Rattle.b67_pictures.proofs.MakingCells.{none_left, cells_are_made}
use Rattle.b67_pictures.proofs.Head.{Head}

-- there are as many arrays as names
made_arrays_many : (kind : Kind) (ns : List Named) (pairs : List PPair) → length (made_in kind ns pairs) ≡ length ns
made_arrays_many kind ns pairs = length_map an_array (arrays_in kind ns pairs) ∙ length_map (λ (n : Named). record { name = n.name; kind = kind; pairs = pairs }) ns

-- .. and none is an event
arrays_are_no_events : (kind : Kind) (bs : List Bounds) (ns : List Named) → HaveNoEvent (new_arrays kind bs ns)
arrays_are_no_events kind bs [] = tt
arrays_are_no_events kind bs (n ∷ ns) = (tt, arrays_are_no_events kind bs ns)

module _ (tree : PProgram) (code : Code) (texts : Texts) (nested : AreNested (scopes_of tree)) (laws : TheLaws) (cells_made : CellsAreMade) (actor : AbleActor tree code texts) where
  open laws use {keeps, order}
  open actor use {w, lay, img, p, q, part, outer, core, s}

  module _ (kind : Kind) (ns : List Named) (pairs : List PPair) (vs : List Value) (head : Head tree code texts actor (makes_arrays kind ns pairs vs)) where
    open head use {asks, action as a, answered}

    abbrev sc : Scopes
    sc = scopes_of tree

    abbrev ps : List Placed
    ps = text_in tree texts w part

    abbrev level : ℕ
    level = level_in tree w part

    abbrev n : ℕ
    n = length ns

    abbrev bs : List Bounds
    bs = bounds_of pairs vs

    abbrev made : ℕ
    made = a.1.made

    there : operator_at code core.registers ≡ Ok (ops.Plain kinds.Entr, made)
    there = operator_there sc s.stands.held code ps level s.stands.pc s.stands.slots core (ops.Plain kinds.Entr) made s.stands.there a.1.stands

    dimensional : HasDimensions bs
    dimensional = has_dimensions pairs bs a.1.dimensions (bounds_lows pairs vs a.1.each)

    -- the part has the frame's instance for its own
    owns : is_evaluation part.purpose ≡ false
    owns = asks_as_own tree code texts w lay p part outer core.below s.stands.frame (makes_arrays kind ns pairs vs) asks (λ e. e)

    abbrev ms : List Made
    ms = made_in kind ns pairs

    made_first : all_to_make part.rest ≡ ms ++ all_left_to_make part.rest
    made_first = makes_first part.rest kind ns pairs vs asks

    few_arrays : n ≤ most_arrays
    few_arrays = omega (arith, frames.few_made tree code texts nested keeps order (actor_of s) owns ms made_first, made_arrays_many kind ns pairs)

    abbrev Called : Type 0
    Called = IsCall tree code texts (actor_of s) Arrays (arrays_given n pairs vs) [] (given_fit n pairs vs a.1.many a.1.lows a.1.highs) (a.1.lies ∙ given_lie n pairs vs)

    -- by the sizes and the room
    abbrev sized : Bool → Bool → Choice
    sized wrong full =
        if wrong then fails sc w p q part outer ArraySize else if full then fails sc w p q part outer CoreFull
        else (goes sc w p q part outer MakeArrays (add_cells w part.instance (new_arrays kind bs ns)) done)

    chosen_by : choice sc w p ≡ sized (has_wrong_size bs) (has_no_room w bs ns)
    chosen_by = choice_is sc w p q part outer s.at s.todo ∙ ap (λ (k : Ask). choice_of sc w p q part outer k) asks

    module _ (c : Called) where
      none : c.others ≡ []
      none = none_left sc s.stands.held level (frame core.registers) (length core.below) c.others (c.after_at made).words_are

      -- ---- a fault

      fails_so : (fault : FaultKind) → raw code img p ≡ effects.faults fault → choice sc w p ≡ fails sc w p q part outer fault → Does tree code texts w img p
      fails_so fault row_is chosen =
          let table_is : table code img p ≡ outcomes.faults fault = faults_so code img p fault row_is in
          failed_by fault (fault_not_plain code (ops.Plain kinds.Entr) (at_operator s.has there) fault table_is) table_is
          (action_is code (ops.Plain kinds.Entr) (at_operator s.has there) (outcomes.faults fault) table_is ∙ ap (λ (o : Choice). Some o.action) (sym chosen))
          (subst (λ (o : Choice). Pictures tree code texts o.world (failed img p fault)) (sym chosen) (lay, faulted tree code texts w lay img s.by p q s.at s.ok fault))

      abbrev given_so : MakesArrays img c.arguments
      given_so = record {
        world = w;
        names = ns;
        some = a.1.some;
        few = few_arrays;
        bounds = bs;
        dimensions = dimensional;
        whole = c.wholes ∙ ap (λ zs. Some zs) (given_whole n pairs vs);
        counted = s.by.arrays.counted;
      }

      wrong_size : has_wrong_size bs ≡ true → Does tree code texts w img p
      wrong_size wrong =
          fails_so ArraySize
          (size_faults code (at_operator s.has there) c.arguments c.reference c.marked c.others none c.calls given_so wrong)
          (chosen_by ∙ ap (λ (b : Bool). sized b (has_no_room w bs ns)) wrong)

      no_room : has_wrong_size bs ≡ false → has_no_room w bs ns ≡ true → Does tree code texts w img p
      no_room right full =
          fails_so CoreFull
          (room_faults code (at_operator s.has there) c.arguments c.reference c.marked c.others none c.calls given_so right full)
          (chosen_by ∙ ap (λ (b : Bool). sized b (has_no_room w bs ns)) right ∙ ap (sized false) full)

      -- ---- arrays

      module _ (right : has_wrong_size bs ≡ false) (room : has_no_room w bs ns ≡ false) where
        abbrev framed : Framed sc w lay p part.instance outer (length s.stands.frame.lower) s.stands.frame.mark s.stands.frame.control s.stands.frame.cells
        framed = (frames.own_frame tree code texts nested keeps order (actor_of s) owns ms made_first).framed

        abbrev making_so : Makes sc w lay part.instance kind ns pairs bs
        making_so =
            record {
              instance = framed.instance;
              is = framed.is;
              stands = framed.stands;
              simple = framed.simple;
              arrays = framed.arrays;
              has = framed.has;
              many = cells_length (simple_cells sc (block_numbered sc.blocks framed.instance.block)) framed.simple framed.values framed.simple_are;
              declared = framed.declared;
              later = all_left_to_make part.rest;
              order = frames.ordered tree code texts nested keeps order (actor_of s) owns ms made_first;
              descriptors = framed.descriptors;
              made = framed.made;
              dimensions = a.1.dimensions;
              lows = bounds_lows pairs vs a.1.each;
              right = right;
              room = room;
            }

        abbrev new_cells : List NamedCell
        new_cells = new_arrays kind bs ns

        abbrev allotted : List Allotted
        allotted = allotted_new ns bs img.rows

        abbrev descriptors : List Word
        descriptors = descriptors_new ns bs img.rows

        added : AreMade ms new_cells allotted descriptors
        added = new_made sc w lay img.rows s.by.arrays part.instance kind ns pairs bs making_so

        entered : IsEntered tree code texts (actor_of s) Arrays (operands (arrays_given n pairs vs) (intrinsic Arrays ∷ mark ∷ [])) [] (a.1.lies ∙ given_lie n pairs vs) c.arguments
        entered = record { reference = c.reference; marked = c.marked; others = c.others; calls = c.calls; action = c.action; after_at = c.after_at; few = c.few }

        abbrev w' : World
        w' = frames.w' tree code texts nested keeps order (actor_of s) owns ms made_first new_cells allotted descriptors added

        abbrev lay' : Layout
        lay' = frames.lay' tree code texts nested keeps order (actor_of s) owns ms made_first new_cells allotted descriptors added

        chosen : choice sc w p ≡ record { action = MakeArrays; world = w'; released = []; started = None }
        chosen =
            chosen_by
            ∙ ap (λ (b : Bool). sized b (has_no_room w bs ns)) right
            ∙ ap (sized false) room
            ∙ ap (λ (o : Option Instance). record {
              action = MakeArrays;
              world = with_process (with_instance w part.instance (record (or_no_instance o) { cells = (or_no_instance o).cells ++ new_arrays kind bs ns })) p
                  (record q { todo = record part { rest = resume sc part.rest done } ∷ outer });
              released = [];
              started = None;
            }) framed.is

        arrays_now : ArraysAre sc w' lay' (rows_after ns bs img.rows)
        arrays_now =
            arrays_after sc w lay img.rows s.by.arrays part.instance kind ns pairs bs making_so (record {
              world = w';
              layout = lay';
              after = refl;
              here = frames.rows_here tree code texts nested keeps order (actor_of s) owns ms made_first new_cells allotted descriptors added;
              others = λ j other. frames.rows_elsewhere tree code texts nested keeps order (actor_of s) owns ms made_first new_cells allotted descriptors added j (λ same. other (sym same));
            })

        events_now : EventsAre sc w' lay' img.events
        events_now =
            events_replaced sc w w' lay lay' part.instance framed.instance (record framed.instance { cells = framed.instance.cells ++ new_arrays kind bs ns }) framed.is refl refl refl
            (event_in_front framed.instance.cells (new_arrays kind bs ns) (arrays_are_no_events kind bs ns)) (λ j f laid. laid) img.events s.by.events

        are_made : Does tree code texts w img p
        unfolding entered
        are_made =
            cells_are_made tree code texts nested laws cells_made actor (record {
              owns = owns;
              declared = ms;
              makes = made_first;
              new_cells = new_cells;
              allotted = allotted;
              descriptors = descriptors;
              added = added;
              name = Arrays;
              slots = operands (arrays_given n pairs vs) (intrinsic Arrays ∷ mark ∷ []);
              lies = a.1.lies ∙ given_lie n pairs vs;
              arguments = c.arguments;
              entered = entered;
              made = made;
              next = a.0;
              stands = a.1.stands;
              push = a.1.push;
              comes = answered done a.0 [] (refl, refl);
              some = omega (arith, a.1.some, made_arrays_many kind ns pairs);
              some_room = omega (arith, a.1.room, made_arrays_many kind ns pairs);
              rows = rows_after ns bs img.rows;
              events = img.events;
            }) (record {
              arrays_now = arrays_now;
              events_now = events_now;
              fewer = λ m there listed. listed;
              action = MakeArrays;
              acts = refl;
              raw_is = arrays_raw code (at_operator s.has there) c.arguments c.reference c.marked c.others none c.calls given_so right room;
              chosen = chosen;
            })

      by_sizes : (wrong full : Bool) → has_wrong_size bs ≡ wrong → has_no_room w bs ns ≡ full → Does tree code texts w img p
      by_sizes true full wrong fits = wrong_size wrong
      by_sizes false true right full = no_room right full
      by_sizes false false right fits = are_made right fits

    -- the source's fault, or arrays
    pub making : Does tree code texts w img p
    making =
        by_sizes (call tree code texts (actor_of s) Arrays (arrays_given n pairs vs) [] (given_fit n pairs vs a.1.many a.1.lows a.1.highs) (a.1.lies ∙ given_lie n pairs vs))
        (has_wrong_size bs) (has_no_room w bs ns) refl refl

-- in each scene whose head asks for arrays
pub making_done : (tree : PProgram) (code : Code) (texts : Texts) → AreNested (scopes_of tree) → TheLaws → CellsAreMade →
    (kind : Kind) (ns : List Named) (pairs : List PPair) (vs : List Value) → IsDone tree code texts (makes_arrays kind ns pairs vs)
making_done tree code texts nested laws cells_made kind ns pairs vs actor h =
    making tree code texts nested laws cells_made actor kind ns pairs vs h
