-- The frame of a part that makes what its block declares: after its cells lie descriptors of arrays, and words of events.
use Rattle.std.proofs.Common.{◌≡◌, ◌≢◌, refl, sym, ap, ◌∙◌, subst, ℕ, ◌+◌, ◌*◌, ◌<◌, ◌≤◌, List, ◌∷◌, ◌++◌, length, Option, Some, Bool, false, arith, append_assoc, length-append}
use Rattle.b67_list.proofs.Lists.{get_front}
use Rattle.b67_list.proofs.Numbered.{numbered_set}
use Rattle.b67_scenes.proofs.Prelude.{if◌then◌else◌, slice_get, numbered, Block, block_numbered, level_of, PProgram, Scopes, scopes_of, resume, is_evaluation, NamedCell, Instance, Process, Part, World, instance_at, or_no_instance, with_process, cell_in, Made, all_to_make, KeepsToText, RestsKeepToTheirText, AllIsMadeInOrder, IsStanding, Word, Place, Code, place, most_cells, Simple, simple_cells, made_of, yields_of, AreNested, IsText, Texts, control_words, some_same, tokens_around, part_weight, weight, rows_but, rows_other, made_many, block_few, as_many_controls, controls_many, StayBelow, weight_stays, around_stays, owned_frame, frame_gives, runs_at, as_many_values, StandOn, home_on, Allotted, Layout, AreMade, Denotes, Refers, block_controls, controls_count, IsChained, Framed, Frame, Around, Owned, of_own}
use Rattle.algol_meaning.specs.Rest.{done}
use Rattle.algol_paths.specs.Arrays.{all_left_to_make}
use Rattle.b67_table.specs.Limits.{most_arrays}
use Rattle.b67_frames.proofs.ArraysKept.{rows_there}
use Rattle.b67_frames.proofs.ArraysInTurn.{made_both}
use Rattle.b67_frames.proofs.Facts.{cell_refers}
use Rattle.b67_frames.proofs.Onward.{denotes_on}
use Rattle.b67_scenes.proofs.Kept.{LeavesAlone, AreAlike}
use Rattle.b67_scenes.proofs.Tasks.{EventsStay, EventsStayIn, events_beside, event_front}
use Rattle.b67_scenes.proofs.Scene.{Actor}
use Rattle.b67_scenes.proofs.Stage.{weight_of}
use Rattle.b67_scenes.proofs.Staying.{names_in}
use Rattle.b67_scenes.proofs.StoringFrames.{same_ancestors, changed, stored_world, changed_at, others_at, same_of}

-- What is made next is what the part has first to make, before all that is left.
module _ (tree : PProgram) (code : Code) (texts : Texts) (nested : AreNested (scopes_of tree)) (keeps : RestsKeepToTheirText) (order : AllIsMadeInOrder) (actor : Actor tree code texts) where
  open actor use {w, lay, p, q, part, outer, core, s}

  module _ (owns : is_evaluation part.purpose ≡ false) (ms : List Made) (makes : all_to_make part.rest ≡ ms ++ all_left_to_make part.rest) where
    abbrev sc : Scopes
    sc = scopes_of tree

    abbrev i : ℕ
    i = part.instance

    abbrev f : Frame tree code texts w lay p part outer core.below
    f = s.stands.frame

    abbrev pub own_frame : Owned tree code texts w lay p part outer (length f.lower) f.mark f.control f.cells
    own_frame = owned_frame tree code texts w lay p part outer core.below f owns

    abbrev framed : Framed sc w lay p part.instance outer (length f.lower) f.mark f.control f.cells
    framed = own_frame.framed

    abbrev x : Instance
    x = framed.instance

    abbrev b : Block
    b = block_numbered sc.blocks x.block

    -- ---- how many there are

    pub ordered : made_of b.decls ≡ framed.declared ++ (ms ++ all_left_to_make part.rest)
    ordered = framed.order ∙ ap (λ (ds : List Made). framed.declared ++ ds) (own_frame.making ∙ makes)

    text : IsText sc x.block
    text = nested.each x.block framed.known

    declared_many : length (made_of b.decls) ≡ length framed.declared + (length ms + length (all_left_to_make part.rest))
    declared_many = omega (arith, ap length ordered, length-append framed.declared (ms ++ all_left_to_make part.rest), length-append ms (all_left_to_make part.rest))

    -- no more than are made at once
    pub few_made : length ms ≤ most_arrays
    few_made = omega (arith, declared_many, text.few)

    pub cells_many : length f.cells ≡ length (simple_cells sc b) + (controls_count sc x.block + length framed.declared)
    cells_many =
        omega (
          arith,
          ap length framed.cells_is,
          length-append framed.values (control_words (block_controls sc x.block framed.ats) ++ framed.descriptors),
          length-append (control_words (block_controls sc x.block framed.ats)) framed.descriptors,
          as_many_values (simple_cells sc b) framed.simple framed.values framed.simple_are,
          as_many_controls (block_controls sc x.block framed.ats),
          controls_many sc x.block framed.ats framed.each_has_place,
          (made_many framed.declared framed.arrays (lay.rows i) framed.descriptors framed.made).words_many,
        )

    -- nor more than a frame has cells
    pub few_cells : length f.cells + length ms ≤ most_cells
    few_cells = omega (arith, cells_many, declared_many, block_few sc nested x.block framed.known)

    -- ---- the world after

    -- with these cells, rows and words
    module _ (new : List NamedCell) (allotted : List Allotted) (descriptors : List Word) (added : AreMade ms new allotted descriptors) where
      abbrev pub cells' : List NamedCell
      cells' = x.cells ++ new

      abbrev pub grown : World
      grown = stored_world w i x framed.is cells'

      abbrev pub part' : Part
      part' = record part { rest = resume sc part.rest done }

      abbrev pub q' : Process
      q' = record q { todo = part' ∷ outer }

      abbrev pub w' : World
      w' = with_process grown p q'

      abbrev pub lay' : Layout
      lay' = record lay { rows = rows_but lay.rows i (lay.rows i ++ allotted) }

      pub block_is : (instance_at w part.instance).block ≡ (instance_at w' part.instance).block
      block_is = same_of w i x framed.is cells' (λ (z : Instance). z.block) refl part.instance

      pub rows_here : lay'.rows i ≡ lay.rows i ++ allotted
      rows_here = rows_there lay.rows i (lay.rows i ++ allotted) i refl

      pub rows_elsewhere : (j : ℕ) → j ≢ i → lay'.rows j ≡ lay.rows j
      rows_elsewhere j other = rows_other lay.rows i (lay.rows i ++ allotted) j other

      -- the frames below are of other instances
      pub lower_apart : (j there : ℕ) → numbered lay.places j ≡ Some (place p there) → there < length f.lower → j ≢ i
      lower_apart j there lies low same =
          let height : there ≡ length f.lower = ap (λ (l : Place). l.at) (some_same (sym lies ∙ ap (λ (n : ℕ). numbered lay.places n) same ∙ framed.laid)) in
          omega (arith, height, low)

      -- what stands, stands on
      module _ (on : StandOn (scopes_of tree) w w' lay lay') where
        abbrev stays : StayBelow sc w w' lay lay' p (length f.lower)
        stays =
            record {
              on = on;
              instances = λ j there y e mine lies low. others_at w i x framed.is cells' j (lower_apart j there lies low) ∙ e;
              rows = λ j there y e mine lies low. rows_elsewhere j (lower_apart j there lies low);
            }

        -- events stay: new cells come after those that there are
        pub events_stay : EventsStay w w'
        events_stay = events_beside w w' i (λ j apart. others_at w i x framed.is cells' j apart) here
          where
            here : EventsStayIn w w' i
            here name e has = (
              sym block_is,
              (
                e,
                ap (λ (o : Option Instance). cell_in ((or_no_instance o).cells) name) (changed_at w i x framed.is cells')
                    ∙ event_front x.cells new name e (ap (λ (o : Option Instance). cell_in ((or_no_instance o).cells) name) (sym framed.is) ∙ has),
              ),
            )

        -- those of other processes are as they were
        pub alike : (r : ℕ) → r ≢ p → LeavesAlone (scopes_of tree) w w' lay lay' r → AreAlike (scopes_of tree) w w' lay lay' r
        alike r other alone =
            record {
              alone = alone;
              own = λ j y e mine. others_at w i x framed.is cells' j (apart j y e mine) ∙ e;
              rows = λ j y e mine. rows_elsewhere j (apart j y e mine);
              events = events_stay;
            }
          where
            apart : (j : ℕ) (y : Instance) → numbered w.instances j ≡ Some y → y.process ≡ r → j ≢ i
            apart j y e mine same =
                let here : y ≡ x = some_same (sym e ∙ ap (λ (n : ℕ). numbered w.instances n) same ∙ framed.is) in
                other (sym mine ∙ ap (λ (z : Instance). z.process) here ∙ framed.own)

        pub chained : IsChained sc w' lay' i (names_in tree w part) core.registers.display
        chained up low =
            s.stands.chained up low
            ∙ ap (λ (j : ℕ). numbered lay.places j) (same_ancestors w w' (λ j. same_of w i x framed.is cells' (λ (z : Instance). z.parent) refl j) up i)

        -- ---- the frame, with the words after its cells

        pub made_now : AreMade (framed.declared ++ ms) (framed.arrays ++ new) (lay'.rows i) (framed.descriptors ++ descriptors)
        made_now =
            subst (λ (rows : List Allotted). AreMade (framed.declared ++ ms) (framed.arrays ++ new) rows (framed.descriptors ++ descriptors)) (sym rows_here)
            (made_both framed.declared framed.arrays (lay.rows i) framed.descriptors ms new allotted descriptors framed.made added)

        new_many : length new ≡ length ms
        new_many = (made_many ms new allotted descriptors added).cells_many

        abbrev later : Instance
        later = changed w i x framed.is cells'

        -- what a parameter stands for, stands
        pub formals_now : (k : ℕ) (t : Simple) → slice_get (simple_cells sc (block_numbered sc.blocks x.block)) k ≡ Some t → Refers t.wanted →
            (c : NamedCell) × (word : Word) × (slice_get framed.simple k ≡ Some c) × (slice_get framed.values k ≡ Some word) × Denotes sc w' lay' (IsStanding w') t.wanted c.cell word
        formals_now k t there refers =
            let g = framed.formals k t there refers in
            let among : slice_get cells' k ≡ Some g.0 = get_front x.cells new k g.0 (ap (λ (cs : List NamedCell). slice_get cs k) framed.has ∙ get_front framed.simple framed.arrays k g.0 g.2) in
            (g.0, g.1, g.2, g.3, denotes_on sc w w' lay lay' on t.wanted g.0.cell g.1 (cell_refers w' on.after i later (changed_at w i x framed.is cells') framed.stands k g.0 among) g.4)

        abbrev framed' : Framed sc w' lay' p i outer (length f.lower) f.mark f.control (f.cells ++ descriptors)
        framed' =
            record {
              instance = later;
              is = changed_at w i x framed.is cells';
              own = framed.own;
              known = framed.known;
              stands = framed.stands;
              laid = framed.laid;
              simple = framed.simple;
              values = framed.values;
              simple_are = framed.simple_are;
              formals = formals_now;
              ats = framed.ats;
              each_has_place = framed.each_has_place;
              arrays = framed.arrays ++ new;
              declared = framed.declared ++ ms;
              later = all_left_to_make part.rest;
              order = ordered ∙ sym (append_assoc framed.declared (ms) (all_left_to_make part.rest));
              descriptors = framed.descriptors ++ descriptors;
              made = made_now;
              has = ap (λ (cs : List NamedCell). cs ++ new) framed.has ∙ append_assoc framed.simple framed.arrays (new);
              cells_is =
                  ap (λ (ws : List Word). ws ++ descriptors) framed.cells_is
                  ∙ append_assoc framed.values (control_words (block_controls sc x.block framed.ats) ++ framed.descriptors) descriptors
                  ∙ ap (λ (ws : List Word). framed.values ++ ws) (append_assoc (control_words (block_controls sc x.block framed.ats)) framed.descriptors descriptors);
              home = framed.home;
              linked = home_on sc w w' lay lay' on x.parent framed.home framed.linked;
              df = framed.df;
              mark_is = framed.mark_is;
              back = framed.back;
              control_is = framed.control_is;
              level_is = framed.level_is;
            }

        abbrev pub frame' : (words : List Word) → words ≡ core.below ++ descriptors → Frame tree code texts w' lay' p part' outer words
        frame' words are =
            record {
              lower = f.lower;
              mark = f.mark;
              control = f.control;
              cells = f.cells ++ descriptors;
              words_are = are ∙ ap (λ (ws : List Word). ws ++ descriptors) f.words_are ∙ append_assoc f.lower (f.mark ∷ f.control ∷ f.cells) descriptors;
              instance = framed'.instance;
              is = framed'.is;
              known = framed'.known;
              home = framed'.home;
              df = framed'.df;
              mark_is = framed'.mark_is;
              back = framed'.back;
              control_is = framed'.control_is;
              level_is = framed'.level_is ∙ runs_at part (level_of (block_numbered sc.blocks framed'.instance.block)) own_frame.owns;
              gives = f.gives;
              text = subst (λ (j : ℕ). KeepsToText sc j part'.rest) block_is (keeps.resumed sc ((instance_at w i).block) part.rest done f.text tt);
              shape = of_own (record {
                owns = own_frame.owns;
                framed = framed';
                routines = own_frame.routines;
                items = own_frame.items;
                making = sym (order.resumed sc ((instance_at w i).block) part.rest done f.text);
              }) (frame_gives tree code texts w lay p part outer core.below f owns ∙ ap (λ (y : Instance). yields_of (block_numbered sc.blocks y.block).result) (ap or_no_instance framed.is));
            }

        -- the parts around stand as they did
        pub around' : Around tree code texts w' lay' p outer f.lower f.mark f.control f.gives
        around' = around_stays tree code texts w w' lay lay' p (length f.lower) stays outer f.lower f.mark f.control f.gives (omega arith) s.around

        -- ---- weights

        part_heavier : part_weight tree w' part' ≡ part_weight tree w part + length ms
        part_heavier =
            ap (λ (t : Bool). 8 + (if t then 0 else length ((instance_at w' i).cells)) + 4 * tokens_around tree ((instance_at w' i).block)) own_frame.owns
            ∙ ap (λ (j : ℕ). 8 + length ((instance_at w' i).cells) + 4 * tokens_around tree j) (sym block_is)
            ∙ omega (
              arith,
              ap (λ (o : Option Instance). length ((or_no_instance o).cells)) (changed_at w i x framed.is cells'),
              length-append x.cells (new),
              new_many,
              ap (λ (o : Option Instance). length ((or_no_instance o).cells)) framed.is,
              ap (λ (t : Bool). 8 + (if t then 0 else length ((instance_at w i).cells)) + 4 * tokens_around tree ((instance_at w i).block)) own_frame.owns,
            )

        pub heavier : weight tree w' p ≡ weight tree w p + length ms
        heavier =
            weight_of tree w' p q' (part' ∷ outer) (numbered_set w.processes p q q' s.at) refl
            ∙ omega (
              arith,
              part_heavier,
              weight_stays tree code texts w w' lay lay' p (length f.lower) stays outer f.lower f.mark f.control f.gives (omega arith) s.around,
              weight_of tree w p q (part ∷ outer) s.at s.todo,
            )
