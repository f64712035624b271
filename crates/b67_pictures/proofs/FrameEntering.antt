-- A frame is entered: the instance of a block or a procedure has it above the words of the part around, which waits.
use Rattle.std.proofs.Common.{◌≡◌, ◌≢◌, refl, sym, ap, ◌∙◌, subst, ℕ, zero, suc, ◌+◌, ◌*◌, ◌≤◌, ◌<◌, List, [], ◌∷◌, ◌++◌, length, Option, Some, None, Bool, false, arith, append_assoc, append-nil, length-append, true}
use Rattle.b67_list.proofs.Lists.{length_map}
use Rattle.b67_list.proofs.Numbered.{numbered_set}
use Rattle.b67_list.proofs.Numbers.{none_some}
use Rattle.b67_pictures.proofs.Prelude.{nat_tests, length-reverse, if◌then◌else◌, ◌&&◌, ◌||◌, ◌==◌, replicate, reverse, slice_get, numbered, Enter, Block, block_numbered, level_of, PProgram, Scopes, scopes_of, nothing, ask, resume, Choice, choice, is_this, is_evaluation, some_depends, fresh_cells, Answer, settle_items, items_of, Cell, Instance, Process, Purpose, Part, lives, World, instance_at, or_no_instance, ancestor, with_process, all_to_make, all_left_to_make, KeepsToText, segment_of, IsStanding, newest_own, Word, Place, pcw_word, place_at, Pcw, Registers, Placed, Code, stack_limit, numbered_within, place, entered_mark, control_word, frame, parameter_cells, zero_cells, simple_cells, actuals_of, made_of, CellsAt, in_routine, yields_of, Yields, LiesNested, Texts, context_of, Gives, pushed, ComesTo, Slot, Core, size, IsCore, HasCore, with_core, newest, SlotsAre, CoreAt, BlocksBegin, control_words, length_set_numbered, IsShortSegment, tokens_around, part_weight, weight, parts_weight, has_now, others_have, system_stays, lower_of, ActualsAre, numbered_last, numbered_before, numbered_earlier, rows_there, no_elements, no_rows, arrays_joined, block_few, events_joined, HasFacts, facts_of, LeadAll, fresh_are, simple_many, KeepsArrays, Remain, denotes_lasts, keeps_same, all_each, StayBelow, runs_at, top_still, as_many_values, StandOn, frame_resumed, zero_word, cells_length, Allotted, Layout, AreMade, AreKnown, IsInReach, block_controls, controls_count, most_around, CellsAre, IsChained, home_of, Framed, ItemsStand, Frame, Waits, Around, of_own, run_level, AreLaid, all_laid, AreAlike, living_of, reached_stands, AbleActor, actor_of, gives_within, goes_on, weight_of, text_in, level_in, context_in, most_in, FrameStill, frame_still, still_low, known_stays, parts_weigh, names_in, EventsStay, critical_stays, task_stays, state_stays, events_before, TheLaws, Living, Pictures, PicturesBy, Does, gave}
use Rattle.algol_meaning.specs.Rest.{entered}
use Rattle.algol_meaning.specs.Instances as instances
use Rattle.b67_table.specs.Outcome as outcomes
use Rattle.b67_table.specs.Table.{table}
use Rattle.b67_templates.specs.Fragments.{FragmentGoes}
use Rattle.b67_cores.specs.Stretches.{CoreBegins}
use Rattle.b67_templates.specs.Nested.{IsText}
use Rattle.b67_rows.proofs.StackWords.{length_stack}
use Rattle.b67_rows.proofs.Texted.{block_keeps, block_makes}
use Rattle.b67_frames.specs.Frames.{RoutinesStand}
use Rattle.b67_frames.proofs.ArraysKept.{rows_but, rows_other}
use Rattle.b67_frames.proofs.ControlWords.{routines_long, controls_many}
use Rattle.b67_frames.proofs.Formals.{lead_there}
use Rattle.b67_frames.proofs.FreshCells.{fresh_lead}
use Rattle.b67_frames.proofs.Linked.{shown_chained}
use Rattle.b67_frames.proofs.Lying.{frame_remains}
use Rattle.b67_scenes.specs.Reaches as reaching
use Rattle.b67_scenes.proofs.Ancestors.{same_place}
use Rattle.b67_scenes.proofs.Entries as entries
use Rattle.b67_scenes.proofs.Tasks.{PlacesStay}
use Rattle.b67_pictures.proofs.Alone.{IsAfter, AreAsDependent, dependent_but, free_still, after_choice, stands_on, leaves_alone}
use Rattle.b67_scenes.proofs.Entries.{Entry}

-- the new instance of a block or a procedure, and its part
abbrev pub new_instance : Scopes → ℕ → ℕ → ℕ → List Cell → Instance
new_instance sc p h j given = record { block = j; parent = h; process = p; cells = fresh_cells (block_numbered sc.blocks j) given; left = false }

abbrev pub inner_of : Scopes → World → ℕ → Purpose → Part
inner_of sc w j purpose = record { instance = length w.instances + 1; purpose = purpose; rest = settle_items sc (items_of (block_numbered sc.blocks j)) }

abbrev pub around_of : Scopes → Part → Part
around_of sc part = record part { rest = resume sc part.rest entered }

-- on an instance that is not there nobody depends
pub fresh_free : (qs : List Process) (n : ℕ) → ((k : ℕ) (o : Process) (c : ℕ) → slice_get qs k ≡ Some o → o.critical ≡ Some c → c < n) → some_depends qs n ≡ false
fresh_free [] n low = refl
fresh_free (o ∷ qs) n low =
    ap (λ (b : Bool). (lives o.state && b) || some_depends qs n) (not_this o.critical (λ c e. low zero o c refl e))
    ∙ ap (λ (b : Bool). b || some_depends qs n) (none_both (lives o.state))
    ∙ fresh_free qs n (λ k x c e critical. low (suc k) x c e critical)
  where
    none_both : (b : Bool) → (b && false) ≡ false
    none_both true = refl
    none_both false = refl

    apart : (c : ℕ) → c < n → (c == n) ≡ false
    apart c h = grind (arith, nat_tests)

    not_this : (x : Option ℕ) → ((c : ℕ) → x ≡ Some c → c < n) → is_this x n ≡ false
    not_this None under = refl
    not_this (Some c) under = apart c (under c refl)

-- the world in which they are made
abbrev pub entered_world : Scopes → World → ℕ → Process → Part → List Part → ℕ → ℕ → List Cell → Purpose → World
entered_world sc w p q part outer h j given purpose =
    with_process (record w { instances = w.instances ++ new_instance sc p h j given ∷ [] }) p (record q { todo = inner_of sc w j purpose ∷ around_of sc part ∷ outer })

module _ (tree : PProgram) (code : Code) (texts : Texts) (nested : LiesNested tree) (short : IsShortSegment tree code) (laws : TheLaws) (begins : BlocksBegin) (actor : AbleActor tree code texts) where
  open laws use {fragments, keeps, order}
  open actor use {w, lay, img, p, q, part, outer, core, s, able_is, able_p}

  abbrev sc : Scopes
  sc = scopes_of tree

  -- These cells of the block's parameters have the words of the actuals, and those of arrays lead to arrays.
  pub record AreCells (j : ℕ) (given : List Cell) (ws : List Word) : Type 0 where
    pub cells : CellsAre (parameter_cells sc (block_numbered sc.blocks j)) (instances.parameter_cells (block_numbered sc.blocks j).parameters given) ws
    pub lead : LeadAll sc w lay (IsInReach w (part ∷ outer)) (parameter_cells sc (block_numbered sc.blocks j)) (instances.parameter_cells (block_numbered sc.blocks j).parameters given) ws

  -- The code of the block: its cells, and what it has to do, for which its segment has the room.
  pub record Body (j begin : ℕ) : Type 0 where
    pub ready : ℕ
    pub start : ℕ
    pub ats : List ℕ
    pub routines : RoutinesStand tree code texts j ats
    pub items : ItemsStand tree code texts j
    pub over : FragmentGoes (texts.placed (segment_of sc.blocks j)) (level_of (block_numbered sc.blocks j)) begin ready
    pub cells_at : CellsAt sc (context_of code texts sc j) (texts.placed (segment_of sc.blocks j)) (level_of (block_numbered sc.blocks j)) (length (zero_cells (block_numbered sc.blocks j)))
        (block_controls sc j ats) ready start
    pub comes : ComesTo sc (context_of code texts sc j) (texts.placed (segment_of sc.blocks j)) (level_of (block_numbered sc.blocks j)) (most_around tree j) (settle_items sc (items_of (block_numbered sc.blocks j))) start []
    pub small : controls_count sc j ≤ 4 * tokens_around tree j

  -- after the entry the part around goes on, once the value that is wanted was given
  pub record GoesOnBehind (next : ℕ) (waiting : List Slot) (j : ℕ) : Type 0 where
    pub unmade : all_left_to_make part.rest ≡ all_to_make part.rest
    pub waits : ask (resume sc part.rest entered) ≡ nothing
    pub returns : (a : Answer) → Gives (yields_of (block_numbered sc.blocks j).result) a →
        ComesTo sc (context_in tree code texts w part s.stands.frame.gives) (text_in tree texts w part) (level_in tree w part) (most_in tree w part) (resume sc (resume sc part.rest entered) a) next (pushed (yields_of (block_numbered sc.blocks j).result) a waiting)

  -- What is entered, for which purpose, what its code has to do, and where the part around goes on after it.
  pub record Enters : Type 0 where
    pub called : Entry tree code texts nested short (actor_of s)
    pub purpose : Purpose
    pub owns : is_evaluation purpose ≡ false
    pub body : Body called.block called.begin
    pub behind : GoesOnBehind called.next called.waiting called.block
    pub given : List Cell
    pub fit : (ws : List Word) → ActualsAre sc s.stands.held (level_in tree w part) (frame core.registers) (length core.below) called.wanted called.gs ws → AreCells called.block given ws

  module _ (enters : Enters) where
    open enters use {called, purpose, owns, body, behind, given, fit}
    open called use {next, waiting, parent as h, block as j, begin, calls as e}

    abbrev i : ℕ
    i = part.instance

    abbrev level : ℕ
    level = level_in tree w part

    -- ---- the block

    abbrev b : Block
    b = block_numbered sc.blocks j

    abbrev ps : List Placed
    ps = texts.placed (segment_of sc.blocks j)

    abbrev inner_level : ℕ
    inner_level = level_of b

    is_text : IsText sc j
    is_text = nested.nested.each j e.known

    abbrev many : ℕ
    many = length (zero_cells b)

    abbrev controls : List Pcw
    controls = block_controls sc j body.ats

    -- what was given, and after it zeros
    abbrev arguments : List Word
    arguments = entries.arguments tree code texts nested short (actor_of s) called

    abbrev taken : List Word
    taken = reverse arguments

    abbrev zeros : List Word
    zeros = replicate many zero_word

    abbrev cells : List Word
    cells = (taken ++ zeros) ++ control_words controls

    given_there : AreCells j given taken
    given_there = fit taken (entries.given tree code texts nested short (actor_of s) called).actuals

    taken_many : length taken ≡ length (parameter_cells sc b)
    taken_many = as_many_values (parameter_cells sc b) (instances.parameter_cells b.parameters given) taken given_there.cells

    as_given : length taken ≡ length arguments
    as_given = length-reverse arguments

    all_many : length (simple_cells sc b) ≡ length taken + many
    all_many = omega (arith, simple_many sc b, taken_many)

    each_has_place : length body.ats ≡ length (actuals_of sc b)
    each_has_place = routines_long sc (context_of code texts sc j) ps (inner_level + 1) (actuals_of sc b) body.ats body.routines.0

    controls_are_many : length controls ≡ controls_count sc j
    controls_are_many = controls_many sc j body.ats each_has_place

    few_cells : length taken + (many + length controls) ≤ 400
    few_cells = omega (arith, all_many, controls_are_many, block_few sc nested.nested j e.known)

    cells_are : CellsAre (simple_cells sc b) (fresh_cells b given) (taken ++ zeros)
    cells_are = fresh_are sc b given taken given_there.cells

    cells_lead : LeadAll sc w lay (IsInReach w (part ∷ outer)) (simple_cells sc b) (fresh_cells b given) (taken ++ zeros)
    cells_lead = fresh_lead sc w lay (IsInReach w (part ∷ outer)) b given taken given_there.lead

    cells_many : length cells ≡ length taken + (many + length controls)
    cells_many =
        omega (
          arith,
          length-append (taken ++ zeros) (control_words controls),
          as_many_values (simple_cells sc b) (fresh_cells b given) (taken ++ zeros) cells_are,
          all_many,
          length_map (λ (pcw : Pcw). pcw_word pcw) controls,
        )

    -- ---- the world

    abbrev n : ℕ
    n = length w.instances + 1

    abbrev made : Instance
    made = new_instance sc p h j given

    abbrev inner : Part
    inner = inner_of sc w j purpose

    abbrev part' : Part
    part' = around_of sc part

    abbrev q' : Process
    q' = record q { todo = inner ∷ part' ∷ outer }

    abbrev w' : World
    w' = entered_world sc w p q part outer h j given purpose

    abbrev at : ℕ
    at = entries.at tree code texts nested short (actor_of s) called

    abbrev lay' : Layout
    lay' = record { places = lay.places ++ place p at ∷ []; rows = rows_but lay.rows n [] }

    made_there : numbered w'.instances n ≡ Some made
    made_there = numbered_last w.instances made n refl

    made_laid : numbered lay'.places n ≡ Some (place p at)
    made_laid = numbered_last lay.places (place p at) n (omega (arith, s.by.laid))

    block_in : (instance_at w' n).block ≡ j
    block_in = ap (λ (o : Option Instance). (or_no_instance o).block) made_there

    -- the rows of all others are those that they were
    rows_before : (k : ℕ) (x : Instance) → numbered w.instances k ≡ Some x → lay'.rows k ≡ lay.rows k
    rows_before k x e = rows_other lay.rows n [] k (λ (same : k ≡ n). let low : k ≤ length w.instances = numbered_within w.instances k x e in omega (arith, same, low))

    places_stay : PlacesStay lay lay'
    places_stay k x e = numbered_before lay.places (place p at ∷ []) k x e

    events_stay : EventsStay w w'
    events_stay = events_before w w' (λ k x e. numbered_before w.instances (made ∷ []) k x e)

    dependent : AreAsDependent w.processes w'.processes
    dependent = dependent_but w.processes p q q' s.at refl (λ e. e)

    -- nobody depends on the new instance
    nobody_yet : some_depends w'.processes n ≡ false
    nobody_yet =
        free_still w.processes w'.processes n dependent
        (fresh_free w.processes n (λ m o c is critical. omega (arith, s.ok.sound.criticals (suc m) c o is critical)))

    as_many : length lay'.places ≡ length w'.instances
    as_many = omega (arith, length-append lay.places (place p at ∷ []), length-append w.instances (made ∷ []), s.by.laid)

    facts : HasFacts w
    facts = facts_of sc w s.ok

    laid_before : AreLaid w lay
    laid_before = all_laid w lay facts s.by.laid

    -- who is there stays as it is
    stays_there : (k : ℕ) (x : Instance) → numbered w.instances k ≡ Some x → instance_at w k ≡ instance_at w' k
    stays_there k x e = ap or_no_instance e ∙ sym (ap or_no_instance (numbered_before w.instances (made ∷ []) k x e))

    each_keeps : (k : ℕ) → IsStanding w k → IsStanding w' k → KeepsArrays sc w w' lay lay' k
    each_keeps k st later = let x = facts.there k st in keeps_same sc w w' lay lay' k (sym (stays_there k x.0 x.1)) (rows_before k x.0 x.1)

    parent_stands : IsStanding w h
    parent_stands = reached_stands tree code texts (actor_of s) h e.in_reach

    here : instance_at w i ≡ instance_at w' i
    here = stays_there i s.stands.frame.instance s.stands.frame.is

    abbrev limit : ℕ
    limit = length core.below

    -- ---- the core in the frame

    abbrev more : List Word
    more = entries.more tree code texts nested short (actor_of s) called

    abbrev df : ℕ
    df = entries.df tree code texts nested short (actor_of s) called

    abbrev home : Place
    home = e.linked.at

    abbrev frames : List Place
    frames = home ∷ e.linked.more

    abbrev lower : List Word
    lower = lower_of core more

    abbrev mark : Word
    mark = entered_mark home df

    abbrev control : Word
    control = control_word core.registers next inner_level

    abbrev new : Core
    new = entries.new tree code texts nested short (actor_of s) called

    level_is : inner_level ≡ length frames + 2
    level_is = omega (arith, entries.level_is tree code texts nested short (actor_of s) called)

    new_core : IsCore new
    new_core = entries.new_core tree code texts nested short (actor_of s) called

    new_long : length new.below ≡ at + 2 + length taken
    new_long = length-append lower (mark ∷ control ∷ taken) ∙ omega arith

    more_long : at ≡ length core.below + length more
    more_long = length_stack core.below more

    abbrev bound' : ℕ
    bound' = at + 2 + length taken + (many + length controls) + most_around tree j

    g : CoreBegins sc [] code ps inner_level bound' many controls body.start new
    g =
        begins sc [] (context_of code texts sc j) code ps inner_level bound' many controls begin body.ready body.start new body.over body.cells_at
        (entries.core_at tree code texts nested short (actor_of s) called) (omega (arith, few_cells, as_given)) (omega (arith, new_long))

    has_here : HasCore (with_core img p new) p new
    has_here = has_now img p core new s.has refl new_core

    -- ---- what stands on

    module _ (after_it : IsAfter (scopes_of tree) w (entered_world (scopes_of tree) w p q part outer h j given purpose) p) where
      on : StandOn sc w w' lay lay'
      on = stands_on sc w w' lay lay' p facts after_it each_keeps places_stay

      alike : (r : ℕ) → r ≢ p → AreAlike sc w w' lay lay' r
      alike r other =
          record {
            alone = leaves_alone sc w w' lay lay' p facts after_it each_keeps places_stay laid_before dependent r other;
            own = λ k x e own. numbered_before w.instances (made ∷ []) k x e;
            rows = λ k x e own. rows_before k x e;
            events = events_stay;
          }

      abbrev stay : StayBelow sc w w' lay lay' p limit
      stay =
          record {
            on = on;
            instances = λ k f x e own laid under. numbered_before w.instances (made ∷ []) k x e;
            rows = λ k f x e own laid under. rows_before k x e;
          }

      all_low : length core.below ≤ limit
      all_low = omega arith

      still : FrameStill tree code texts w w' lay lay' p limit stay part outer core.below s.stands.frame.cells s.stands.frame.gives
      still =
          frame_still tree code texts w w' lay lay' p limit stay part outer core.below s.stands.frame s.around
          (omega (arith, entries.own_low tree code texts nested short (actor_of s) called))

      same_lower : length s.stands.frame.lower ≡ length still.frame.lower
      same_lower = sym (still_low tree code texts w w' lay lay' p limit stay part outer core.below s.stands.frame still)

      -- ---- its frame

      home_there : home_of sc w' lay' h ≡ Some home
      home_there = by_number h (places_stay h home e.linked.laid)
        where
          by_number : (k : ℕ) → numbered lay'.places k ≡ Some home → home_of sc w' lay' k ≡ Some home
          by_number zero e = none_some e
          by_number (suc k) e = e

      frame_lies : length s.stands.frame.lower < limit
      frame_lies = omega (arith, entries.own_low tree code texts nested short (actor_of s) called)

      -- what is in reach stands after it
      reached_later : (k : ℕ) → IsInReach w (part ∷ outer) k → IsStanding w' k
      reached_later k path =
          let top : IsStanding w (newest_own (part ∷ outer)) × IsStanding w' (newest_own (part ∷ outer)) = top_still tree code texts w w' lay lay' p limit stay part outer core.below s.stands.frame s.around frame_lies in
          after_it.climb.facts.on_path (newest_own (part ∷ outer)) k top.1 (on.paths (newest_own (part ∷ outer)) k top.0 top.1 path)

      reach_later : Remain sc w w' lay lay' (IsInReach w (part ∷ outer)) (IsStanding w')
      reach_later =
          let r : Remain sc w w' lay lay' (IsInReach w (part ∷ outer)) (IsInReach w' (part ∷ outer)) = frame_remains tree code texts w w' lay lay' p limit stay part outer core.below s.stands.frame s.around frame_lies in
          record { stays = reached_later; keeps = r.keeps; places = r.places }

      abbrev framed : Framed sc w' lay' p n (part' ∷ outer) (length lower) mark control cells
      framed =
          record {
            instance = made;
            is = made_there;
            own = refl;
            known = e.known;
            laid = made_laid;
            stands = refl;
            simple = fresh_cells b given;
            values = taken ++ zeros;
            simple_are = cells_are;
            formals = λ k t there refers.
                let g = lead_there sc w lay (IsInReach w (part ∷ outer)) (simple_cells sc b) (fresh_cells b given) (taken ++ zeros) cells_lead k t there refers in
                (g.0, g.1, g.2, g.3, denotes_lasts sc w w' lay lay' (IsInReach w (part ∷ outer)) (IsStanding w') reach_later t.wanted g.0.cell g.1 g.4);
            ats = body.ats;
            each_has_place = each_has_place;
            arrays = [];
            declared = [];
            later = made_of b.decls;
            order = refl;
            descriptors = [];
            made = subst (λ (as' : List Allotted). AreMade [] [] as' []) (sym (rows_there lay.rows n [] n refl)) tt;
            has = sym (append-nil (fresh_cells b given));
            cells_is = ap (λ (ws : List Word). (taken ++ zeros) ++ ws) (sym (append-nil (control_words controls)));
            home = home;
            linked = home_there;
            df = df;
            mark_is = entries.mark_reads tree code texts nested short (actor_of s) called;
            back = entries.back tree code texts nested short (actor_of s) called;
            control_is = entries.control_reads tree code texts nested short (actor_of s) called;
            level_is = refl;
          }

      text_in_block : KeepsToText sc j inner.rest
      text_in_block = block_keeps sc j keeps is_text

      abbrev frame_in : Frame tree code texts w' lay' p inner (part' ∷ outer) g.core.below
      frame_in =
          record {
            lower = lower;
            mark = mark;
            control = control;
            cells = cells;
            words_are = g.below ∙ append_assoc lower (mark ∷ control ∷ taken) (zeros ++ control_words controls)
                ∙ ap (λ (ws : List Word). lower ++ mark ∷ control ∷ ws) (sym (append_assoc taken zeros (control_words controls)));
            instance = framed.instance;
            is = framed.is;
            known = framed.known;
            home = framed.home;
            df = framed.df;
            mark_is = framed.mark_is;
            back = framed.back;
            control_is = framed.control_is;
            level_is = framed.level_is ∙ runs_at inner inner_level owns;
            gives = yields_of b.result;
            text = subst (λ (k : ℕ). KeepsToText sc k inner.rest) (sym block_in) text_in_block;
            shape = of_own (record { owns = owns; framed = framed; routines = body.routines; items = body.items; making = sym (block_makes sc j order is_text) }) refl;
          }

      abbrev frame_around : Frame tree code texts w' lay' p part' outer core.below
      frame_around = frame_resumed tree code texts w' lay' p keeps order part outer core.below core.below still.frame refl behind.unmade entered tt

      -- ---- what waits

      returns_now : (a : Answer) → Gives (yields_of b.result) a →
          ComesTo sc (context_in tree code texts w' part' still.frame.gives) (text_in tree texts w' part') (level_in tree w' part') (most_in tree w' part') (resume sc part'.rest a) next (pushed (yields_of b.result) a waiting)
      returns_now =
          subst (λ (x : Instance). (a : Answer) → Gives (yields_of b.result) a →
          ComesTo sc (in_routine still.frame.gives (context_of code texts sc x.block)) (texts.placed (segment_of sc.blocks x.block)) (run_level (is_evaluation part.purpose) (level_of (block_numbered sc.blocks x.block))) (most_around tree x.block) (resume sc part'.rest a) next
          (pushed (yields_of b.result) a waiting)) here
          (subst (λ (y : Yields). (a : Answer) → Gives (yields_of b.result) a →
          ComesTo sc (context_in tree code texts w part y) (text_in tree texts w part) (level_in tree w part) (most_in tree w part) (resume sc part'.rest a) next (pushed (yields_of b.result) a waiting)) (sym still.gives_are) behind.returns)

      words_now : SlotsAre sc s.stands.held (level_in tree w' part') (length still.frame.lower) (length core.below) waiting more
      words_now =
          subst (λ (x : Instance). SlotsAre sc s.stands.held (run_level (is_evaluation part.purpose) (level_of (block_numbered sc.blocks x.block))) (length still.frame.lower) (length core.below) waiting more) here
          (subst (λ (k : ℕ). SlotsAre sc s.stands.held level k (length core.below) waiting more)
          (entries.own_is tree code texts nested short (actor_of s) called ∙ same_lower)
          (entries.second tree code texts nested short (actor_of s) called).are)

      known_now : AreKnown sc w' lay' (IsInReach w' (part' ∷ outer)) i s.stands.held
      known_now = known_stays tree code texts w w' lay lay' p limit stay laid_before part outer core s.stands s.around all_low s.stands.held s.stands.held_are

      weight_before : weight tree w p ≡ parts_weight tree w' (part' ∷ outer)
      weight_before =
          weight_of tree w p q (part ∷ outer) s.at s.todo
          ∙ sym (parts_weigh tree code texts w w' lay lay' p limit stay laid_before part outer core s.stands s.around all_low)

      few_waiting : length waiting + 2 ≤ most_in tree w part
      few_waiting =
          omega (arith, ap length e.lies, (entries.given tree code texts nested short (actor_of s) called).slots_many, s.stands.few)

      abbrev waits_now : Waits tree code texts w' lay' p part' outer lower mark control (yields_of b.result)
      waits_now =
          record {
            below = core.below;
            words = more;
            lower_is = refl;
            frame = frame_around;
            waits = behind.waits;
            pc = next;
            slots = waiting;
            returns = returns_now;
            few = subst (λ (x : Instance). length waiting + 1 ≤ most_around tree x.block) here (omega (arith, few_waiting));
            held = s.stands.held;
            held_are = known_now;
            words_are = words_now;
            home = home;
            df = df;
            mark_is = entries.mark_reads tree code texts nested short (actor_of s) called;
            far = ap (λ (k : ℕ). df + newest k (length core.below) waiting) (sym same_lower) ∙ entries.far tree code texts nested short (actor_of s) called;
            back = entries.back tree code texts nested short (actor_of s) called;
            control_is = entries.control_reads tree code texts nested short (actor_of s) called;
            segment_is = s.stands.segment_is ∙ ap (λ (x : Instance). segment_of sc.blocks x.block) here;
            place_is = omega arith;
            level_is = s.stands.there.level_is ∙ ap (λ (x : Instance). run_level (is_evaluation part.purpose) (level_of (block_numbered sc.blocks x.block))) here;
            cells_are = s.stands.counted ∙ sym (ap length still.cells_are);
            light = subst (λ (x : Instance). length core.below + most_around tree x.block + 3 ≤ parts_weight tree w' (part' ∷ outer)) here (omega (arith, s.room, s.light, weight_before));
          }

      around_inner : Around tree code texts w' lay' p (part' ∷ outer) lower mark control (yields_of b.result)
      around_inner = (waits_now, still.around)

      -- ---- the new part goes on

      cells_in : length ((instance_at w' n).cells) ≡ length taken + many
      cells_in =
          ap (λ (o : Option Instance). length ((or_no_instance o).cells)) made_there
          ∙ cells_length (simple_cells sc b) (fresh_cells b given) (taken ++ zeros) cells_are
          ∙ all_many

      more_few : length more + 2 ≤ most_in tree w part
      more_few = omega (arith, entries.as_many tree code texts nested short (actor_of s) called, few_waiting)

      inner_weight : part_weight tree w' inner ≡ 8 + (length taken + many) + 4 * tokens_around tree j
      inner_weight =
          ap (λ (t : Bool). 8 + (if t then 0 else length ((instance_at w' n).cells)) + 4 * tokens_around tree ((instance_at w' n).block)) owns
          ∙ ap (λ (k : ℕ). 8 + k + 4 * tokens_around tree ((instance_at w' n).block)) cells_in
          ∙ ap (λ (k : ℕ). 8 + (length taken + many) + 4 * tokens_around tree k) block_in

      light' : bound' + 3 ≤ weight tree w' p
      light' =
          omega (
            arith,
            weight_of tree w' p q' (inner ∷ part' ∷ outer) (numbered_set w.processes p q q' s.at) refl,
            inner_weight,
            weight_before,
            body.small,
            controls_are_many,
            s.light,
            s.room,
            more_few,
            more_long,
          )

      -- the parent stands on
      parent_still : IsStanding w h × IsStanding w' h
      parent_still = (parent_stands, reached_later h e.in_reach)

      each_now : (up : ℕ) → up < length frames → slice_get frames up ≡ numbered lay'.places (ancestor w' up ((instance_at w' n).parent))
      each_now up under =
          all_each sc w lay img.stacks h e.linked up under
          ∙ sym (same_place sc w w' lay lay' on laid_before h parent_still up)
          ∙ ap (λ (o : Option Instance). numbered lay'.places (ancestor w' up ((or_no_instance o).parent))) (sym made_there)

      new_small : size new ≤ stack_limit
      new_small = omega (arith, new_long, entries.room tree code texts nested short (actor_of s) called, more_long, as_given)

      cells_counted : length arguments + (many + length controls) ≡ length cells
      cells_counted = omega (arith, cells_many, as_given)

      living_now : Living tree code texts w' lay' (with_core img p new) p q'
      living_now =
          living_of tree code texts w' lay' (with_core img p new) after_it.climb (all_laid w' lay' after_it.climb.facts as_many) fragments p q' inner (part' ∷ outer) bound' new g.core (record {
            todo = refl;
            has = has_here;
            critical = critical_stays lay lay' places_stay q.critical core.registers.critical s.critical;
            task = task_stays sc w w' lay lay' events_stay places_stay q.task core.registers.task s.task;
            sees = refl;
            small = new_small;
            begun = g.count;
            begins = g.steps;
            frame = frame_in;
            around = around_inner;
            counted = ap (λ (r : Registers). r.cells) g.registers ∙ cells_counted;
            chained = subst (λ (d : List (Option Place)). IsChained sc w' lay' n (names_in tree w' inner) d) (sym (ap (λ (r : Registers). r.display) g.registers))
                (shown_chained sc w' lay' n (names_in tree w' inner) (place p at) frames made_laid (ap (λ (k : ℕ). level_of (block_numbered sc.blocks k)) block_in ∙ level_is) each_now);
            top = ap (λ (r : Registers). place_at r.display (level_in tree w' inner)) g.registers
                ∙ ap (place_at new.registers.display) (sym (runs_at inner (names_in tree w' inner) owns) ∙ ap (λ (k : ℕ). level_of (block_numbered sc.blocks k)) block_in)
                ∙ entries.shown_here tree code texts nested short (actor_of s) called;
            segment_is = ap (λ (r : Registers). r.segment) g.registers ∙ ap (segment_of sc.blocks) (sym block_in);
            pc = body.start;
            slots = [];
            known = [];
            known_are = tt;
            at = subst (λ (x : Bool). CoreAt sc [] code (text_in tree texts w' inner) (run_level x (names_in tree w' inner)) body.start [] g.core) (sym owns)
                (subst (λ (k : ℕ). CoreAt sc [] code (texts.placed (segment_of sc.blocks k)) (level_of (block_numbered sc.blocks k)) body.start [] g.core) (sym block_in) g.at);
            held = omega arith;
            comes = subst (λ (x : Bool). ComesTo sc (context_in tree code texts w' inner (yields_of b.result)) (text_in tree texts w' inner) (run_level x (names_in tree w' inner)) (most_in tree w' inner) inner.rest body.start []) (sym owns)
                (subst (λ (k : ℕ). ComesTo sc (in_routine (yields_of b.result) (context_of code texts sc k)) (texts.placed (segment_of sc.blocks k)) (level_of (block_numbered sc.blocks k)) (most_around tree k) inner.rest body.start []) (sym block_in) body.comes);
            reaches = reaching.none_yet at owns made_laid (omega (arith, new_long)) nobody_yet;
            room = subst (λ (k : ℕ). length g.core.below + most_around tree k ≤ bound') (sym block_in) (omega (arith, ap length frame_in.words_are, length-append lower (mark ∷ control ∷ cells), cells_many));
            light = light';
          })

      pictured : PicturesBy tree code texts w' lay' (with_core img p new)
      pictured =
          goes_on tree code texts w lay img s.by p q s.at w' lay' (with_core img p new) q' refl able_is as_many
          (arrays_joined sc w w' lay lay' made refl (no_elements (simple_cells sc b) (fresh_cells b given) (taken ++ zeros) cells_are) (no_rows (simple_cells sc b) (fresh_cells b given) (taken ++ zeros) cells_are) (λ k. refl)
          img.rows s.by.arrays)
          (events_joined sc w w' lay lay' made refl (cells_length (simple_cells sc b) (fresh_cells b given) (taken ++ zeros) cells_are)
          (λ k f other laid. numbered_earlier lay.places (place p at) k f (λ (e : k ≡ length lay.places + 1). other (omega (arith, e, s.by.laid))) laid) img.events s.by.events) refl refl refl refl (λ m there listed. listed) alike s.by.output refl refl refl (length_set_numbered img.regs p new.registers) refl (system_stays img p core new s.has refl q w s.at)
          (state_stays sc w w' lay lay' events_stay places_stay q.state (numbered img.states p) able_p) (others_have img p core new s.has refl) living_now

    table_is : table code img p ≡ outcomes.gives (with_core img p new)
    table_is =
        gives_within code img (with_core img p new) p new.registers (entries.entry_raw tree code texts nested short (actor_of s) called) has_here.registers
        (omega (arith, s.has.is.top, s.small))

    -- where the choice is the entry, the operator does it
    pub entering : choice sc w p ≡ record { action = Enter; world = w'; released = []; started = None } → Does tree code texts w img p
    entering chosen =
        gave (with_core img p new) (entries.entry_not_plain tree code texts nested short (actor_of s) called) table_is
        (entries.entry_action tree code texts nested short (actor_of s) called table_is ∙ ap (λ (x : Choice). Some x.action) (sym chosen))
        (λ may. subst (λ (x : Choice). Pictures tree code texts x.world (with_core img p new)) (sym chosen)
        (lay', pictured (after_choice sc w w' p q facts may s.at (ap (λ (x : Choice). x.world) chosen))))
