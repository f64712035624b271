-- What a process is started with, where its starter stands at the call: the frame that holds the procedure, the cells of what is given, the task,
-- and the critical frame.
use Rattle.std.proofs.Common.{◌≡◌, ◌⊎◌, inl, inr, refl, sym, ap, ◌∙◌, subst, ℕ, suc, ◌+◌, ◌<◌, ◌^◌, List, [], ◌∷◌, ◌++◌, length, Option, Some, None, Bool, true, arith}
use Rattle.b67_list.proofs.Lists.{get_within, length_map}
use Rattle.b67_pictures.proofs.Prelude.{slice_get, pos, numbered, Block, block_numbered, level_of, PProgram, Scopes, scopes_of, use_of, Parameter, Kind, Named, starts, ask, home, given_cells, task_of, newest_first, first_on_path, referred_by, referred_by_task, Given, number, Instance, Part, lives, instance_at, or_no_instance, ancestor, cell_in as world_cell, DeclaredArray, Shape, shape_of, BlockIsSeen, IsSeenAround, IsInner, is_procedure, segment_of, InGivens, InName, InRest, starts_lie_on_paths, in_either, referred_by_start, IsInSkeleton, IsStanding, IsNoBlock, newest_own, Word, Place, as_irw, as_sirw, event_word, Irw, Pcw, Registers, Sirw, Couple, Start, Code, Segment, one_event, Event, is_open, place, gives, Image, ◌>->◌, valid, frame, asked, see, ◌>>=◌, cell_place, irw_or_sirw, reached_in, place_of, frames_with, named_frames, Reached, Simple, parameter_cells, parameter_wants, procedures, made_base, made_of, ShapeAgrees, IsVariable, IsDeclaredArray, IsDeclaredEvent, IsProcedure, Context, code_at, LiesNested, AreParameters, Texts, ProgramAt, IsTask, StartsAt, Slot, reference, operand, intrinsic, mark, SlotIs, some_same, InReferred, IsAmongPlaces, FirstDown, AreFit, are_fit, fit_many, Top, reference_read, event_refers_nothing, AreGivenCells, given_are, simple_many, Linked, Begins_with, begins_core, begins_front, IsSeenMade, both_seen, named_leads, event_leads, HasCells, IsParent, variable_leads, named_from, ReferenceLeadsTo, LeadsToEvent, LeadsToVariable, IsNamed, IsInReach, ArePlaced, IsComplete, EventHome, cell_there, has_there, Found, found_laid, part_there, named_parent, scene_placed, reached_stands, made_or_around, Actor, frame_is, Refers, text_in, level_in, context_in, most_in, names_in, frame_low, IsEventAt, TaskIs, ActualsLead}
use Rattle.b67_templates.specs.Cells.{made_from}
use Rattle.b67_templates.specs.Nested.{AreTold}
use Rattle.b67_rows.proofs.Words.{event_read}
use Rattle.b67_pictures.proofs.ParentPlaces.{standing_cells}
use Rattle.algol_standing.proofs.Asking.{Sees, rest_sees}
use Rattle.b67_table.specs.PrivateRows as private_rows
use Rattle.std.specs.Option.{is_some}
use Rattle.b67_control.specs.declared.EventWord.{EventWord}
use Rattle.b67_table.specs.Arguments.{if_open, reached_event_in, event_of}
use Rattle.b67_table.specs.declared.Cell.{Cell as MachineCell}
use Rattle.b67_table.specs.Program.{test_is_event}
use Rattle.b67_table.specs.References.{cell_in, reached, one_sirw, no_second}
use Rattle.b67_table.specs.Starting as starting
use Rattle.b67_word.specs.Word.{as_whole}
use Rattle.b67_cores.proofs.Taking.{number_read}
use Rattle.b67_rows.proofs.AskedEntries.{all_referred}
use Rattle.b67_rows.proofs.Displays.{Links}
use Rattle.b67_rows.proofs.StartRow as rows
use Rattle.b67_frames.proofs.EventRows.{FindsEvent, directly, by_reference}
use Rattle.b67_frames.proofs.Linked.{mark_lies, all_linked}
use Rattle.b67_scenes.proofs.EventHomes.{declared_home, declared_number}
use Rattle.b67_scenes.proofs.PathThere.{last_owns, path_there}
use Rattle.b67_scenes.proofs.StartCalling as calling
use Rattle.b67_scenes.proofs.TowerOf.{tower_of}
use Rattle.b67_scenes.proofs.Towers.{Tower}
use Rattle.b67_pictures.proofs.CalledProcedure.{CalledProcedure, called_procedure}
use Rattle.b67_pictures.proofs.NamedFrames.{AreListed, all_listed, listed_to, listed_back}
use Rattle.b67_pictures.proofs.ProcessStarting.{newest_there}
use Rattle.b67_pictures.proofs.StartAsked.{none_to_make}

-- an event's cell that is reached is found
event_given : (img : Image) (p : ℕ) (r : Registers) (word : Word) (c : MachineCell) → FindsEvent img p r word c → is_open (cell_place c) img.events ≡ true → asked img (event_of r word) ≡ gives c
event_given img p r word c (directly level names shown lies) there_open = rows.declared_event img r word c level names shown lies there_open
event_given img p r word c (by_reference level index home first names shown lies refers there) there_open =
    ap (λ (o : Option Irw). asked img (see (reached (irw_or_sirw r o (as_sirw word))) >>= reached_event_in)) names
    ∙ ap (λ (o : Option Place). asked img (see (reached (cell_in o index)) >>= reached_event_in)) shown
    ∙ ap (λ (o : Option Word). asked img (see (reached_in (record { frame = home; index = index }) o >-> (λ (w : Reached). one_sirw (as_sirw w.word) w)) >>= reached_event_in)) lies
    ∙ ap (λ (o : Option Sirw). asked img (see (one_sirw o (record { word = first; cell = record { frame = home; index = index } })) >>= reached_event_in)) refers
    ∙ ap (λ (o : Option Word). asked img (see (reached_in c o >-> (λ (v : Reached). no_second (as_sirw v.word) v)) >>= reached_event_in)) there
    ∙ ap (λ (o : Option Sirw). asked img (see (no_second o (record { word = event_word (record {}); cell = c })) >>= reached_event_in)) event_refers_nothing
    ∙ ap (λ (o : Option EventWord). asked img (see (valid o) >>= (λ (e : EventWord). test_is_event (cell_place c) (λ (b : Bool). if_open b c)))) event_read
    ∙ ap (λ (b : Bool). asked img (if_open b c)) there_open

module _ (tree : PProgram) (code : Code) (program : ProgramAt code tree) (nested : LiesNested tree)
    (actor : Actor tree code program.texts) where
  open actor use {w, lay, img, p, q, part, outer, core, s}

  module _ (able_is : lives q.state ≡ true)
      (n : Named) (gs : List Given) (task : Option Named) (asks : ask part.rest ≡ starts n gs task) (callee next : ℕ) (waiting : List Slot)
      (at : StartsAt (scopes_of tree) (context_in tree code program.texts w part s.stands.frame.gives) (text_in tree program.texts w part) (level_in tree w part) (most_in tree w part) n gs task callee s.stands.pc next s.stands.slots waiting) where
    abbrev sc : Scopes
    sc = scopes_of tree

    abbrev texts : Texts
    texts = program.texts

    abbrev level : ℕ
    level = level_in tree w part

    abbrev names : ℕ
    names = names_in tree w part

    abbrev context : Context
    context = context_in tree code texts w part s.stands.frame.gives

    abbrev block : ℕ
    block = (instance_at w part.instance).block

    abbrev couple : Couple
    couple = at.couple

    abbrev named : IsProcedure sc names n callee couple
    named = at.procedure

    -- ---- the instance that holds the procedure

    abbrev up : ℕ
    up = (use_of sc n).up

    abbrev u : ℕ
    u = (use_of sc n).block

    abbrev h : ℕ
    h = ancestor w up part.instance

    -- the procedure is seen, and so is what is given to it, and the task
    abbrev AllSeen : (Named → Type 0) → Type 0
    AllSeen P = P n × InGivens P gs × InName P task

    all_seen : AllSeen (BlockIsSeen sc block)
    all_seen =
        subst (λ y. Sees (BlockIsSeen sc block) (IsInner sc block) y) asks
        (rest_sees (BlockIsSeen sc block) (IsInner sc block) (IsSeenAround sc block) (λ m (seen : IsSeenAround sc block m). seen.0) part.rest s.stands.frame.text)

    pub seen_there : BlockIsSeen sc block n
    seen_there = all_seen.0

    -- all is made there, or they are around
    around_seen : InRest (IsSeenAround sc block) IsNoBlock (IsSeenAround sc block) part.rest → AllSeen (IsSeenAround sc block)
    around_seen text =
        subst (λ y. Sees (IsSeenAround sc block) IsNoBlock y) asks
        (rest_sees (IsSeenAround sc block) IsNoBlock (IsSeenAround sc block) (λ m (seen : IsSeenAround sc block m). seen) part.rest text)

    in_bound : IsComplete sc w lay part.instance ⊎ AllSeen (IsSeenAround sc block)
    in_bound = made_or_around tree code texts actor (inl (none_to_make n gs task part.rest asks)) around_seen

    arrays_seen : InReferred (IsSeenMade tree w lay part) gs
    arrays_seen = both_seen tree w lay part gs (all_referred (BlockIsSeen sc block) gs all_seen.1) (given_in_bound in_bound)
      where
        given_in_bound : IsComplete sc w lay part.instance ⊎ AllSeen (IsSeenAround sc block) → IsComplete sc w lay part.instance ⊎ InReferred (IsSeenAround sc block) gs
        given_in_bound (inl whole) = inl whole
        given_in_bound (inr around_it) = inr (all_referred (IsSeenAround sc block) gs around_it.1)

    -- ---- the procedure

    pub called : CalledProcedure tree code program nested actor n callee couple named seen_there
    called = called_procedure tree code program nested actor n callee couple named seen_there

    open called use {u_known, fits, entry_lies, shown, level_low, level_new}

    abbrev pub parent : IsParent sc w lay part.instance up u
    parent = called.parent

    abbrev pub linked : Linked sc w lay img.stacks h
    linked = called.linked

    abbrev pub known : callee < length sc.blocks
    known = called.known

    abbrev pub is_own : is_procedure (block_numbered sc.blocks callee) ≡ true
    is_own = called.is_own

    abbrev pub segment_there : (x : Segment) × (slice_get code.segments (segment_of sc.blocks callee) ≡ Some x)
    segment_there = called.segment_there

    abbrev b : Block
    b = block_numbered sc.blocks callee

    abbrev c : Pcw
    c = code_at (segment_of sc.blocks callee) 0 (level_of b)

    couple_fits : (couple.level < 32) × (couple.index < 2 ^ 14)
    couple_fits = (
      omega (arith, named.level_is, level_low),
      omega (arith, named.index_is, get_within (procedures (block_numbered sc.blocks u).decls) named.number named.declared named.there, (nested.nested.each u u_known).few),
    )

    -- ---- what is given

    parameters : AreParameters sc b
    parameters = (nested.nested.each callee known).parameters

    fit : AreFit sc context (parameter_wants sc callee) gs
    fit = are_fit sc context (parameter_wants sc callee) gs at.fit

    pub given_many : length gs ≡ length (parameter_cells sc b)
    given_many = fit_many sc context fit ∙ length_map (λ (c : Simple). c.wanted) (parameter_cells sc b)

    abbrev InReach : ℕ → Type 0
    InReach = IsInReach w (part ∷ outer)

    abbrev here_stands : IsStanding w part.instance
    here_stands = part_there tree code texts actor

    abbrev placed : ArePlaced sc w lay
    placed = scene_placed tree code texts actor

    abbrev each : (j : ℕ) → IsStanding w j → HasCells sc w lay j
    each j st = standing_cells tree code texts w lay img s.by s.ok j st

    abbrev arrays_lead : (m : Named) → IsSeenMade tree w lay part m → (shape : Shape) (d : DeclaredArray) (y : Couple) → IsDeclaredArray sc names m d y → ShapeAgrees shape (shape_of d) → (x : Word) → IsNamed sc w lay InReach part.instance m x →
        ReferenceLeadsTo sc w lay InReach shape (named_from sc w lay part.instance m) x
    arrays_lead m seen shape d y v agrees x h = named_leads tree w lay placed each part here_stands InReach (record {
      level = names;
      name = m;
      seen = seen;
      shape = shape;
      declared = d;
      couple = y;
      is_declared = v;
      agrees = agrees;
      word = x;
      named = h;
    })

    abbrev variables_lead : (m : Named) → IsSeenMade tree w lay part m → (kind : Kind) (y : Couple) → IsVariable sc names m kind y → (x : Word) → IsNamed sc w lay InReach part.instance m x →
        LeadsToVariable sc w lay InReach kind (named_from sc w lay part.instance m) x
    variables_lead m seen kind y v x h = variable_leads tree w lay placed part here_stands InReach (record { level = names; name = m; seen = seen.0; kind = kind; couple = y; is_variable = v; word = x; named = h })

    abbrev events_lead : (m : Named) → IsSeenMade tree w lay part m → (y : Couple) → IsDeclaredEvent sc names m y → (x : Word) → IsNamed sc w lay InReach part.instance m x →
        LeadsToEvent sc w lay InReach (named_from sc w lay part.instance m) x
    events_lead m seen y v x h = event_leads tree w lay placed each part here_stands InReach (record { level = names; name = m; seen = seen; couple = y; is_declared = v; word = x; named = h })

    -- the actuals, the first one first
    abbrev words : List Word
    words = calling.parameters tree code texts actor n gs task callee next waiting at

    abbrev leading : ActualsLead sc context w lay part InReach (IsSeenMade tree w lay part)
    leading = record {
      known = s.stands.held;
      are = s.stands.held_are;
      leads = arrays_lead;
      leads_event = events_lead;
      leads_variable = variables_lead;
    }

    -- the cells of its parameters
    pub cells_given : AreGivenCells sc context w lay p q part outer level (frame core.registers) (length core.below) InReach (IsSeenMade tree w lay part) leading
        (parameter_cells sc b) b.parameters gs words
    cells_given =
        given_are sc context w lay p q part outer level (frame core.registers) (length core.below) InReach (IsSeenMade tree w lay part) leading fit
        (parameter_cells sc b) b.parameters parameters.told refl arrays_seen words
        (calling.given tree code texts actor n gs task callee next waiting at).actuals

    told_long : (ps : List Parameter) (ss : List Simple) → AreTold ps ss → length ps ≡ length ss
    told_long [] [] told = refl
    told_long [] (c ∷ ss) told = absurd told
    told_long (q' ∷ ps) [] told = absurd told
    told_long (q' ∷ ps) (c ∷ ss) told = ap suc (told_long ps ss told.2)

    given_long : (xs : List Given) → length (given_cells sc w p q part outer xs) ≡ length xs
    given_long [] = refl
    given_long (x ∷ xs) = ap suc (given_long xs)

    abbrev Listed : List ℕ → List Place → Type 0
    Listed = AreListed tree code texts nested.nested w lay img s.by s.ok InReach (reached_stands tree code texts actor)

    given_listed : Listed (referred_by (given_cells sc w p q part outer gs)) (named_frames words)
    given_listed =
        all_listed tree code texts nested.nested w lay img s.by s.ok InReach (reached_stands tree code texts actor) (parameter_cells sc b) b.parameters (given_cells sc w p q part outer gs) words
        (told_long b.parameters (parameter_cells sc b) parameters.told ∙ sym given_many ∙ sym (given_long gs)) cells_given.cells cells_given.lead

    -- ---- the task

    abbrev tasked_there : Top sc s.stands.held level (frame core.registers) (length core.below) at.tasked (reference couple ∷ intrinsic Start ∷ mark ∷ waiting)
        (calling.given tree code texts actor n gs task callee next waiting at).others
    tasked_there = calling.task_there tree code texts actor n gs task callee next waiting at

    -- there is none, or its event's cell is reached
    pub record TaskThere (t : Option Named) : Type 0 where
      pub cell : Option MachineCell
      pub has : asked img (starting.task_of core.registers tasked_there.word) ≡ gives cell
      pub is : TaskIs sc w lay (task_of sc w p q part outer t) (place_of cell)
      pub listed : Listed (referred_by_task (task_of sc w p q part outer t)) (frames_with cell [])

    no_task_there : at.tasked ≡ operand (number (pos 0)) → TaskThere None
    no_task_there same =
        record {
          cell = None;
          has = rows.no_task img core.registers tasked_there.word
              (number_read (pos 0) tasked_there.word (subst (λ (k : Slot). SlotIs sc s.stands.held level (frame core.registers) (length core.below) (reference couple ∷ intrinsic Start ∷ mark ∷ waiting) k tasked_there.word) same tasked_there.slot_is));
          is = refl;
          listed = tt;
        }

    -- The name of the event that is the task.
    pub record NamesTask : Type 0 where
      pub name : Named
      pub couple : Couple
      pub is_declared : IsDeclaredEvent sc names name couple
      pub same : at.tasked ≡ reference couple
      pub is_seen : BlockIsSeen sc block name
      pub made : IsComplete sc w lay part.instance ⊎ IsSeenAround sc block name
      pub around_it : InRest (IsSeenAround sc block) IsNoBlock (IsSeenAround sc block) part.rest → IsSeenAround sc block name

    module _ (task_name : NamesTask) where
      open task_name use {name as m, couple as y, is_declared as v, same, is_seen, made, around_it}

      abbrev home_m : EventHome tree code texts nested.nested actor (named_from sc w lay part.instance m) y
      home_m = declared_home tree code texts nested.nested actor m y is_seen made around_it v

      abbrev i : ℕ
      i = ancestor w (use_of sc m).up part.instance

      abbrev found_m : Found tree code texts w lay img i
      found_m = home_m.lies.found

      abbrev cell_m : MachineCell
      cell_m = cell_there tree code texts nested.nested actor home_m.lies home_m.number

      word_is : tasked_there.word ≡ private_rows.reference y
      word_is = subst (λ (k : Slot). SlotIs sc s.stands.held level (frame core.registers) (length core.below) (reference couple ∷ intrinsic Start ∷ mark ∷ waiting) k tasked_there.word) same tasked_there.slot_is

      open_m : is_open (cell_place cell_m) img.events ≡ true
      open_m =
          one_event.found (cell_place cell_m) img.events
          ∙ ap (λ (x : Option Event). is_some x)
          (s.by.events.are_open found_m.lies.part.instance home_m.number home_m.found.cell (cell_place cell_m) (has_there tree code texts nested.nested actor home_m.lies m.name home_m.number home_m.found))

      instance_is : instance_at w i ≡ found_m.lies.owned.framed.instance
      instance_is = ap (instance_at w) (sym found_m.lies.instance_is) ∙ ap or_no_instance found_m.lies.owned.framed.is

      parent_m : IsParent sc w lay part.instance (use_of sc m).up (use_of sc m).block
      parent_m = named_parent tree code texts actor m is_seen

      event_m : IsEventAt sc w lay (named_from sc w lay part.instance m) (cell_place cell_m)
      event_m =
          record {
            made = record {
              number = v.made.number;
              found = ap (λ (j : ℕ). made_from 0 (made_of (block_numbered sc.blocks j).decls) m.name) parent_m.block ∙ v.made.there;
              cell = home_m.found.cell;
              is = ap (λ (x : Instance). world_cell x.cells m.name) instance_is ∙ home_m.found.means;
            };
            frame = place found_m.number (length found_m.lies.frame.lower);
            laid = found_laid tree code texts w lay img i found_m;
            at_is = ap (λ (x : Instance). place found_m.number (length found_m.lies.frame.lower + (made_base sc (block_numbered sc.blocks x.block) + home_m.number))) (sym instance_is)
                ∙ ap (λ (k : ℕ). place found_m.number (length found_m.lies.frame.lower + (made_base sc (block_numbered sc.blocks ((instance_at w i).block)) + k)))
                (declared_number tree code texts nested.nested actor m y is_seen made around_it v);
          }

      task_m : TaskThere (Some m)
      task_m =
          record {
            cell = Some cell_m;
            has =
                rows.task_there img core.registers tasked_there.word cell_m (ap as_whole word_is ∙ rows.reference_no_number y)
                (event_given img p core.registers tasked_there.word cell_m (home_m.reaches tasked_there.word (ap as_irw word_is ∙ reference_read y home_m.fits.0 home_m.fits.1)) open_m);
            is = (cell_place cell_m, refl, event_m);
            listed = (reached_stands tree code texts actor i home_m.own, found_laid tree code texts w lay img i found_m, tt);
          }

    task_for : (t : Option Named) → IsTask sc context t at.tasked → InName (BlockIsSeen sc block) t → IsComplete sc w lay part.instance ⊎ InName (IsSeenAround sc block) t →
        (InRest (IsSeenAround sc block) IsNoBlock (IsSeenAround sc block) part.rest → InName (IsSeenAround sc block) t) → TaskThere t
    task_for None is is_seen made around_it = no_task_there is
    task_for (Some m) is is_seen made around_it = task_m (record { name = m; couple = is.0; is_declared = is.1; same = is.2; is_seen = is_seen; made = made; around_it = around_it })

    pub task_found : TaskThere task
    task_found = task_for task at.task_is all_seen.2 (task_in_bound in_bound) (λ text. (around_seen text).2)
      where
        task_in_bound : IsComplete sc w lay part.instance ⊎ AllSeen (IsSeenAround sc block) → IsComplete sc w lay part.instance ⊎ InName (IsSeenAround sc block) task
        task_in_bound (inl whole) = inl whole
        task_in_bound (inr around_it) = inr around_it.2

    -- ---- the frames

    abbrev frames_more : List Place
    frames_more = linked.at ∷ linked.more

    links_down : Links img.stacks linked.at frames_more
    links_down = all_linked sc w lay img.stacks h linked

    pub level_is : level_of b ≡ length frames_more + 2
    level_is = omega (arith, level_new, ap (λ (k : ℕ). level_of (block_numbered sc.blocks k)) parent.block, linked.level_is)

    abbrev cell : Option MachineCell
    cell = task_found.cell

    abbrev refs : List ℕ
    refs = referred_by_start sc w p q part outer n gs task

    abbrev wanted : List Place
    wanted = linked.at ∷ frames_with cell (named_frames words)

    among_with : (c : Option MachineCell) (gs' : List Place) (g : Place) → IsAmongPlaces (frames_with c gs') g → IsAmongPlaces (frames_with c []) g ⊎ IsAmongPlaces gs' g
    among_with None gs' g m = inr m
    among_with (Some c) gs' g (inl e) = inl (inl e)
    among_with (Some c) gs' g (inr m) = inr m

    with_task : (c : Option MachineCell) (gs' : List Place) (g : Place) → IsAmongPlaces (frames_with c []) g → IsAmongPlaces (frames_with c gs') g
    with_task None gs' g m = absurd m
    with_task (Some c) gs' g (inl e) = inl e
    with_task (Some c) gs' g (inr m) = absurd m

    with_given : (c : Option MachineCell) (gs' : List Place) (g : Place) → IsAmongPlaces gs' g → IsAmongPlaces (frames_with c gs') g
    with_given None gs' g m = m
    with_given (Some c) gs' g m = inr m

    in_front : (xs ys : List ℕ) (i : ℕ) → IsInSkeleton xs i → IsInSkeleton (xs ++ ys) i
    in_front (x ∷ xs) ys i (inl e) = inl e
    in_front (x ∷ xs) ys i (inr m) = inr (in_front xs ys i m)
    in_front [] ys i m = absurd m

    in_back : (xs ys : List ℕ) (i : ℕ) → IsInSkeleton ys i → IsInSkeleton (xs ++ ys) i
    in_back [] ys i m = m
    in_back (x ∷ xs) ys i m = inr (in_back xs ys i m)

    abbrev given_refs : List ℕ
    given_refs = referred_by (given_cells sc w p q part outer gs)

    abbrev task_refs : List ℕ
    task_refs = referred_by_task (task_of sc w p q part outer task)

    abbrev to_place : (is : List ℕ) (ps : List Place) → Listed is ps → (i : ℕ) (g : Place) → IsInSkeleton is i → numbered lay.places i ≡ Some g → IsAmongPlaces ps g
    to_place = listed_to tree code texts nested.nested w lay img s.by s.ok InReach (reached_stands tree code texts actor)

    abbrev back_place : (is : List ℕ) (ps : List Place) → Listed is ps → (g : Place) → IsAmongPlaces ps g → (i : ℕ) × IsInSkeleton is i × IsStanding w i × (numbered lay.places i ≡ Some g)
    back_place = listed_back tree code texts nested.nested w lay img s.by s.ok InReach (reached_stands tree code texts actor)

    to : (i : ℕ) (g : Place) → IsInSkeleton refs i → numbered lay.places i ≡ Some g → IsAmongPlaces wanted g
    to i g (inl e) laid = inl (some_same (sym linked.laid ∙ ap (λ (k : ℕ). numbered lay.places k) e ∙ laid))
    to i g (inr m) laid = inr (either (in_either given_refs task_refs i m))
      where
        either : IsInSkeleton given_refs i ⊎ IsInSkeleton task_refs i → IsAmongPlaces (frames_with cell (named_frames words)) g
        either (inl k) = with_given cell (named_frames words) g (to_place given_refs (named_frames words) given_listed i g k laid)
        either (inr k) = with_task cell (named_frames words) g (to_place task_refs (frames_with cell []) task_found.listed i g k laid)

    back : (g : Place) → IsAmongPlaces wanted g → (i : ℕ) × IsInSkeleton refs i × IsStanding w i × (numbered lay.places i ≡ Some g)
    back g (inl e) = (h, inl refl, parent.stands, linked.laid ∙ ap (λ (x : Place). Some x) e)
    back g (inr m) = either (among_with cell (named_frames words) g m)
      where
        either : IsAmongPlaces (frames_with cell []) g ⊎ IsAmongPlaces (named_frames words) g → (i : ℕ) × IsInSkeleton refs i × IsStanding w i × (numbered lay.places i ≡ Some g)
        either (inl k) = let x = back_place task_refs (frames_with cell []) task_found.listed g k in (x.0, inr (in_back given_refs task_refs x.0 x.1), x.2, x.3)
        either (inr k) = let x = back_place given_refs (named_frames words) given_listed g k in (x.0, inr (in_front given_refs task_refs x.0 x.1), x.2, x.3)

    -- ---- the critical frame

    tower : Tower img.stacks lay p q.todo (length s.stands.frame.lower)
    tower =
        subst (λ (parts : List Part). Tower img.stacks lay p parts (length s.stands.frame.lower)) (sym s.todo)
        (tower_of tree code texts w lay p img.stacks part outer core.below s.stands.frame s.around (last_owns tree code texts w lay img s.by s.ok p q s.at [] (part ∷ outer) s.todo)
        (begins_core img p core s.has (length s.stands.frame.lower) s.stands.frame.mark (mark_lies tree code texts w lay p part outer core.below s.stands.frame))
        (begins_front img.stacks p s.stands.frame.lower (s.stands.frame.mark ∷ s.stands.frame.control ∷ s.stands.frame.cells)
        (subst (λ (ws : List Word). Begins_with img.stacks p ws) s.stands.frame.words_are (begins_core img p core s.has)))
        (omega (arith, frame_low tree code texts w lay p part outer core.below s.stands.frame, s.small)))

    abbrev critical : ℕ
    critical = first_on_path w (newest_first 1 w.instances []) p refs

    pub found_critical : (g : Place) × (numbered lay.places critical ≡ Some g) × FirstDown img wanted (place p (length s.stands.frame.lower)) g
    found_critical =
        let newest = newest_there sc w s.ok p q part outer s.at s.todo in
        path_there tree code texts w lay img s.by s.ok refs wanted to back p (newest_own (part ∷ outer)) critical q s.at able_is (length s.stands.frame.lower) tower newest.0 newest.1
        (starts_lie_on_paths sc w p q part outer n gs task s.ok s.at s.todo able_is asks).first

    -- all that it refers to
    pub refers_there : Refers tree code texts actor n gs task callee next waiting at linked.at (linked.at ∷ linked.more) task_found.cell found_critical.0
    refers_there =
        record {
          shows = shown;
          lies = entry_lies;
          links = links_down;
          level_is = level_is;
          couple_fits = couple_fits;
          code_fits = fits;
          few = omega (arith, given_many, simple_many sc b, (nested.nested.each callee known).few);
          has_task = task_found.has;
          first = subst (λ (f : Place). FirstDown img wanted f found_critical.0) from_here found_critical.2;
        }
      where
        from_here : place p (length s.stands.frame.lower) ≡ place core.registers.stack (frame core.registers)
        from_here =
            ap (λ (k : ℕ). place k (length s.stands.frame.lower)) (sym s.has.own)
            ∙ ap (λ (k : ℕ). place core.registers.stack k) (sym (frame_is tree code texts actor))
