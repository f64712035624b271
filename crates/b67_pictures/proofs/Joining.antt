-- A code in which a program stands whose blocks lie in one another, and which is short and can be listed, is faithful to it.
use Rattle.std.proofs.Common.{◌≡◌, sym, ◌∙◌, ℕ, ◌≤◌, List, [], ◌∷◌, length, Option, None}
use Rattle.b67_pictures.proofs.Prelude.{All, EventDeed, block_numbered, PProgram, PPair, PBody, scopes_of, Kind, Named, reads_element, indexes, leaves, enters, passes, stores, goes_to, enters_block, starts, makes_arrays, makes_event, event_deed, ask, element_of, Given, done, value, cell, Value, Reference, World, instance_at, Part, RestsKeepToTheirText, JumpsKeepToTheirText, first_world_stands, IsOk, IsWholeInstance, Code, Segment, segment_limit, HasNames, AreNested, LiesNested, Texts, ProgramAt, blocks_start, RestsGoOn, blocks_begin, fragments_are_performed, HasFormats, IsShortSegment, Faithful, FramesClose, asks_as_own, frame_gives, block_small, of_own, of_lent, scene_of, Scene, actor_of, outmost_actor, TheLaws, the_laws, narrow_of, Does, NestedProgramsAreFaithful, NestedStacksStayOwn, IsListable, StacksStayOwn}
use Rattle.algol_paths.specs.Laws.{AllIsMadeInOrder}
use Rattle.b67_scenes.proofs.Scene.{able_actor}
use Rattle.algol_tree.specs.Plain as plain
use Rattle.algol_meaning.specs.Rest.{Place, place, entered}
use Rattle.algol_calls.specs.Texts.{HasTexts}
use Rattle.b67_standing.proofs.GoingOn.{rests_go_on}
use Rattle.b67_standing.proofs.Routines.{routines_give_values, routines_give_places}
use Rattle.b67_standing.proofs.Jumping.{jumps_stand}
use Rattle.b67_standing.proofs.Starting.{inner_blocks_start, inner_blocks_follow}
use Rattle.b67_cores.proofs.Performing.{steps_are_performed, steps_come_to_limit}
use Rattle.b67_listing.specs.Listings.{HasOperators}
use Rattle.b67_rows.proofs.Yielding.{no_value, no_element}
use Rattle.b67_rows.proofs.Spelled.{have_texts}
use Rattle.b67_frames.specs.Frames.{Shape}
use Rattle.b67_frames.proofs.Segmenting.{actuals_fit}
use Rattle.b67_scenes.proofs.Scene.{inner_actor}
use Rattle.b67_scenes.proofs.Starting.{first_pictured}
use Rattle.b67_pictures.proofs.Dispatching.{IsDone, OthersAreDone}
use Rattle.b67_pictures.proofs.Settling.{AreFreed, EndsAreFreed, scene_settled}
use Rattle.b67_pictures.proofs.Evaluating.{ActualsAreEntered}
use Rattle.b67_pictures.proofs.Writing.{writing}
use Rattle.b67_pictures.proofs.Selecting.{selecting}
use Rattle.b67_pictures.proofs.EndOfProcess.{ending, ending_frees}
use Rattle.b67_pictures.proofs.BlockEntering.{entering_block}
use Rattle.b67_pictures.proofs.ProcedureEntering.{entering_procedure}
use Rattle.b67_pictures.proofs.EvaluationLeaving.{left_value, left_place}
use Rattle.b67_pictures.proofs.Jumping.{jumping}
use Rattle.b67_pictures.proofs.Leaving.{leaving, leaving_with}
use Rattle.b67_pictures.proofs.Quiet.{SettledAct}
use Rattle.b67_pictures.proofs.Simulating as simulating
use Rattle.b67_pictures.proofs.Simulating.{StandApart, StacksApart}
use Rattle.b67_pictures.proofs.Counting.{operators_are_few}
use Rattle.b67_pictures.proofs.Head.{At}

-- what is done with arrays: an element is read, indexed, or stored, a parameter is passed on, and arrays are made
pub record ArraysAreDone (tree : PProgram) (code : Code) (texts : Texts) : Type 0 where
  pub reading : (n : Named) (ks : List ℕ) (v : Value) → IsDone tree code texts (reads_element n ks v)
  pub indexing : (n : Named) (ks : List ℕ) (v : Value) → IsDone tree code texts (indexes n ks v)
  pub storing : (r : Reference) (ks : List ℕ) (v : Value) → IsDone tree code texts (stores (element_of r ks) v)
  pub passing : (n : Named) → IsDone tree code texts (passes n)
  pub making : (kind : Kind) (ns : List Named) (pairs : List PPair) (vs : List Value) → IsDone tree code texts (makes_arrays kind ns pairs vs)

-- what is done with events: one is made, told or acted on, and whom an operator releases that acts on one
pub record EventsAreDone (tree : PProgram) (code : Code) (texts : Texts) : Type 0 where
  pub making : (n : Named) → IsDone tree code texts (makes_event n)
  pub acting : (x : EventDeed) (ns : List Named) → IsDone tree code texts (event_deed x ns)
  pub freeing : AreFreed tree code texts

-- what is done with processes: one is started
abbrev pub ProcessesAreDone : PProgram → Code → Texts → Type 0
ProcessesAreDone tree code texts = (n : Named) (gs : List Given) (task : Option Named) → IsDone tree code texts (starts n gs task)

-- What is done with arrays, with events and with processes.
pub record AreAllDone (tree : PProgram) (code : Code) (at : ProgramAt code tree) : Type 0 where
  pub arrays : ArraysAreDone tree code at.texts
  pub events : EventsAreDone tree code at.texts
  pub processes : ProcessesAreDone tree code at.texts

module _ (keeps : RestsKeepToTheirText) (order : AllIsMadeInOrder) (jumps_keep : JumpsKeepToTheirText) (closing : FramesClose) (tree : PProgram) (code : Code) (names : HasNames tree) (lies : LiesNested tree) (fit : HasTexts tree)
    (short : IsShortSegment tree code) (segments : All (λ (segment : Segment). length segment.words ≤ segment_limit) code.segments) (at : ProgramAt code tree) (apart : StandApart tree code at.texts)
    (done_there : AreAllDone tree code at) where
  open done_there use {arrays, events, processes}

  abbrev laws : TheLaws
  laws = the_laws fragments_are_performed keeps order

  abbrev texts : Texts
  texts = at.texts

  -- a block or a procedure is left, or the process ends
  leaves_done : IsDone tree code texts (leaves done)
  leaves_done actor h = by actor.outer actor.s h.asks h.action
    where
      by : (outer : List Part) (s : Scene tree code texts actor.w actor.lay actor.img actor.p actor.q actor.part outer actor.bound actor.core) → ask actor.part.rest ≡ leaves done → At tree code texts (actor_of s) (leaves done) →
          Does tree code texts actor.w actor.img actor.p
      by [] s asks a =
          ending tree code texts closing (outmost_actor s) (asks_as_own tree code texts actor.w actor.lay actor.p actor.part [] actor.core.below s.stands.frame (leaves done) asks (λ e. e)) actor.able_is asks a
      by (next ∷ parts) s asks a =
          leaving tree code texts (have_texts tree code at) laws closing (inner_actor s) actor.able_is actor.able_p
          (asks_as_own tree code texts actor.w actor.lay actor.p actor.part (next ∷ parts) actor.core.below s.stands.frame (leaves done) asks (λ e. e)) asks a

  -- of the outermost part no value is wanted
  gives_back : (v : Value) → IsDone tree code texts (leaves (value v))
  gives_back v actor h = by actor.outer actor.s h.asks h.action
    where
      by : (outer : List Part) (s : Scene tree code texts actor.w actor.lay actor.img actor.p actor.q actor.part outer actor.bound actor.core) → ask actor.part.rest ≡ leaves (value v) → At tree code texts (actor_of s) (leaves (value v)) →
          Does tree code texts actor.w actor.img actor.p
      by [] s asks a = no_value a.0 (sym s.around.1 ∙ a.2)
      by (next ∷ parts) s asks a = by_shape s.stands.frame.shape
        where
          by_shape : Shape tree code texts actor.w actor.lay actor.p actor.part (next ∷ parts) (length s.stands.frame.lower) s.stands.frame.mark s.stands.frame.control s.stands.frame.cells s.stands.frame.home s.stands.frame.gives →
              Does tree code texts actor.w actor.img actor.p
          by_shape (of_own o is) =
              leaving_with tree code texts (have_texts tree code at) laws closing (inner_actor s) actor.able_is actor.able_p o.owns v asks a
          by_shape (of_lent l) = left_value tree code texts (have_texts tree code at) laws (inner_actor s) actor.able_is actor.able_p l v asks a

  -- no block gives a place, but an evaluation does
  gives_place : (x : Place) → IsDone tree code texts (leaves (place x))
  gives_place x actor h = by actor.outer actor.s h.asks h.action
    where
      by : (outer : List Part) (s : Scene tree code texts actor.w actor.lay actor.img actor.p actor.q actor.part outer actor.bound actor.core) → ask actor.part.rest ≡ leaves (place x) → At tree code texts (actor_of s) (leaves (place x)) →
          Does tree code texts actor.w actor.img actor.p
      by [] s asks a = no_element None a.0 (sym s.around.1 ∙ a.2)
      by (next ∷ parts) s asks a = by_shape s.stands.frame.shape
        where
          by_shape : Shape tree code texts actor.w actor.lay actor.p actor.part (next ∷ parts) (length s.stands.frame.lower) s.stands.frame.mark s.stands.frame.control s.stands.frame.cells s.stands.frame.home s.stands.frame.gives →
              Does tree code texts actor.w actor.img actor.p
          by_shape (of_own o is) =
              no_element (block_numbered (scopes_of tree).blocks ((instance_at actor.w actor.part.instance).block)).result a.0
              (sym (frame_gives tree code texts actor.w actor.lay actor.p actor.part (next ∷ parts) actor.core.below s.stands.frame o.owns) ∙ a.2)
          by_shape (of_lent l) = left_place tree code texts (have_texts tree code at) laws (inner_actor s) actor.able_is actor.able_p l lies.nested x asks a

  -- the end of a process that has a task
  ends_freed : EndsAreFreed tree code texts
  ends_freed actor alive task has done asks a =
      ending_frees tree code texts closing actor (asks_as_own tree code texts actor.w actor.lay actor.p actor.part [] actor.core.below actor.s.stands.frame (leaves done) asks (λ e. e)) alive asks a task has
  ends_freed actor alive task has (value v) asks a = no_value a.0 (sym actor.s.around.1 ∙ a.2)
  ends_freed actor alive task has (place x) asks a = no_element None a.0 (sym actor.s.around.1 ∙ a.2)
  ends_freed actor alive task has (cell c) asks a = absurd a
  ends_freed actor alive task has entered asks a = absurd a

  enters_done : (b : PBody) → IsDone tree code texts (enters_block b)
  enters_done (plain.body spot ds ss) actor h =
      entering_block tree code texts lies short laws blocks_begin inner_blocks_start inner_blocks_follow actor spot ds ss h

  calls_done : (n : Named) (gs : List Given) → IsDone tree code texts (enters n gs)
  calls_done n gs actor h =
      entering_procedure tree code at lies short (block_small tree names) laws blocks_begin blocks_start actor n gs h

  goes_done : (n : Named) → IsDone tree code texts (goes_to n)
  goes_done n actor h =
      jumping tree code texts (record {
        lies = lies;
        named = names;
        stand = have_texts tree code at;
        labels = at.labels;
        short = segments;
        jump = jumps_stand;
        closing = closing;
      }) fragments_are_performed keeps jumps_keep actor n h.asks h.action

  others : OthersAreDone tree code texts
  others =
      record {
        writing = λ ts vs actor h.
            writing tree code texts laws actor ts vs h;
        selecting = λ v ss actor h.
            selecting tree code texts laws segments actor v ss h;
        entering = enters_done;
        calling = calls_done;
        reading = arrays.reading;
        indexing = arrays.indexing;
        storing = arrays.storing;
        passing = arrays.passing;
        making = arrays.making;
        making_event = events.making;
        acting = events.acting;
        leaving = leaves_done;
        returning = gives_back;
        placing = gives_place;
        going = goes_done;
        starting = processes;
      }

  -- the code of an actual is entered
  actuals_are_entered : ActualsAreEntered tree code texts
  actuals_are_entered =
      record {
        short = short;
        stand = have_texts tree code at;
        values = routines_give_values;
        places = routines_give_places;
        have_room = actuals_fit tree names lies.nested;
      }

  settled_act : (w : World) → IsOk (scopes_of tree) IsWholeInstance w → SettledAct tree code texts w
  settled_act w ok lay img p q by at_p able_is able_p l has =
      let s = scene_of tree code texts w lay img p q (narrow_of tree code texts w lay img by ok p q at_p) ok by at_p l has in
      scene_settled tree code texts lies actuals_are_entered laws rests_go_on others events.freeing ends_freed (able_actor s.2 able_is able_p)

  program_is_faithful : HasFormats tree code → IsListable code → Faithful tree code
  program_is_faithful formats =
      simulating.code_is_faithful tree code texts steps_are_performed steps_come_to_limit fit.texts settled_act fit.outer apart
      (λ w lay a by b p n plains. operators_are_few tree code texts w lay a by b p n plains)
      (first_pictured tree code names lies.nested at laws blocks_begin blocks_start (first_world_stands (scopes_of tree) fit.outer)) at.many formats short

  program_stacks_stay : StacksApart tree code at.texts → StacksStayOwn code
  program_stacks_stay stacks =
      simulating.stacks_stay tree code texts steps_are_performed steps_come_to_limit fit.texts settled_act fit.outer apart
      (λ w lay a by b p n plains. operators_are_few tree code texts w lay a by b p n plains)
      (first_pictured tree code names lies.nested at laws blocks_begin blocks_start (first_world_stands (scopes_of tree) fit.outer)) stacks

-- segments that can be listed have no more words than a segment may have
within_limit : (segments : List Segment) → All HasOperators segments → All (λ (segment : Segment). length segment.words ≤ segment_limit) segments
within_limit segments all k first inside = (all k first inside).1.few

-- the processes of a picture stand apart
abbrev pub ProcessesStandApart : Type 0
ProcessesStandApart = (tree : PProgram) (code : Code) (texts : Texts) → AreNested (scopes_of tree) → RestsGoOn → StandApart tree code texts

-- Where the blocks of a program lie in one another, a code in which it stands is faithful to it.
pub nested_programs_follow : RestsKeepToTheirText → AllIsMadeInOrder → JumpsKeepToTheirText → FramesClose → ProcessesStandApart →
    ((tree : PProgram) (code : Code) (at : ProgramAt code tree) → LiesNested tree → IsShortSegment tree code → ArraysAreDone tree code at.texts) →
    ((tree : PProgram) (code : Code) (at : ProgramAt code tree) → LiesNested tree → EventsAreDone tree code at.texts) →
    ((tree : PProgram) (code : Code) (at : ProgramAt code tree) → LiesNested tree → HasNames tree → IsShortSegment tree code → ProcessesAreDone tree code at.texts) → NestedProgramsAreFaithful
nested_programs_follow keeps in_order jumps_keep closing apart arrays events processes tree code lies names fit at formats short listable =
    program_is_faithful keeps in_order jumps_keep closing tree code names lies fit short (within_limit code.segments listable.segments) at (apart tree code at.texts lies.nested rests_go_on) (record {
      arrays = arrays tree code at lies short;
      events = events tree code at lies;
      processes = processes tree code at lies names short;
    }) formats listable

-- .. and its stacks stay own
pub nested_stacks_stay : RestsKeepToTheirText → AllIsMadeInOrder → JumpsKeepToTheirText → FramesClose → ProcessesStandApart →
    ((tree : PProgram) (code : Code) (texts : Texts) → AreNested (scopes_of tree) → RestsGoOn → StacksApart tree code texts) →
    ((tree : PProgram) (code : Code) (at : ProgramAt code tree) → LiesNested tree → IsShortSegment tree code → ArraysAreDone tree code at.texts) →
    ((tree : PProgram) (code : Code) (at : ProgramAt code tree) → LiesNested tree → EventsAreDone tree code at.texts) →
    ((tree : PProgram) (code : Code) (at : ProgramAt code tree) → LiesNested tree → HasNames tree → IsShortSegment tree code → ProcessesAreDone tree code at.texts) → NestedStacksStayOwn
nested_stacks_stay keeps in_order jumps_keep closing apart stacks arrays events processes tree code lies names fit at formats short listable =
    program_stacks_stay keeps in_order jumps_keep closing tree code names lies fit short (within_limit code.segments listable.segments) at (apart tree code at.texts lies.nested rests_go_on) (record {
      arrays = arrays tree code at lies short;
      events = events tree code at lies;
      processes = processes tree code at lies names short;
    })
    (stacks tree code at.texts lies.nested rests_go_on)
