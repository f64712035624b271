-- The making of an event: ENTR on EVENT, after which PUSH makes a cell of its word.
use Rattle.std.proofs.Common.{◌≡◌, ◌≢◌, ◌⊎◌, inl, inr, refl, sym, ap, ◌∙◌, subst, ℕ, ◌+◌, List, [], ◌∷◌, ◌++◌, length, Option, Some, None, Ok, false, arith, length-append}
use Rattle.b67_list.proofs.Lists.{get_within}
use Rattle.b67_table.proofs.Stacks.{get_append}
use Rattle.b67_pictures.proofs.Prelude.{slice_get, EventState, Block, block_numbered, PProgram, Scopes, scopes_of, Named, Ask, makes_event, resume, choice, choice_of, is_evaluation, done, ArrayCell, event, array, NamedCell, Instance, Part, World, or_no_instance, with_instance, with_process, Made, an_event, all_to_make, all_left_to_make, IsOwn, Place, event_word, Code, place, frame, operator_at, simple_cells, made_base, AreNested, Texts, Slot, intrinsic, mark, SlotsAre, CellsAreMade, at_operator, made_many, IsElsewhere, asks_as_own, below_frame, cells_length, Allotted, Layout, AreMade, ArraysAre, HasEvent, EventsAre, Framed, IsEntered, entered_with, operator_there, AbleActor, actor_of, choice_is, text_in, level_in, TheLaws, held_of, Does}
use Rattle.b67_deeds.specs.declared.Letter.TheVariants.{MakeEvent}
use Rattle.b67_deeds.specs.Events.{fresh_state}
use Rattle.b67_events.specs.Events.{event_opened}
use Rattle.b67_ops.specs.declared.Operator.TheVariants as ops
use Rattle.b67_ops.specs.declared.PlainKind.TheVariants as kinds
use Rattle.b67_ops.specs.declared.intrinsic.Intrinsic.TheVariants.{Event}
use Rattle.b67_rows.proofs.MakingAsked.{makes_event_first}
use Rattle.b67_frames.proofs.EventCells.{arrays_still, event_has_none, array_in_front}
use Rattle.b67_frames.proofs.EventRows.{event_raw}
use Rattle.b67_frames.proofs.EventsChanged.{events_made}
use Rattle.b67_frames.proofs.EventsLow.{event_in_frame}
use Rattle.b67_frames.proofs.Lying.{lies_in}
use Rattle.b67_scenes.proofs.Calling.{none_lying}
use Rattle.b67_scenes.proofs.MakingFrame as frames
use Rattle.b67_scenes.proofs.Waiting.{fewer_opened}
use Rattle.b67_pictures.proofs.MakingCells.{none_left, cells_are_made}
use Rattle.b67_pictures.proofs.Head.{Head}

module _ (tree : PProgram) (code : Code) (texts : Texts) (nested : AreNested (scopes_of tree)) (laws : TheLaws) (cells_made : CellsAreMade) (actor : AbleActor tree code texts) where
  open laws use {keeps, order}
  open actor use {w, lay, img, p, q, part, outer, core, s}

  module _ (n : Named) (head : Head tree code texts actor (makes_event n)) where
    open head use {asks, action as a, answered}

    abbrev sc : Scopes
    sc = scopes_of tree

    abbrev i : ℕ
    i = part.instance

    -- the part has the frame's instance for its own
    owns : is_evaluation part.purpose ≡ false
    owns = asks_as_own tree code texts w lay p part outer core.below s.stands.frame (makes_event n) asks (λ e. e)

    abbrev ms : List Made
    ms = an_event n.name ∷ []

    made_first : all_to_make part.rest ≡ ms ++ all_left_to_make part.rest
    made_first = makes_event_first part.rest n asks

    abbrev one : NamedCell
    one = record { name = n.name; cell = event fresh_state }

    -- an event has no rows
    abbrev none_allotted : Allotted
    none_allotted = record { mother = None; parts = [] }

    added : AreMade ms (one ∷ []) (none_allotted ∷ []) (event_word (record {}) ∷ [])
    added = (record { named = refl; cell = fresh_state; is = refl; none = refl; word_is = refl }, tt)

    there : operator_at code core.registers ≡ Ok (ops.Plain kinds.Entr, a.1.made)
    there = operator_there sc s.stands.held code (text_in tree texts w part) (level_in tree w part) s.stands.pc s.stands.slots core (ops.Plain kinds.Entr) a.1.made s.stands.there a.1.stands

    entered : IsEntered tree code texts (actor_of s) Event (intrinsic Event ∷ mark ∷ []) [] a.1.lies []
    entered =
        entered_with tree code texts (actor_of s) Event (intrinsic Event ∷ mark ∷ []) [] a.1.lies
        (none_lying sc s.stands.held (level_in tree w part) (frame core.registers) (length core.below) (intrinsic Event ∷ mark ∷ []) core.words
        (subst (λ (l : List Slot). SlotsAre sc s.stands.held (level_in tree w part) (frame core.registers) (length core.below) l core.words) a.1.lies s.stands.there.words_are))

    none : entered.others ≡ []
    none = none_left sc s.stands.held (level_in tree w part) (frame core.registers) (length core.below) entered.others (entered.after_at a.1.made).words_are

    -- ---- the world after it

    abbrev framed : Framed sc w lay p part.instance outer (length s.stands.frame.lower) s.stands.frame.mark s.stands.frame.control s.stands.frame.cells
    framed = (frames.own_frame tree code texts nested keeps order (actor_of s) owns ms made_first).framed

    abbrev x : Instance
    x = framed.instance

    abbrev b : Block
    b = block_numbered sc.blocks x.block

    abbrev number : ℕ
    number = length framed.declared

    abbrev w' : World
    w' = frames.w' tree code texts nested keeps order (actor_of s) owns ms made_first (one ∷ []) (none_allotted ∷ []) (event_word (record {}) ∷ []) added

    abbrev lay' : Layout
    lay' = frames.lay' tree code texts nested keeps order (actor_of s) owns ms made_first (one ∷ []) (none_allotted ∷ []) (event_word (record {}) ∷ []) added

    chosen : choice sc w p ≡ record { action = MakeEvent; world = w'; released = []; started = None }
    chosen =
        choice_is sc w p q part outer s.at s.todo
        ∙ ap (λ (k : Ask). choice_of sc w p q part outer k) asks
        ∙ ap (λ (o : Option Instance). record {
          action = MakeEvent;
          world = with_process (with_instance w part.instance (record (or_no_instance o) { cells = (or_no_instance o).cells ++ one ∷ [] })) p (record q { todo = record part { rest = resume sc part.rest done } ∷ outer });
          released = [];
          started = None;
        }) framed.is

    -- so many cells it has
    many : length x.cells ≡ length (simple_cells sc b) + number
    many =
        omega (
          arith,
          ap length framed.has,
          length-append framed.simple framed.arrays,
          cells_length (simple_cells sc b) framed.simple framed.values framed.simple_are,
          (made_many framed.declared framed.arrays (lay.rows i) framed.descriptors framed.made).cells_many,
        )

    -- ---- its arrays

    rows_many : length (lay.rows i) ≡ number
    rows_many = (made_many framed.declared framed.arrays (lay.rows i) framed.descriptors framed.made).rows_many

    arrays_now : ArraysAre sc w' lay' img.rows
    arrays_now =
        arrays_still sc w w' lay lay' i (record {
          x = x;
          y = record x { cells = x.cells ++ one ∷ [] };
          there = framed.is;
          now = refl;
          left = refl;
          block = refl;
          elements = (event_has_none x.cells n.name fresh_state).0;
          many = (event_has_none x.cells n.name fresh_state).1;
          was = was;
          others = λ j other. frames.rows_elsewhere tree code texts nested keeps order (actor_of s) owns ms made_first (one ∷ []) (none_allotted ∷ []) (event_word (record {}) ∷ []) added j (λ same. other (sym same));
        }) img.rows s.by.arrays
      where
        was : (k : ℕ) (name : List ℕ) (c : ArrayCell) (al : Allotted) → slice_get (x.cells ++ one ∷ []) (length (simple_cells sc b) + k) ≡ Some (record { name = name; cell = array c }) → slice_get (lay'.rows i) k ≡ Some al →
            (slice_get x.cells (length (simple_cells sc b) + k) ≡ Some (record { name = name; cell = array c })) × (slice_get (lay.rows i) k ≡ Some al)
        was k name c al lies allots =
            let in_front = array_in_front x.cells n.name fresh_state (length (simple_cells sc b) + k) name c lies in
            let low = get_within x.cells (length (simple_cells sc b) + k) (record { name = name; cell = array c }) in_front in (
              in_front,
              sym (get_append (lay.rows i) (none_allotted ∷ []) k (omega (arith, low, many, rows_many)))
                  ∙ ap (λ (as' : List Allotted). slice_get as' k)
                  (sym (frames.rows_here tree code texts nested keeps order (actor_of s) owns ms made_first (one ∷ []) (none_allotted ∷ []) (event_word (record {}) ∷ []) added))
                  ∙ allots,
            )

    -- ---- its events

    abbrev here : Place
    here = place p (length s.stands.frame.lower + (made_base sc b + number))

    -- where the mark lies
    here_is : place core.registers.stack core.registers.f ≡ here
    here_is =
        ap (λ (k : ℕ). place k core.registers.f) s.has.own
        ∙ ap (λ (k : ℕ). place p k)
        (omega (
          arith,
          entered.calls.called.mark_at,
          ap length none,
          below_frame core.below s.stands.frame.lower s.stands.frame.mark s.stands.frame.control s.stands.frame.cells s.stands.frame.words_are,
          frames.cells_many tree code texts nested keeps order (actor_of s) owns ms made_first,
        ))

    -- all others lie below, or in other stacks
    below_here : (j other : ℕ) (e : EventState) (at : Place) → HasEvent sc w lay j other e at → at ≢ here
    below_here j other e at h = by_place (held_of tree code texts w lay img s.by s.ok p q s.at j h.instance h.is h.stands)
      where
        high : length s.stands.frame.lower + (made_base sc b + number) ≡ length core.below
        high =
            omega (
              arith,
              below_frame core.below s.stands.frame.lower s.stands.frame.mark s.stands.frame.control s.stands.frame.cells s.stands.frame.words_are,
              frames.cells_many tree code texts nested keeps order (actor_of s) owns ms made_first,
            )

        by_place : IsOwn q.todo j ⊎ IsElsewhere lay p j → at ≢ here
        by_place (inl own) same =
            let low = event_in_frame tree code texts w lay p (part ∷ outer) j core.below
            (lies_in tree code texts w lay p part outer core s.stands s.around j (subst (λ (ps : List Part). IsOwn ps j) s.todo own)) other e at h in
            omega (arith, low.1, ap (λ (z : Place). z.at) same, high)
        by_place (inr elsewhere) same = elsewhere h.frame h.laid (ap (λ (z : Place). z.stack) (sym h.at_is ∙ same))

    events_now : EventsAre sc w' lay' (event_opened (place core.registers.stack core.registers.f) img.events)
    events_now =
        subst (λ (z : Place). EventsAre sc w' lay' (event_opened z img.events)) (sym here_is)
        (events_made sc w w' lay lay' i (record {
          x = x;
          name = n.name;
          number = number;
          is = framed.is;
          now = refl;
          many = many;
          places = λ j f laid. laid;
          frame = place p (length s.stands.frame.lower);
          laid = framed.laid;
        }) img.events below_here s.by.events)

    -- ---- the action

    pub making_event : Does tree code texts w img p
    making_event =
        cells_are_made tree code texts nested laws cells_made actor (record {
          owns = owns;
          declared = ms;
          makes = made_first;
          new_cells = one ∷ [];
          allotted = none_allotted ∷ [];
          descriptors = event_word (record {}) ∷ [];
          added = added;
          name = Event;
          slots = intrinsic Event ∷ mark ∷ [];
          lies = a.1.lies;
          arguments = [];
          entered = entered;
          made = a.1.made;
          next = a.0;
          stands = a.1.stands;
          push = a.1.push;
          comes = answered done a.0 [] (refl, refl);
          some = omega arith;
          some_room = omega (arith, ap length a.1.lies, s.stands.few);
          rows = img.rows;
          events = event_opened (place core.registers.stack core.registers.f) img.events;
        }) (record {
          arrays_now = arrays_now;
          events_now = events_now;
          fewer = λ m there listed. fewer_opened (place core.registers.stack core.registers.f) img.events m there listed;
          action = MakeEvent;
          acts = refl;
          raw_is = event_raw code (at_operator s.has there) entered.reference entered.marked entered.others none entered.calls;
          chosen = chosen;
        })
