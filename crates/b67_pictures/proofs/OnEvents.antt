-- Where an intrinsic is called with the reference of an event: the event's cell in the world and in the image, and the call.
use Rattle.std.proofs.Common.{◌≡◌, sym, ap, ◌∙◌, ℕ, List, [], ◌∷◌, length, Option, Some, true}
use Rattle.b67_pictures.proofs.Prelude.{is_some, PProgram, Scopes, scopes_of, Named, ask, Reference, event, Instance, instance_at, or_no_instance, cell_at, cell_in, followed, Word, as_irw, Intrinsic, Code, one_event, Event, is_open, frame, cell_place, AreNested, Texts, ActsAt, Slot, reference, intrinsic, mark, IsAsked, Top, top_slot, reference_read, named_from, event_there, IsEntered, entered_with, cell_there, EventHome, has_there, Actor, text_in, level_in, context_in, most_in}
use Rattle.b67_events.specs.Events as kernel
use Rattle.b67_scenes.proofs.Calling.{one_lying}
use Rattle.b67_scenes.proofs.EventHomes.{event_home}

module _ (tree : PProgram) (code : Code) (texts : Texts) (nested : AreNested (scopes_of tree)) (actor : Actor tree code texts) where
  open actor use {w, lay, img, part, core, s}

  module _ (name : Intrinsic) (n : Named) (asks : IsAsked (ask part.rest) n) (next : ℕ) (below : List Slot)
      (found : ActsAt (scopes_of tree) (context_in tree code texts w part s.stands.frame.gives) (text_in tree texts w part) (level_in tree w part) (most_in tree w part) name n s.stands.pc next s.stands.slots below) where
    abbrev sc : Scopes
    sc = scopes_of tree

    abbrev pub target : Reference
    target = followed w (named_from (scopes_of tree) w lay part.instance n)

    abbrev slots : List Slot
    slots = reference found.couple ∷ intrinsic name ∷ mark ∷ below

    -- the event's cell in the world and in the image, and the call
    pub record OnEvent : Type 0 where
      pub home : EventHome tree code texts nested actor (followed w (named_from (scopes_of tree) w lay part.instance n)) found.couple
      pub word : Word
      pub reads : as_irw word ≡ Some (record { level = found.couple.level; index = found.couple.index })
      pub call : IsEntered tree code texts actor name (reference found.couple ∷ intrinsic name ∷ mark ∷ below) below found.lies (word ∷ [])

    abbrev IsTop : Type 0
    IsTop = Top sc s.stands.held (level_in tree w part) (frame core.registers) (length core.below) (reference found.couple) (intrinsic name ∷ mark ∷ below) core.words

    pub on_event : OnEvent
    on_event =
        let h : EventHome tree code texts nested actor target found.couple = event_home tree code texts nested actor n found.couple asks found.is_event in
        let t : IsTop =
        top_slot sc s.stands.held (level_in tree w part) (frame core.registers) (length core.below) s.stands.slots (reference found.couple) (intrinsic name ∷ mark ∷ below) core.words s.stands.there.words_are found.lies in
        record {
          home = h;
          word = t.word;
          reads = ap as_irw t.slot_is ∙ reference_read found.couple h.fits.0 h.fits.1;
          call = entered_with tree code texts actor name slots below found.lies
              (one_lying sc s.stands.held (level_in tree w part) (frame core.registers) (length core.below) found.couple (intrinsic name ∷ mark ∷ below) core.words t);
        }

    module _ (o : OnEvent) where
      -- it is open there, as the world has it
      pub open_as : kernel.event_at (cell_place (cell_there tree code texts nested actor o.home.lies o.home.number)) img.events
          ≡ Some (event_there (cell_place (cell_there tree code texts nested actor o.home.lies o.home.number)) o.home.found.cell)
      open_as =
          s.by.events.are_open o.home.lies.found.lies.part.instance o.home.number o.home.found.cell _
          (has_there tree code texts nested actor o.home.lies target.name o.home.number o.home.found)

      pub is_open_there : is_open (cell_place (cell_there tree code texts nested actor o.home.lies o.home.number)) img.events ≡ true
      is_open_there = one_event.found _ img.events ∙ ap (λ (x : Option Event). is_some x) open_as

      -- what the world has there
      pub world_has : cell_at w (followed w (named_from (scopes_of tree) w lay part.instance n)) ≡ event o.home.found.cell
      world_has =
          ap (λ (j : ℕ). cell_in ((instance_at w j).cells) target.name) (sym o.home.lies.found.lies.instance_is)
          ∙ ap (λ (x : Option Instance). cell_in ((or_no_instance x).cells) target.name) o.home.lies.found.lies.owned.framed.is
          ∙ o.home.found.means
