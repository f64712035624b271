-- The passing of a parameter that stands for an array, for an event, for a variable or for an actual: what its cell has is given on.
use Rattle.std.proofs.Common.{◌≡◌, inl, refl, sym, ap, ◌∙◌, subst, ℕ, ◌+◌, ◌≤◌, List, ◌∷◌, length, Some, Ok, arith}
use Rattle.b67_pictures.proofs.Prelude.{PProgram, Scopes, scopes_of, Kind, Named, Ask, passes, ask, choice_of, goes, cell, Cell, Reference, World, instance_at, cell_at, Shape, BlockIsSeen, IsSeenAround, IsInner, Word, Place, as_irw, as_sirw, Sirw, Placed, Code, word_at, place, frame, display_at, operator_at, Wanted, ShapeAgrees, AreNested, Texts, Slot, reference as reference_slot, descriptor, passed as passed_held, Core, with_core, Known, newest, CoreAt, array_asked, array_seen, at_operator, action_not_plain, action_is, Top, top_slot, with_other, NearCell, makes, unmade, reference_read, Layout, ReferenceLeadsTo, Denotes, named_from, IsInReach, array_index, cell_there, operator_there, NameCellHome, NameStands, for_variable, for_actual, LeadsOn, leads_on, name_stands, AbleActor, Actor, actor_of, choice_is, text_in, level_in, context_in, most_in, TheLaws, Does}
use Rattle.algol_meaning.specs.Value as cells
use Rattle.algol_meaning.specs.Value.{reference}
use Rattle.b67_deeds.specs.declared.Letter.TheVariants.{Pass}
use Rattle.b67_ops.specs.declared.Operator.TheVariants as ops
use Rattle.b67_ops.specs.declared.PlainKind.TheVariants as kinds
use Rattle.b67_table.specs.Effect as effects
use Rattle.b67_table.specs.Outcome as outcomes
use Rattle.b67_templates.specs.Cells as wants
use Rattle.b67_standing.specs.Standing.{IsPassed, Passable, array_passed, name_passed, event_passed, PassesAt}
use Rattle.b67_rows.proofs.PassRow.{pass_raw, pass_class}
use Rattle.b67_scenes.proofs.EventHomes.{FormalEvent, formal_event_there}
use Rattle.b67_scenes.proofs.FormalHomes.{FormalHome, formal_home}
use Rattle.b67_pictures.proofs.Indexing.{more_known}
use Rattle.b67_pictures.proofs.InFrame.{does_in_frame}
use Rattle.b67_pictures.proofs.Head.{Head}

-- a reference that leads to an array leads to it for each shape with which all agree that agree with the first
leads_so : (sc : Scopes) (w : World) (lay : Layout) (Stand : ℕ → Type 0) (shape shape' : Shape) → ((a : Shape) → ShapeAgrees shape a → ShapeAgrees shape' a) → (r : Reference) (word : Word) →
    ReferenceLeadsTo sc w lay Stand shape r word → ReferenceLeadsTo sc w lay Stand shape' r word
leads_so sc w lay Stand shape shape' agree r word h =
    record {
      own = h.own;
      declared = h.declared;
      agrees = agree _ h.agrees;
      cell = h.cell;
      allotted = h.allotted;
      array = h.array;
      frame = h.frame;
      laid = h.laid;
      word_is = h.word_is;
    }

-- ---- what a process finds that stands at LODT

module _ (tree : PProgram) (code : Code) (texts : Texts) (nested : AreNested (scopes_of tree)) (actor : Actor tree code texts) where
  open actor use {w, lay, img, p, part, outer, core, s}

  module _ (n : Named) (asks : ask part.rest ≡ passes n) (wanted : Wanted) (next : ℕ) (below : List Slot)
      (found : PassesAt (scopes_of tree) (context_in tree code texts w part s.stands.frame.gives) (text_in tree texts w part) (level_in tree w part) (most_in tree w part) n wanted s.stands.pc next s.stands.slots below) where
    abbrev block : ℕ
    block = (instance_at w part.instance).block

    -- What the parameter's cell has stands for what is wanted; on top lies the reference to that cell.
    pub record FindsFormal : Type 0 where
      pub given : Cell
      pub cell_is : cell_at w (named_from (scopes_of tree) w lay part.instance n) ≡ given
      pub word : Word
      pub denotes : Denotes (scopes_of tree) w lay (IsInReach w (part ∷ outer)) wanted given word
      pub may_pass : IsPassed wanted given
      pub other : Sirw
      pub refers : as_sirw word ≡ Some other
      pub at : Place
      pub near : NearCell p img (record { frame = at; index = found.couple.index })
      pub shown : display_at core.registers found.couple.level ≡ Some at
      pub lies : word_at img.stacks (place at.stack (at.at + found.couple.index)) ≡ Some word
      pub top : Top (scopes_of tree) s.stands.held (level_in tree w part) (frame core.registers) (length core.below) (reference_slot found.couple) below core.words
      pub names : as_irw top.word ≡ Some (record { level = found.couple.level; index = found.couple.index })

    seen : BlockIsSeen (scopes_of tree) block n
    seen =
        (array_seen (BlockIsSeen (scopes_of tree) block) n (IsInner (scopes_of tree) block) (IsSeenAround (scopes_of tree) block) (λ (around_it : IsSeenAround (scopes_of tree) block n). around_it.0) part.rest
        (ap array_asked asks) s.stands.frame.text).seen

    on_top : Top (scopes_of tree) s.stands.held (level_in tree w part) (frame core.registers) (length core.below) (reference_slot found.couple) below core.words
    on_top =
        top_slot (scopes_of tree) s.stands.held (level_in tree w part) (frame core.registers) (length core.below) s.stands.slots (reference_slot found.couple) below core.words
        s.stands.there.words_are found.lies

    -- an array that agrees with what is wanted
    finds_array : (shape actual : Shape) → wanted ≡ wants.array shape → ShapeAgrees shape actual → FormalHome tree code texts nested actor n actual found.couple → FindsFormal
    finds_array shape actual e agrees h =
        record {
          given = reference h.r;
          cell_is = h.cell_is;
          word = h.home.word;
          denotes = subst (λ (o : Wanted). Denotes (scopes_of tree) w lay (IsInReach w (part ∷ outer)) o (reference h.r) h.home.word) (sym e)
              (leads_so (scopes_of tree) w lay (IsInReach w (part ∷ outer)) actual shape (λ b is. (is.0 ∙ agrees.0, is.1 ∙ agrees.1)) h.r h.home.word h.leads);
          may_pass = subst (λ (o : Wanted). IsPassed o (reference h.r)) (sym e) tt;
          other = record { stack = h.target.at.stack; displacement = h.target.at.at; index = array_index tree code texts actor h.r.instance h.leads.array.number };
          refers = h.reads;
          at = h.home.at;
          near = h.home.near;
          shown = h.home.shown;
          lies = h.home.lies;
          top = on_top;
          names = ap as_irw on_top.slot_is ∙ reference_read found.couple h.home.fits.0 h.home.fits.1;
        }

    -- an event
    finds_event : wanted ≡ wants.event → FormalEvent tree code texts nested actor n found.couple → FindsFormal
    finds_event e h =
        record {
          given = reference h.r;
          cell_is = h.cell_is;
          word = h.home.word;
          denotes = subst (λ (o : Wanted). Denotes (scopes_of tree) w lay (IsInReach w (part ∷ outer)) o (reference h.r) h.home.word) (sym e) h.leads;
          may_pass = subst (λ (o : Wanted). IsPassed o (reference h.r)) (sym e) tt;
          other = record { stack = h.lies.found.number; displacement = length h.lies.found.lies.frame.lower; index = (cell_there tree code texts nested actor h.lies h.leads.made.number).index };
          refers = h.refers;
          at = h.home.at;
          near = h.home.near;
          shown = h.home.shown;
          lies = h.home.lies;
          top = on_top;
          names = ap as_irw on_top.slot_is ∙ reference_read found.couple h.home.fits.0 h.home.fits.1;
        }

    -- a variable of that kind, or an actual
    finds_so : (kind : Kind) → wanted ≡ wants.by_name kind → (home : NameCellHome tree code texts nested actor n kind found.couple)
        (given : Cell) → cell_at w (named_from (scopes_of tree) w lay part.instance n) ≡ given → Denotes (scopes_of tree) w lay (IsInReach w (part ∷ outer)) (wants.by_name kind) given home.word → IsPassed (wants.by_name kind) given →
        LeadsOn tree code texts nested actor home.word → FindsFormal
    finds_so kind e home given is denotes may on =
        record {
          given = given;
          cell_is = is;
          word = home.word;
          denotes = subst (λ (o : Wanted). Denotes (scopes_of tree) w lay (IsInReach w (part ∷ outer)) o given home.word) (sym e) denotes;
          may_pass = subst (λ (o : Wanted). IsPassed o given) (sym e) may;
          other = record { stack = on.at.stack; displacement = on.at.at; index = on.index };
          refers = on.refers;
          at = home.at;
          near = home.near;
          shown = home.shown;
          lies = home.lies;
          top = on_top;
          names = ap as_irw on_top.slot_is ∙ reference_read found.couple home.fits.0 home.fits.1;
        }

    abbrev IsNamedThere : Kind → Type 0
    IsNamedThere kind = NameStands tree code texts nested actor n kind found.couple

    finds_name : (kind : Kind) → wanted ≡ wants.by_name kind → IsNamedThere kind → FindsFormal
    finds_name kind e (for_variable h) =
        finds_so kind e h.home (reference h.r) h.cell_is h.denotes tt (leads_on tree code texts nested actor n kind found.couple (for_variable h))
    finds_name kind e (for_actual h) =
        finds_so kind e h.home (cells.named h.a) h.cell_is h.denotes tt (leads_on tree code texts nested actor n kind found.couple (for_actual h))

    pub finds_formal : FindsFormal
    finds_formal = by_passable wanted found.passable refl
      where
        by_passable : (o : Wanted) → Passable (scopes_of tree) (context_in tree code texts w part s.stands.frame.gives) (text_in tree texts w part) (level_in tree w part) (most_in tree w part) n found.couple o → wanted ≡ o → FindsFormal
        by_passable o (array_passed shape actual is agrees) e = finds_array shape actual e agrees (formal_home tree code texts nested actor n actual found.couple seen is)
        by_passable o (event_passed is) e = finds_event e (formal_event_there tree code texts nested actor n found.couple seen is)
        by_passable o (name_passed kind is) e = finds_name kind e (name_stands tree code texts nested actor n kind found.couple seen is)

-- ---- the action

module _ (tree : PProgram) (code : Code) (texts : Texts) (nested : AreNested (scopes_of tree)) (laws : TheLaws) (actor : AbleActor tree code texts) where
  open actor use {w, img, p, q, part, outer, core, s}

  module _ (n : Named) (head : Head tree code texts actor (passes n)) where
    open head use {asks, action as a, answered}

    abbrev sc : Scopes
    sc = scopes_of tree

    abbrev level : ℕ
    level = level_in tree w part

    abbrev text : List Placed
    text = text_in tree texts w part

    abbrev wanted : Wanted
    wanted = a.0

    abbrev next : ℕ
    next = a.1

    abbrev below : List Slot
    below = a.2

    abbrev found : PassesAt sc (context_in tree code texts w part s.stands.frame.gives) text level (most_in tree w part) n wanted s.stands.pc next s.stands.slots below
    found = a.3

    there : operator_at code core.registers ≡ Ok (ops.Plain kinds.Lodt, next)
    there = operator_there sc s.stands.held code text level s.stands.pc s.stands.slots core (ops.Plain kinds.Lodt) next s.stands.there found.stands

    module _ (f : FindsFormal tree code texts nested (actor_of s) n asks wanted next below found) where
      abbrev one : Known
      one = record { held = passed_held wanted f.given; word = f.word }

      abbrev new : Core
      new = with_other core f.word f.top.words_below next

      core_at : CoreAt sc (one ∷ s.stands.held) code text level next (descriptor (passed_held wanted f.given) ∷ below) new
      core_at =
          record {
            segment = s.stands.there.segment;
            there = s.stands.there.there;
            spells = s.stands.there.spells;
            level_is = s.stands.there.level_is;
            place_is = refl;
            is = record { bottom = s.has.is.bottom; top = omega (arith, s.has.is.top, ap length f.top.is) };
            mark_is = s.stands.there.mark_is ∙ ap (newest (frame core.registers) (length core.below)) found.lies;
            words_are = (inl (refl, refl), more_known s.stands.held one sc level (frame core.registers) (length core.below) below f.top.words_below f.top.are);
          }

      few : length (descriptor (passed_held wanted f.given) ∷ below) ≤ most_in tree w part
      few = omega (arith, ap length found.lies, s.stands.few)

      passing_does : Does tree code texts w img p
      passing_does =
          does_in_frame tree code texts laws actor (record {
            unmade = unmade part.rest (ap makes asks);
            answer = cell f.given;
            nameless = tt;
            new = new;
            below = refl;
            frame_is = record { is = refl };
            known = one ∷ s.stands.held;
            known_are = (f.denotes, s.stands.held_are);
            pc = next;
            slots = descriptor (passed_held wanted f.given) ∷ below;
            there = core_at;
            few = few;
            comes = answered (cell f.given) next (descriptor (passed_held wanted f.given) ∷ below) (refl, refl, f.may_pass);
          }) w.output Pass
          (action_not_plain code (ops.Plain kinds.Lodt) (at_operator s.has there)
          (pass_class code (at_operator s.has there) f.top.word f.top.words_below f.top.is found.couple.level found.couple.index f.names f.at f.shown f.word f.lies
          f.other f.refers))
          (pass_raw code (at_operator s.has there) f.top.word f.top.words_below f.top.is found.couple.level found.couple.index f.names f.at f.shown f.word f.lies
          f.other f.refers
          ∙ ap (λ (o : List (List ℕ)). effects.gives (record (with_core img p new) { output = o })) s.by.output)
          (choice_is sc w p q part outer s.at s.todo
          ∙ ap (λ (k : Ask). choice_of sc w p q part outer k) asks
          ∙ ap (λ (c : Cell). goes sc w p q part outer Pass w (cell c)) f.cell_is)
          (λ t. action_is code (ops.Plain kinds.Lodt) (at_operator s.has there) (outcomes.gives (record (with_core img p new) { output = w.output })) t)

    pub passing : Does tree code texts w img p
    passing = passing_does (finds_formal tree code texts nested (actor_of s) n asks wanted next below found)
