-- A parameter by name is resolved. Of one that stands for a variable, the reference to the variable's cell comes in place of that to the parameter's.
-- An actual that is not subscripted has no place: that is a fault.
use Rattle.std.proofs.Common.{◌≡◌, inl, refl, sym, ap, ◌∙◌, subst, ℕ, ◌+◌, ◌≤◌, List, [], ◌∷◌, length, Option, Some, None, Bool, true, false, Ok, arith}
use Rattle.b67_pictures.proofs.Prelude.{if◌then◌else◌, NotAVariable, Fault, PProgram, Scopes, scopes_of, Kind, Named, Ask, resolves, ask, located_of, Choice, choice, choice_of, resolved_of, is_subscripted, opens, fails, settle_actual_place, Cell, name_place, World, instance_at, BlockIsSeen, IsSeenAround, IsInner, Word, Place, as_pcw_pcw_word, as_irw, as_sirw, pcw_word, Irw, Pcw, Couple, Placed, Code, place, failed, frame, display_at, cell_word, irw_or_sirw, cell_of, operator_at, AreNested, Texts, Slot, reference as reference_slot, descriptor, variable, Core, with_core, Known, newest, CoreAt, array_asked, array_seen, at_operator, place_reached_class, Reaches, reached_through, action_not_plain, fault_not_plain, action_is, Top, top_slot, with_other, makes, unmade, value_tag, no_sirw, no_pcw, pcw_refers_nothing, reference_read, LeadsToVariable, IsInReach, routine_of, Found, operator_there, NameCellHome, NameHome, ActualNamed, NameStands, for_variable, for_actual, name_stands, AbleActor, Actor, actor_of, faults_so, choice_is, faulted, text_in, level_in, context_in, most_in, TheLaws, VariableHome, Pictures, Does, failed_by}
use Rattle.algol_meaning.specs.Rest as rests
use Rattle.algol_meaning.specs.Rest.{place as given_place}
use Rattle.b67_deeds.specs.declared.Letter.TheVariants.{Resolve}
use Rattle.b67_ops.specs.declared.Operator.TheVariants as ops
use Rattle.b67_ops.specs.declared.PlainKind.TheVariants as kinds
use Rattle.b67_table.specs.declared.Cell as cells
use Rattle.b67_table.specs.Effect as effects
use Rattle.b67_table.specs.Outcome as outcomes
use Rattle.b67_table.specs.References.{cell_in}
use Rattle.b67_table.specs.Table.{table}
use Rattle.b67_standing.specs.Standing.{ResolvesAt}
use Rattle.b67_rows.proofs.PlaceRow.{place_left_raw, place_left_letter, no_place_raw}
use Rattle.b67_scenes.proofs.ActualHomes.{same_place}
use Rattle.b67_pictures.proofs.Indexing.{more_known}
use Rattle.b67_pictures.proofs.InFrame.{does_in_frame}
use Rattle.b67_pictures.proofs.Head.{Head}

-- ---- what a process finds that stands at EVAL

module _ (tree : PProgram) (code : Code) (texts : Texts) (nested : AreNested (scopes_of tree)) (actor : Actor tree code texts) where
  open actor use {w, part, core, s}

  module _ (n : Named) (asks : ask part.rest ≡ resolves n) (kind : Kind) (next : ℕ) (below : List Slot)
      (found : ResolvesAt (scopes_of tree) (context_in tree code texts w part s.stands.frame.gives) (text_in tree texts w part) (level_in tree w part) (most_in tree w part) n kind s.stands.pc next s.stands.slots below) where
    abbrev block : ℕ
    block = (instance_at w part.instance).block

    -- what the parameter stands for
    pub resolved_name : NameStands tree code texts nested actor n kind found.couple
    resolved_name =
        let sc : Scopes = scopes_of tree in
        let seen : BlockIsSeen sc block n = (array_seen (BlockIsSeen sc block) n (IsInner sc block) (IsSeenAround sc block) (λ (around_it : IsSeenAround sc block n). around_it.0) part.rest (ap array_asked asks) s.stands.frame.text).seen in
        name_stands tree code texts nested actor n kind found.couple seen found.is_formal

    -- on top the reference to its cell
    pub record FindsName : Type 0 where
      pub top : Top (scopes_of tree) s.stands.held (level_in tree w part) (frame core.registers) (length core.below) (reference_slot found.couple) below core.words
      pub names : as_irw top.word ≡ Some (record { level = found.couple.level; index = found.couple.index })

    pub finds_name : NameCellHome tree code texts nested actor n kind found.couple → FindsName
    finds_name home =
        let t : Top (scopes_of tree) s.stands.held (level_in tree w part) (frame core.registers) (length core.below) (reference_slot found.couple) below core.words =
        top_slot (scopes_of tree) s.stands.held (level_in tree w part) (frame core.registers) (length core.below) s.stands.slots (reference_slot found.couple) below core.words s.stands.there.words_are found.lies in
        record { top = t; names = ap as_irw t.slot_is ∙ reference_read found.couple home.fits.0 home.fits.1 }

-- ---- the action

module _ (tree : PProgram) (code : Code) (texts : Texts) (nested : AreNested (scopes_of tree)) (laws : TheLaws) (actor : AbleActor tree code texts) where
  open actor use {w, lay, img, p, q, part, outer, core, s}

  module _ (n : Named) (head : Head tree code texts actor (resolves n)) where
    open head use {asks, action as a, answered}

    abbrev sc : Scopes
    sc = scopes_of tree

    abbrev level : ℕ
    level = level_in tree w part

    abbrev text : List Placed
    text = text_in tree texts w part

    abbrev kind : Kind
    kind = a.0

    abbrev next : ℕ
    next = a.1

    abbrev below : List Slot
    below = a.2

    abbrev couple : Couple
    couple = a.3.couple

    there : operator_at code core.registers ≡ Ok (ops.Plain kinds.Eval, next)
    there = operator_there sc s.stands.held code text level s.stands.pc s.stands.slots core (ops.Plain kinds.Eval) next s.stands.there a.3.stands

    abbrev Finds : Type 0
    Finds = FindsName tree code texts nested (actor_of s) n asks kind next below a.3

    -- the cell that the reference on top names
    named_on_top : (f : Finds) (at : Place) → display_at core.registers couple.level ≡ Some at → cell_of core.registers f.top.word ≡ Some (record { frame = at; index = couple.index })
    named_on_top f at shown =
        ap (λ (o : Option Irw). irw_or_sirw core.registers o (as_sirw f.top.word)) f.names
        ∙ ap (λ (o : Option Place). cell_in o couple.index) shown

    -- ---- of a variable

    module _ (h : NameHome tree code texts nested (actor_of s) n kind couple) (f : Finds) where
      abbrev v : VariableHome tree code texts (actor_of s) h.r kind h.denotes.found
      v = h.named.home

      abbrev found_there : Found tree code texts w lay img h.r.instance
      found_there = v.seen_there.found

      abbrev at : ℕ
      at = length found_there.lies.frame.lower

      abbrev from : cells.Cell
      from = record { frame = h.home.at; index = couple.index }

      abbrev to : cells.Cell
      to = record { frame = place found_there.number at; index = 2 + v.number }

      named : cell_of core.registers f.top.word ≡ Some from
      named = named_on_top f h.home.at h.home.shown

      tag : v.word.tag ≡ 0
      tag = value_tag v.value v.word v.word_is

      reaches : Reaches img.stacks from v.word to
      reaches =
          reached_through img.stacks from h.home.word (record { stack = found_there.number; displacement = at; index = 2 + v.number }) v.word h.home.lies h.named.reads v.word_lies (no_sirw v.word tag)

      leads : LeadsToVariable sc w lay (IsInReach w (part ∷ outer)) kind h.r (cell_word to)
      leads = subst (λ (x : Word). LeadsToVariable sc w lay (IsInReach w (part ∷ outer)) kind h.r x) h.named.word_is h.denotes

      abbrev one : Known
      one = record { held = variable h.r kind; word = cell_word to }

      abbrev new : Core
      new = with_other core (cell_word to) f.top.words_below next

      core_at : CoreAt sc (one ∷ s.stands.held) code text level next (descriptor (variable h.r kind) ∷ below) new
      core_at =
          record {
            segment = s.stands.there.segment;
            there = s.stands.there.there;
            spells = s.stands.there.spells;
            level_is = s.stands.there.level_is;
            place_is = refl;
            is = record { bottom = s.has.is.bottom; top = omega (arith, s.has.is.top, ap length f.top.is) };
            mark_is = s.stands.there.mark_is ∙ ap (newest (frame core.registers) (length core.below)) a.3.lies;
            words_are = (inl (refl, refl), more_known s.stands.held one sc level (frame core.registers) (length core.below) below f.top.words_below f.top.are);
          }

      few : length (descriptor (variable h.r kind) ∷ below) ≤ most_in tree w part
      few = omega (arith, ap length a.3.lies, s.stands.few)

      resolving_does : Does tree code texts w img p
      resolving_does =
          does_in_frame tree code texts laws actor (record {
            unmade = unmade part.rest (ap makes asks);
            answer = given_place (rests.there h.r);
            nameless = tt;
            new = new;
            below = refl;
            frame_is = record { is = refl };
            known = one ∷ s.stands.held;
            known_are = (leads, s.stands.held_are);
            pc = next;
            slots = descriptor (variable h.r kind) ∷ below;
            there = core_at;
            few = few;
            comes = answered (given_place (rests.there h.r)) next (descriptor (variable h.r kind) ∷ below) (refl, refl);
          }) w.output Resolve
          (action_not_plain code (ops.Plain kinds.Eval) (at_operator s.has there)
          (place_reached_class code (at_operator s.has there) f.top.word f.top.words_below f.top.is from to named v.word reaches))
          (place_left_raw code (at_operator s.has there) f.top.word f.top.words_below f.top.is from to named v.word reaches tag (no_pcw v.word tag)
          ∙ ap (λ (o : List (List ℕ)). effects.gives (record (with_core img p new) { output = o })) s.by.output)
          (choice_is sc w p q part outer s.at s.todo
          ∙ ap (λ (k : Ask). choice_of sc w p q part outer k) asks
          ∙ ap (λ (c : Cell). resolved_of sc w p q part outer n c) h.cell_is)
          (λ t. action_is code (ops.Plain kinds.Eval) (at_operator s.has there) (outcomes.gives (record (with_core img p new) { output = w.output })) t
          ∙ (place_left_letter code (at_operator s.has there) f.top.word f.top.words_below f.top.is from to named v.word reaches (no_pcw v.word tag)))

    -- ---- of an actual

    abbrev IsActualNamed : Type 0
    IsActualNamed = ActualNamed tree code texts nested (actor_of s) n kind couple

    module _ (h : IsActualNamed) (f : Finds) (no_place : is_subscripted h.a.actual ≡ false) where
      abbrev actual_there : Found tree code texts w lay img h.a.instance
      actual_there = h.actual.seen_there.found

      abbrev high : ℕ
      high = length actual_there.lies.frame.lower

      abbrev control : Pcw
      control = routine_of sc ((instance_at w h.a.instance).block) h.a.actual h.actual.at

      abbrev first : cells.Cell
      first = record { frame = h.home.at; index = couple.index }

      abbrev second : cells.Cell
      second = record { frame = place actual_there.number high; index = h.denotes.couple.index }

      control_reached : Reaches img.stacks first (pcw_word control) second
      control_reached =
          reached_through img.stacks first h.home.word (record { stack = actual_there.number; displacement = high; index = h.denotes.couple.index }) (pcw_word control) h.home.lies h.actual.reads h.actual.control_lies
          (pcw_refers_nothing control)

      table_is : table code img p ≡ outcomes.faults NotAVariable
      table_is =
          faults_so code img p NotAVariable
          (no_place_raw code (at_operator s.has there) f.top.word f.top.words_below f.top.is first second (named_on_top f h.home.at h.home.shown) (pcw_word control) control_reached control
          (as_pcw_pcw_word control h.actual.fits) (sym (same_place h.a.actual) ∙ no_place))

      abbrev failed_world : World
      failed_world = record w { fault = Some (record { kind = NotAVariable; process = p }) }

      chosen : choice sc w p ≡ record { action = Fault; world = failed_world; released = []; started = None }
      chosen =
          choice_is sc w p q part outer s.at s.todo
          ∙ ap (λ (k : Ask). choice_of sc w p q part outer k) asks
          ∙ ap (λ (c : Cell). resolved_of sc w p q part outer n c) h.cell_is
          ∙ ap
          (λ (t : Bool). if t then opens sc w p q part outer w (record { instance = h.a.instance; purpose = name_place; rest = located_of (settle_actual_place sc h.a.actual) })
          else fails sc w p q part outer NotAVariable) no_place

      no_variable : Does tree code texts w img p
      no_variable =
          failed_by NotAVariable (fault_not_plain code (ops.Plain kinds.Eval) (at_operator s.has there) NotAVariable table_is) table_is
          (action_is code (ops.Plain kinds.Eval) (at_operator s.has there) (outcomes.faults NotAVariable) table_is ∙ ap (λ (c : Choice). Some c.action) (sym chosen))
          (subst (λ (c : Choice). Pictures tree code texts c.world (failed img p NotAVariable)) (sym chosen) (lay, faulted tree code texts w lay img s.by p q s.at s.ok NotAVariable))

    -- a variable's cell is found, or an element's by the code of the actual, where that is subscripted
    pub resolving : ((h : IsActualNamed) → is_subscripted h.a.actual ≡ true → Does tree code texts w img p) → Does tree code texts w img p
    resolving evaluated = by_name (resolved_name tree code texts nested (actor_of s) n asks kind next below a.3)
      where
        by_place : (h : IsActualNamed) (t : Bool) → is_subscripted h.a.actual ≡ t → Does tree code texts w img p
        by_place h true e = evaluated h e
        by_place h false e = no_variable h (finds_name tree code texts nested (actor_of s) n asks kind next below a.3 h.home) e

        by_name : NameStands tree code texts nested (actor_of s) n kind couple → Does tree code texts w img p
        by_name (for_variable h) = resolving_does h (finds_name tree code texts nested (actor_of s) n asks kind next below a.3 h.home)
        by_name (for_actual h) = by_place h (is_subscripted h.a.actual) refl
