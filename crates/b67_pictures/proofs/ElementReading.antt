-- The reading of an element.
use Rattle.std.proofs.Common.{◌≡◌, refl, sym, ap, ◌∙◌, subst, ℕ, List, [], ◌∷◌, ◌++◌, Option, Some, None, true, false, Ok}
use Rattle.b67_pictures.proofs.Prelude.{InvalidIndex, Fault, PProgram, Scopes, scopes_of, use_of, Kind, Named, subscript_place, Ask, reads_element, Choice, choice, choice_of, here, value, Value, whole_of, Reference, Cell, cell_at, followed, array_in, Descriptor, Placed, Code, Row, row_at, index_in, failed, operator_at, HasKind, AreNested, Texts, ElementReadAt, Slot, operand, Core, with_core, array_asked, at_operator, whole_array, with_one, action_not_plain, fault_not_plain, action_is, makes, unmade, value_tag, ElementFound, element_found, HoldElements, MeantArray, array_home, operator_there, in_place, has_room, LastIndex, last_index, AbleActor, actor_of, choice_is, faults_so, faulted, text_in, level_in, context_in, most_in, TheLaws, Pictures, Does, failed_by}
use Rattle.algol_meaning.specs.Arrays.{element_at}
use Rattle.b67_deeds.specs.declared.Letter.TheVariants.{ElementRead}
use Rattle.algol_meaning.specs.Choice.{element_read, element_read_at}
use Rattle.b67_ops.specs.declared.Operator.TheVariants as ops
use Rattle.b67_ops.specs.declared.PlainKind.TheVariants as kinds
use Rattle.b67_table.specs.Effect as effects
use Rattle.b67_table.specs.Outcome as outcomes
use Rattle.b67_table.specs.Table.{table}
use Rattle.b67_table.proofs.Indexing.{index_below}
use Rattle.b67_rows.proofs.IndexRows.{load_gives, load_faults, load_raw, load_class}
use Rattle.b67_pictures.proofs.InFrame.{does_in_frame}
use Rattle.b67_pictures.proofs.Head.{Head}

module _ (tree : PProgram) (code : Code) (texts : Texts) (nested : AreNested (scopes_of tree)) (laws : TheLaws) (actor : AbleActor tree code texts) where
  open actor use {w, lay, img, p, q, part, outer, core, s}

  module _ (n : Named) (ks : List ℕ) (v : Value) (head : Head tree code texts actor (reads_element n ks v)) where
    open head use {asks, action as a, answered}

    abbrev sc : Scopes
    sc = scopes_of tree

    abbrev level : ℕ
    level = level_in tree w part

    abbrev text : List Placed
    text = text_in tree texts w part

    abbrev next : ℕ
    next = a.0

    abbrev below : List Slot
    below = a.1

    abbrev found : ElementReadAt sc (context_in tree code texts w part s.stands.frame.gives) text level (most_in tree w part) n ks v s.stands.pc next s.stands.slots below
    found = a.2

    there : operator_at code core.registers ≡ Ok (ops.Plain kinds.Nxlv, next)
    there = operator_there sc s.stands.held code text level s.stands.pc s.stands.slots core (ops.Plain kinds.Nxlv) next s.stands.there found.stands

    abbrev IsHome : Type 0
    IsHome = MeantArray tree code texts nested (actor_of s) n found.array found.couple

    abbrev home : Reference
    home = followed w (here sc w p q part outer n)

    abbrev IsIndex : IsHome → Type 0
    IsIndex h = LastIndex tree code texts nested (actor_of s) n found.array found.couple h ks found.subscript below

    module _ (h : IsHome) (l : IsIndex h) where
      -- what the meaning chooses
      chosen : choice sc w p ≡ element_read_at sc w p q part outer h.cell ks (subscript_place ((use_of sc n).sort) h.cell ks found.subscript)
      chosen =
          choice_is sc w p q part outer s.at s.todo
          ∙ ap (λ (k : Ask). choice_of sc w p q part outer k) asks
          ∙ ap (λ (u : Value). element_read sc w p q part outer n ks (whole_of u) (array_in (cell_at w home))) found.is
          ∙ ap (λ (c : Cell). element_read sc w p q part outer n ks found.subscript (array_in c)) h.of.is

      holds : HoldElements img.rows h.array.kind h.cell h.allotted
      holds = s.by.arrays.held home.instance h.of.number h.array h.cell h.allotted h.has

      abbrev elements : Row
      elements = record { words = (holds.opened l.index l.number l.row_there).1.0; counted = true }

      is_open : row_at img.rows l.number ≡ Some elements
      is_open = (holds.opened l.index l.number l.row_there).1.1

      abbrev d : Descriptor
      d = whole_array l.copied false l.size l.number

      -- a subscript outside the bounds
      outside : index_in l.moved_subscript l.size ≡ None → Does tree code texts w img p
      outside e =
          failed_by InvalidIndex (fault_not_plain code (ops.Plain kinds.Nxlv) (at_operator s.has there) InvalidIndex table_is) table_is
          (action_is code (ops.Plain kinds.Nxlv) (at_operator s.has there) (outcomes.faults InvalidIndex) table_is ∙ ap (λ (c : Choice). Some c.action) (sym fails_so))
          (subst (λ (c : Choice). Pictures tree code texts c.world (failed img p InvalidIndex)) (sym fails_so) (lay, faulted tree code texts w lay img s.by p q s.at s.ok InvalidIndex))
        where
          table_is : table code img p ≡ outcomes.faults InvalidIndex
          table_is =
              faults_so code img p InvalidIndex
              (load_raw code img p core s.has next there
              ∙ load_faults img p core s.has l.finds.first l.finds.second l.finds.words l.finds.top l.moved_subscript d l.finds.is_whole l.finds.array_is elements is_open next e)

          fails_so : choice sc w p ≡ record { action = Fault; world = record w { fault = Some (record { kind = InvalidIndex; process = p }) }; released = []; started = None }
          fails_so = chosen ∙ ap (λ (o : Option ℕ). element_read_at sc w p q part outer h.cell ks o) (sym l.place_is ∙ e)

      -- one within them
      within : (k : ℕ) → index_in l.moved_subscript l.size ≡ Some k → Does tree code texts w img p
      within k e =
          does_in_frame tree code texts laws actor (record {
            unmade = unmade part.rest (ap makes asks);
            answer = value read;
            nameless = tt;
            new = new;
            below = refl;
            frame_is = record { is = refl };
            known = s.stands.held;
            known_are = s.stands.held_are;
            pc = next;
            slots = operand read ∷ below;
            there = in_place tree code texts nested (actor_of s) false l.moved_subscript d below l.finds s.stands.held (operand read) f.word next (f.value_is, l.finds.left_are) refl;
            few = has_room tree code texts nested (actor_of s) false l.moved_subscript d below l.finds (operand read);
            comes = answered (value read) next (operand read ∷ below) (refl, refl, subst (λ (k : Kind). HasKind k read) h.kind_is f.kind_is);
          }) w.output ElementRead
          (action_not_plain code (ops.Plain kinds.Nxlv) (at_operator s.has there) (load_class core.registers.place))
          (load_raw code img p core s.has next there
          ∙ load_gives img p core s.has l.finds.first l.finds.second l.finds.words l.finds.top l.moved_subscript d l.finds.is_whole l.finds.array_is elements is_open next k f.word e f.lies (value_tag read f.word f.value_is)
          ∙ ap (λ (o : List (List ℕ)). effects.gives (record (with_core img p new) { output = o })) s.by.output)
          (chosen ∙ ap (λ (o : Option ℕ). element_read_at sc w p q part outer h.cell ks o) (sym l.place_is ∙ e))
          (λ t. action_is code (ops.Plain kinds.Nxlv) (at_operator s.has there) (outcomes.gives (record (with_core img p new) { output = w.output })) t)
        where
          read : Value
          read = element_at h.cell (ks ++ k ∷ [])

          f : ElementFound sc w lay img.rows h.array.kind h.cell h.allotted holds (ks ++ k ∷ []) k l.number
          f =
              element_found sc w lay img.rows h.array.kind h.cell h.allotted holds (ks ++ k ∷ []) l.index k l.number (l.within k (index_below l.moved_subscript l.size k e)) l.row_there

          new : Core
          new = with_one core f.word l.finds.words next

      by_index : (o : Option ℕ) → index_in l.moved_subscript l.size ≡ o → Does tree code texts w img p
      by_index None e = outside e
      by_index (Some k) e = within k e

      pub read_does : Does tree code texts w img p
      read_does = by_index (index_in l.moved_subscript l.size) refl

    pub element_reading : Does tree code texts w img p
    element_reading =
        let h : IsHome = array_home tree code texts nested (actor_of s) n found.array found.couple (ap array_asked asks) found.is_array in
        read_does h (last_index tree code texts nested (actor_of s) n found.array found.couple h ks found.subscript below found.lies)
