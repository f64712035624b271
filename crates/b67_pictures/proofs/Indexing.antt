-- An index, to a row or to an element.
use Rattle.std.proofs.Common.{◌≡◌, inl, inr, refl, sym, ap, ◌∙◌, subst, ℕ, ◌<◌, List, [], ◌∷◌, ◌++◌, length, Option, Some, None, Bool, true, false, Ok, ℤ}
use Rattle.b67_pictures.proofs.Prelude.{map, InvalidIndex, Fault, PProgram, Scopes, scopes_of, use_of, Kind, Named, subscript_place, Ask, indexes, ask, resume, Choice, choice, choice_of, here, Answer, element_of, Value, number, whole_of, Reference, Cell, followed, array_in, Shape, Word, Descriptor, Couple, Operator, Placed, Code, Row, row_at, index_in, failed, Image, frame, operator_at, operator_letter, AreNested, Texts, ActionAt, Acted, ComesTo, of_row, of_element, element, Slot, operand, reference, intrinsic, control, descriptor, mark, Core, with_core, Known, SlotIs, SlotsAre, array_asked, at_operator, whole_array, with_one, action_not_plain, fault_not_plain, action_is, makes, unmade, HoldElements, IsElement, HeldIs, IsInReach, MeantArray, array_home, operator_there, Finds, in_place, has_room, LastIndex, last_index, FirstIndex, first_of_two, AbleActor, actor_of, choice_is, faults_so, faulted, text_in, level_in, context_in, most_in, TheLaws, Pictures, Does, failed_by}
use Rattle.algol_meaning.specs.Arrays.{size_of}
use Rattle.algol_meaning.specs.Rest.{place}
use Rattle.b67_deeds.specs.declared.Letter.TheVariants.{Index}
use Rattle.algol_meaning.specs.Choice.{indexed, indexed_at}
use Rattle.b67_ops.specs.declared.Operator.TheVariants as ops
use Rattle.b67_ops.specs.declared.PlainKind.TheVariants as kinds
use Rattle.b67_table.specs.Arrays.{array_word}
use Rattle.b67_table.specs.declared.Class.TheVariants as classes
use Rattle.b67_table.specs.Effect as effects
use Rattle.b67_table.specs.Outcome as outcomes
use Rattle.b67_table.specs.Table.{table, raw, class_at}
use Rattle.b67_table.proofs.Indexing.{index_below}
use Rattle.b67_letters.specs.Letters.{letter_by}
use Rattle.b67_standing.specs.Stepping.{HeldWord, row}
use Rattle.b67_standing.specs.Standing.{ElementIndexAt, RowIndexAt}
use Rattle.b67_rows.proofs.IndexRows.{index_gives, index_faults, index_raw, index_class, mother_gives, mother_faults, mother_raw, mother_class}
use Rattle.b67_frames.specs.Arrays.{row_length, row_copy, element_copy, IsRow}
use Rattle.b67_frames.proofs.ElementRows.{array_read, RowFound, row_found}
use Rattle.b67_pictures.proofs.InFrame.{does_in_frame}

-- one more is known
pub more_known : (known : List Known) (one : Known) (sc : Scopes) (level home base : ℕ) (slots : List Slot) (words : List Word) → SlotsAre sc known level home base slots words → SlotsAre sc (one ∷ known) level home base slots words
more_known known one sc level home base [] [] are = tt
more_known known one sc level home base [] (w ∷ words) are = absurd are
more_known known one sc level home base (slot ∷ slots) [] are = absurd are
more_known known one sc level home base (slot ∷ slots) (w ∷ words) are = (of_slot slot are.0, more_known known one sc level home base slots words are.1)
  where
    of_slot : (slot : Slot) → SlotIs sc known level home base slots slot w → SlotIs sc (one ∷ known) level home base slots slot w
    of_slot (operand x) is = is
    of_slot (reference c) is = is
    of_slot (intrinsic i) is = is
    of_slot (control c) is = is
    of_slot (descriptor h) is = inr is
    of_slot mark is = is

module _ (tree : PProgram) (code : Code) (texts : Texts) (nested : AreNested (scopes_of tree)) (laws : TheLaws) (actor : AbleActor tree code texts) where
  open actor use {w, lay, img, p, q, part, outer, core, s}

  module _ (n : Named) (ks : List ℕ) (v : Value) (asks : ask part.rest ≡ indexes n ks v) where
    abbrev sc : Scopes
    sc = scopes_of tree

    abbrev level : ℕ
    level = level_in tree w part

    abbrev text : List Placed
    text = text_in tree texts w part

    -- the array's cell
    abbrev home : Reference
    home = followed w (here sc w p q part outer n)

    -- ---- whichever operator it is

    module _ (shape : Shape) (couple : Couple) (h : MeantArray tree code texts nested (actor_of s) n shape couple) (z : ℤ) (is : v ≡ number z) (op : Operator) (next : ℕ)
        (there : operator_at code core.registers ≡ Ok (op, next)) where
      -- what the meaning chooses
      chosen : choice sc w p ≡ indexed_at sc w p q part outer home ks (subscript_place ((use_of sc n).sort) h.cell ks z)
      chosen =
          choice_is sc w p q part outer s.at s.todo
          ∙ ap (λ (k : Ask). choice_of sc w p q part outer k) asks
          ∙ ap (λ (u : Value). indexed sc w p q part outer n ks (whole_of u) home) is
          ∙ ap (λ (c : Cell). indexed_at sc w p q part outer home ks (subscript_place ((use_of sc n).sort) (array_in c) ks z)) h.of.is

      -- a subscript outside the bounds
      index_fails : subscript_place ((use_of sc n).sort) h.cell ks z ≡ None → raw code img p ≡ effects.faults InvalidIndex → Does tree code texts w img p
      index_fails e raw_is =
          failed_by InvalidIndex (fault_not_plain code op (at_operator s.has there) InvalidIndex table_is) table_is
          (action_is code op (at_operator s.has there) (outcomes.faults InvalidIndex) table_is ∙ ap (λ (c : Choice). Some c.action) (sym fails_so))
          (subst (λ (c : Choice). Pictures tree code texts c.world (failed img p InvalidIndex)) (sym fails_so) (lay, faulted tree code texts w lay img s.by p q s.at s.ok InvalidIndex))
        where
          table_is : table code img p ≡ outcomes.faults InvalidIndex
          table_is = faults_so code img p InvalidIndex raw_is

          fails_so : choice sc w p ≡ record { action = Fault; world = record w { fault = Some (record { kind = InvalidIndex; process = p }) }; released = []; started = None }
          fails_so = chosen ∙ ap (λ (o : Option ℕ). indexed_at sc w p q part outer home ks o) e

      -- one within them: the word of a descriptor comes in place of the two
      module _ (mother : Bool) (moved_subscript : ℤ) (d : Descriptor) (below : List Slot) (f : Finds tree code texts nested (actor_of s) mother moved_subscript d below)
          (k : ℕ) (e : subscript_place ((use_of sc n).sort) h.cell ks z ≡ Some k) (held : HeldWord) (word : Word) (held_is : HeldIs sc w lay (IsInReach w (part ∷ outer)) part.instance held word)
          (comes : ComesTo sc (context_in tree code texts w part s.stands.frame.gives) text level (most_in tree w part) (resume sc part.rest (place (element_of home (ks ++ k ∷ [])))) next (descriptor held ∷ below))
          (class_is : class_at op core.registers.place ≡ classes.Action) (raw_is : raw code img p ≡ effects.gives (with_core img p (with_one core word f.words next)))
          (acts : (after : Image) → (letter_by (outcomes.gives after) (operator_letter op img core.registers)) ≡ Some Index) where
        abbrev new : Core
        new = with_one core word f.words next

        abbrev one : Known
        one = record { held = held; word = word }

        index_does : Does tree code texts w img p
        index_does =
            does_in_frame tree code texts laws actor (record {
              unmade = unmade part.rest (ap makes asks);
              answer = place (element_of home (ks ++ k ∷ []));
              nameless = tt;
              new = new;
              below = refl;
              frame_is = record { is = refl };
              known = one ∷ s.stands.held;
              known_are = (held_is, s.stands.held_are);
              pc = next;
              slots = descriptor held ∷ below;
              there = in_place tree code texts nested (actor_of s) mother moved_subscript d below f (one ∷ s.stands.held) (descriptor held) word next (inl (refl, refl), more_known s.stands.held one sc level (frame core.registers) (length core.below) below f.words f.left_are) refl;
              few = has_room tree code texts nested (actor_of s) mother moved_subscript d below f (descriptor held);
              comes = comes;
            }) w.output Index
            (action_not_plain code op (at_operator s.has there) class_is)
            (raw_is ∙ ap (λ (o : List (List ℕ)). effects.gives (record (with_core img p new) { output = o })) s.by.output)
            (chosen ∙ ap (λ (o : Option ℕ). indexed_at sc w p q part outer home ks o) e)
            (λ t. action_is code op (at_operator s.has there) (outcomes.gives (record (with_core img p new) { output = w.output })) t ∙ acts (record (with_core img p new) { output = w.output }))

    -- ---- by what stands there

    abbrev Goes_on : ActionAt sc (context_in tree code texts w part s.stands.frame.gives) text level (most_in tree w part) (indexes n ks v) s.stands.pc s.stands.slots → Type 0
    Goes_on a =
        (r : Answer) (at : ℕ) (after : List Slot) → Acted sc (context_in tree code texts w part s.stands.frame.gives) text level (most_in tree w part) (indexes n ks v) s.stands.pc s.stands.slots a r at after →
        ComesTo sc (context_in tree code texts w part s.stands.frame.gives) text level (most_in tree w part) (resume sc part.rest r) at after

    -- NXLN, which leads to a row
    module _ (low second : ℤ) (next : ℕ) (below : List Slot) (found : RowIndexAt sc (context_in tree code texts w part s.stands.frame.gives) text level (most_in tree w part) n ks v low second s.stands.pc next s.stands.slots below)
        (answered : Goes_on (of_row low second next below found)) where
      row_there : operator_at code core.registers ≡ Ok (ops.Plain kinds.Nxln, next)
      row_there = operator_there sc s.stands.held code text level s.stands.pc s.stands.slots core (ops.Plain kinds.Nxln) next s.stands.there found.stands

      abbrev IsRowHome : Type 0
      IsRowHome = MeantArray tree code texts nested (actor_of s) n found.array found.couple

      module _ (h : IsRowHome)
          (l : FirstIndex tree code texts nested (actor_of s) n found.array found.couple h found.subscript below) where
        place_first : subscript_place ((use_of sc n).sort) h.cell ks found.subscript ≡ index_in l.moved_subscript (size_of l.first)
        place_first = ap (λ (js : List ℕ). subscript_place ((use_of sc n).sort) h.cell js found.subscript) found.first ∙ sym l.place_is

        row_holds : HoldElements img.rows h.array.kind h.cell h.allotted
        row_holds = s.by.arrays.held home.instance h.of.number h.array h.cell h.allotted h.has

        abbrev mother_row : Row
        mother_row = record { words = map (λ (m : ℕ). array_word false (row_length h.cell.bounds) m) h.allotted.parts; counted = false }

        mother_open : row_at img.rows l.mother ≡ Some mother_row
        mother_open = row_holds.mother l.mother l.mother_is

        abbrev mother_array : Descriptor
        mother_array = whole_array false true (size_of l.first) l.mother

        of_row_at : (o : Option ℕ) → index_in l.moved_subscript (size_of l.first) ≡ o → Does tree code texts w img p
        of_row_at None e =
            index_fails found.array found.couple h found.subscript found.is (ops.Plain kinds.Nxln) next row_there (place_first ∙ e)
            (mother_raw code img p core s.has next row_there
            ∙ mother_faults img p core s.has l.finds.first l.finds.second l.finds.words l.finds.top l.moved_subscript mother_array l.finds.is_whole l.finds.array_is mother_row mother_open next e)
        of_row_at (Some k) e =
            let under : k < size_of l.first = index_below l.moved_subscript (size_of l.first) k e in
            let f : RowFound sc w lay img.rows h.array.kind h.cell h.allotted row_holds l.second l.mother k =
            row_found sc w lay img.rows h.array.kind h.cell h.allotted row_holds l.first l.second l.mother k l.bounds l.mother_is l.many under in
            let held_is : IsRow sc w lay (IsInReach w (part ∷ outer)) part.instance n (ks ++ k ∷ []) (row_copy sc w lay (size_of l.second) f.number) =
            record {
              home = home;
              home_is = refl;
              own = h.own;
              declared = h.array;
              cell = h.cell;
              allotted = h.allotted;
              array = h.of;
              first = l.first;
              second = l.second;
              bounds = l.bounds;
              index = k;
              subscripts = ap (λ (js : List ℕ). js ++ k ∷ []) found.first;
              within = under;
              number = f.number;
              part = f.part;
              few = f.low;
              word_is = refl;
            } in
            index_does found.array found.couple h found.subscript found.is (ops.Plain kinds.Nxln) next row_there true l.moved_subscript mother_array below l.finds k (place_first ∙ e) (row n (ks ++ k ∷ []))
            (row_copy sc w lay (size_of l.second) f.number) held_is
            (answered (place (element_of home (ks ++ k ∷ []))) next (descriptor (row n (ks ++ k ∷ [])) ∷ below) (refl, refl, (k, refl)))
            (mother_class core.registers.place)
            (mother_raw code img p core s.has next row_there
            ∙ mother_gives img p core s.has l.finds.first l.finds.second l.finds.words l.finds.top l.moved_subscript mother_array l.finds.is_whole l.finds.array_is mother_row mother_open next k
            (array_word false (size_of l.second) f.number) (whole_array false false (size_of l.second) f.number) e f.lies (array_read false (size_of l.second) f.number l.few f.low))
            (λ after. refl)

        row_by_index : Does tree code texts w img p
        row_by_index = of_row_at (index_in l.moved_subscript (size_of l.first)) refl

      row_indexing : Does tree code texts w img p
      row_indexing =
          let h : IsRowHome = array_home tree code texts nested (actor_of s) n found.array found.couple (ap array_asked asks) found.is_array in
          row_by_index h (first_of_two tree code texts nested (actor_of s) n found.array found.couple h found.subscript low second below found.lows_are found.lies)

    -- INDX, which leads to an element
    module _ (kind : Kind) (next : ℕ) (below : List Slot) (found : ElementIndexAt sc (context_in tree code texts w part s.stands.frame.gives) text level (most_in tree w part) n ks v kind s.stands.pc next s.stands.slots below)
        (answered : Goes_on (of_element kind next below found)) where
      element_there : operator_at code core.registers ≡ Ok (ops.Plain kinds.Indx, next)
      element_there = operator_there sc s.stands.held code text level s.stands.pc s.stands.slots core (ops.Plain kinds.Indx) next s.stands.there found.stands

      abbrev IsElementHome : Type 0
      IsElementHome = MeantArray tree code texts nested (actor_of s) n found.array found.couple

      module _ (h : IsElementHome)
          (l : LastIndex tree code texts nested (actor_of s) n found.array found.couple h ks found.subscript below) where
        abbrev last_array : Descriptor
        last_array = whole_array l.copied false l.size l.number

        of_element_at : (o : Option ℕ) → index_in l.moved_subscript l.size ≡ o → Does tree code texts w img p
        of_element_at None e =
            index_fails found.array found.couple h found.subscript found.is (ops.Plain kinds.Indx) next element_there (sym l.place_is ∙ e)
            (index_raw code img p core s.has next element_there
            ∙ index_faults img p core s.has l.finds.first l.finds.second l.finds.words l.finds.top l.moved_subscript last_array l.finds.is_whole l.finds.array_is next e)
        of_element_at (Some k) e =
            let held_is : IsElement sc w lay (IsInReach w (part ∷ outer)) home (ks ++ k ∷ []) kind (element_copy sc w lay k l.number) =
            record {
              own = h.own;
              declared = h.array;
              kind_is = h.kind_is ∙ found.kind_is;
              cell = h.cell;
              allotted = h.allotted;
              array = h.of;
              index = l.index;
              at = k;
              within = l.within k (index_below l.moved_subscript l.size k e);
              number = l.number;
              part = l.row_there;
              few = l.low;
              word_is = refl;
            } in
            index_does found.array found.couple h found.subscript found.is (ops.Plain kinds.Indx) next element_there false l.moved_subscript last_array below l.finds k (sym l.place_is ∙ e)
            (element home (ks ++ k ∷ []) kind) (element_copy sc w lay k l.number) held_is
            (answered (place (element_of home (ks ++ k ∷ []))) next (descriptor (element home (ks ++ k ∷ []) kind) ∷ below) (refl, refl, (k, refl)))
            (index_class core.registers.place)
            (index_raw code img p core s.has next element_there
            ∙ index_gives img p core s.has l.finds.first l.finds.second l.finds.words l.finds.top l.moved_subscript last_array l.finds.is_whole l.finds.array_is next k e)
            (λ after. refl)

        element_by_index : Does tree code texts w img p
        element_by_index = of_element_at (index_in l.moved_subscript l.size) refl

      element_indexing : Does tree code texts w img p
      element_indexing =
          let h : IsElementHome = array_home tree code texts nested (actor_of s) n found.array found.couple (ap array_asked asks) found.is_array in
          element_by_index h (last_index tree code texts nested (actor_of s) n found.array found.couple h ks found.subscript below found.lies)

    pub indexing : (a : ActionAt sc (context_in tree code texts w part s.stands.frame.gives) text level (most_in tree w part) (indexes n ks v) s.stands.pc s.stands.slots) → Goes_on a → Does tree code texts w img p
    indexing (of_row low second next below found) answered = row_indexing low second next below found answered
    indexing (of_element kind next below found) answered = element_indexing kind next below found answered
