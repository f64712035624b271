-- A store to an element.
use Rattle.std.proofs.Common.{◌≡◌, ◌≢◌, ◌⊎◌, inl, inr, refl, sym, ap, ◌∙◌, subst, ℕ, ◌+◌, ◌≤◌, List, [], ◌∷◌, ◌++◌, length, Option, Some, None, Ok, arith}
use Rattle.b67_list.proofs.Lists.{length_set}
use Rattle.b67_pictures.proofs.Prelude.{numbered, ElementStore, block_numbered, level_of, PProgram, Scopes, scopes_of, Kind, Ask, stores, resume, Choice, choice, choice_of, goes, is_evaluation, done, element_of, Value, Reference, ArrayCell, Cell, array, NamedCell, Instance, Process, Part, World, instance_at, or_no_instance, with_instance, with_process, set_cell, cell_in, cells_with, array_in, Made, segment_of, Word, Placed, Code, Rows, stack_limit, Image, with_rows, frame, operator_at, told_by, element_or_not, stored_letter, operator_letter, Simple, simple_cells, HasKind, Texts, Slot, element, operand, descriptor, Core, size, HasCore, IsCore, with_core, ValueIs, newest, SlotsAre, CoreAt, at_operator, registers_now, without_two, same_or_not, action_not_plain, action_is, Top, top_slot, makes, unmade, value_tag, arrays_unchanged, ElementFound, element_found, event_before, events_replaced, facts_of, KeepsArrays, known_is, OwnCells, framed_cells, AreMade, HoldElements, ArraysAre, IsElement, EventsAre, IsInReach, CellsAre, FrameStands, run_level, at_element, ElementHome, element_home, Found, operator_there, AbleActor, actor_of, gives_within, choice_is, most_in, length_cells, stored_world, ChangedCells, changed, TheLaws, PicturesBy, MayAct, Does, gave}
use Rattle.algol_meaning.specs.Arrays.{with_element, flat}
use Rattle.b67_ops.specs.declared.Operator.TheVariants as ops
use Rattle.b67_ops.specs.declared.PlainKind.TheVariants as kinds
use Rattle.b67_store.specs.Store.{with_row_word}
use Rattle.b67_table.specs.Effect as effects
use Rattle.b67_table.specs.Outcome as outcomes
use Rattle.b67_table.specs.Table.{table, raw}
use Rattle.b67_deeds.specs.declared.Letter.TheVariants as letters
use Rattle.b67_rows.proofs.IndexRows.{two_seen, stored_gives, stored_raw, stored_class}
use Rattle.b67_frames.proofs.MadeArrays.{IsPast, past_values}
use Rattle.b67_pictures.proofs.Alone.{IsAfter, after_choice}
use Rattle.b67_pictures.proofs.Changing.{refers_fewer, own_pictured, other_pictured, CellChange, PicturesElse}
use Rattle.b67_frames.proofs.StoredCells.{made_stays}
use Rattle.b67_frames.proofs.StoredElement.{element_stored, element_keeps, StoresElement}
use Rattle.b67_pictures.proofs.Head.{Head}
use Rattle.b67_pictures.proofs.InFrame.{GoesOnAbove}

module _ (tree : PProgram) (code : Code) (texts : Texts) (laws : TheLaws) (actor : AbleActor tree code texts) where
  open actor use {w, lay, img, p, q, part, outer, core, s, able_is, able_p}

  module _ (r : Reference) (ks : List ℕ) (v : Value) (head : Head tree code texts actor (stores (element_of r ks) v)) where
    open head use {asks, action as a, answered}

    abbrev sc : Scopes
    sc = scopes_of tree

    abbrev b : ℕ
    b = (instance_at w part.instance).block

    abbrev level : ℕ
    level = run_level (is_evaluation part.purpose) (level_of (block_numbered sc.blocks b))

    abbrev text : List Placed
    text = texts.placed (segment_of sc.blocks b)

    abbrev st : FrameStands tree code texts w lay p part outer core
    st = s.stands

    abbrev next : ℕ
    next = a.0

    abbrev below : List Slot
    below = a.1

    there : operator_at code core.registers ≡ Ok (ops.Plain kinds.Stod, next)
    there = operator_there sc st.held code text level st.pc st.slots core (ops.Plain kinds.Stod) next st.there a.2.stands

    -- The value is on top of the stack, and the word below it names the element.
    pub record ElementOnTop : Type 0 where
      pub x : Word
      pub y : Word
      pub words : List Word
      pub top : core.words ≡ x ∷ y ∷ words
      pub x_is : ValueIs v x
      pub element : IsElement sc w lay (IsInReach w (part ∷ outer)) r ks a.2.kind y
      pub left_are : SlotsAre sc st.held level (frame core.registers) (length core.below) below words
      pub home : ElementHome tree code texts (actor_of s) r ks a.2.kind y element

    module _ (on_top : ElementOnTop) where
      open on_top use {x, y, words, top, x_is, element as e, left_are, home as h}

      -- the instance of the array, whose frame lies in the stack
      abbrev i : ℕ
      i = h.lies.lies.part.instance

      abbrev instance : Instance
      instance = h.lies.lies.owned.framed.instance

      instance_there : numbered w.instances i ≡ Some instance
      instance_there = h.lies.lies.owned.framed.is

      abbrev own : OwnCells sc w lay i instance
      own = framed_cells sc w lay h.lies.lies.owned.framed

      means : cell_in instance.cells r.name ≡ array e.cell
      means = ap (λ (o : Option Instance). cell_in ((or_no_instance o).cells) r.name) (sym instance_there) ∙ h.of.is

      -- ---- its rows

      holds : HoldElements img.rows e.declared.kind e.cell e.allotted
      holds = s.by.arrays.held i h.of.number e.declared e.cell e.allotted h.has

      old : ElementFound sc w lay img.rows e.declared.kind e.cell e.allotted holds ks e.at e.number
      old = element_found sc w lay img.rows e.declared.kind e.cell e.allotted holds ks e.index e.at e.number e.within e.part

      fits : HasKind e.declared.kind v
      fits = subst (λ (k : Kind). HasKind k v) (sym e.kind_is) a.2.fits

      abbrev rows' : Rows
      rows' = with_row_word img.rows e.number e.at x

      -- ---- the world after it

      abbrev later : ArrayCell
      later = with_element e.cell ks v

      abbrev cells' : List NamedCell
      cells' = cells_with instance.cells r.name (array later)

      abbrev part' : Part
      part' = record part { rest = resume sc part.rest done }

      abbrev q' : Process
      q' = record q { todo = part' ∷ outer }

      abbrev stored : World
      stored = stored_world w i instance instance_there cells'

      abbrev w' : World
      w' = with_process stored p q'

      abbrev new : Core
      new = without_two core words next

      abbrev img' : Image
      img' = with_rows img rows'

      abbrev after : Image
      after = with_core img' p new

      many : length cells' ≡ length instance.cells
      many = length_cells instance.cells r.name (array later)

      instance_now : instance_at w i ≡ instance
      instance_now = ap or_no_instance instance_there

      -- the one with the element stored
      stored_is : set_cell w (record { instance = i; name = r.name }) (array later) ≡ stored
      stored_is = ap (λ (z : Instance). with_instance w i (record z { cells = cells_with z.cells r.name (array later) })) instance_now

      chosen : choice sc w p ≡ record { action = ElementStore; world = w'; released = []; started = None }
      chosen =
          choice_is sc w p q part outer s.at s.todo
          ∙ ap (λ (m : Ask). choice_of sc w p q part outer m) asks
          ∙ ap (λ (c : Cell). goes sc w p q part outer ElementStore (set_cell w r (array (with_element (array_in c) ks v))) done) e.array.is
          ∙ ap (λ (j : ℕ). goes sc w p q part outer ElementStore (set_cell w (record { instance = j; name = r.name }) (array later)) done) h.home_is
          ∙ ap (λ (u : World). goes sc w p q part outer ElementStore u done) stored_is

      -- ---- its cells after it

      -- where its frame lies
      found : Found tree code texts w lay img i
      found = subst (λ (j : ℕ). Found tree code texts w lay img j) h.home_is h.lies

      abbrev ss : List Simple
      ss = simple_cells sc (block_numbered sc.blocks instance.block)

      changes : (first : List NamedCell) (values : List Word) (arrays : List NamedCell) (declared : List Made) (descriptors : List Word) → CellsAre ss first values → AreMade declared arrays (lay.rows i) descriptors →
          instance.cells ≡ first ++ arrays → ChangedCells ss (lay.rows i) cells' first values values declared descriptors
      changes first values arrays declared descriptors are made has_cells =
          record {
            simple = first;
            references = λ n c word there lies is. (there, lies);
            arrays = cells_with arrays r.name (array later);
            simple_are = are;
            made = made_stays r.name e.cell later (record { bounds = refl; many = length_set e.cell.elements (flat 0 e.cell.bounds ks) v }) declared arrays (lay.rows i) descriptors
                (sym (past.found arrays) ∙ means_all) made;
            has = ap (λ (cells : List NamedCell). cells_with cells r.name (array later)) has_cells ∙ past.changed arrays (array later);
          }
        where
          means_all : cell_in (first ++ arrays) r.name ≡ array e.cell
          means_all = ap (λ (cells : List NamedCell). cell_in cells r.name) (sym has_cells) ∙ means

          past : IsPast first r.name
          past = past_values ss first values arrays r.name e.cell are means_all

      abbrev stored_element : StoresElement sc w lay i
      stored_element = record {
        name = r.name;
        declared = e.declared;
        cell = e.cell;
        allotted = e.allotted;
        of = h.of;
        subscripts = ks;
        index = e.index;
        at = e.at;
        number = e.number;
        within = e.within;
        part = e.part;
        value = v;
        word = x;
        fits = fits;
        is = x_is;
      }

      keeps : KeepsArrays sc w stored lay lay i
      keeps =
          subst (λ (u : World). KeepsArrays sc w u lay lay i) stored_is
          (element_keeps sc w lay img.rows s.by.arrays i instance own stored_element i)

      -- ---- the core after it

      long : core.registers.s ≡ length core.below + (length words + 2)
      long = omega (arith, s.has.is.top, ap length top)

      is_new : IsCore new
      is_new = record { bottom = s.has.is.bottom; top = omega (arith, long) }

      core_at : CoreAt sc st.held code text level next below new
      core_at =
          record {
            segment = st.there.segment;
            there = st.there.there;
            spells = st.there.spells;
            level_is = st.there.level_is;
            place_is = refl;
            is = is_new;
            mark_is = st.there.mark_is ∙ ap (λ (slots : List Slot). newest (frame core.registers) (length core.below) slots) a.2.lies;
            words_are = left_are;
          }

      raw_is : raw code img p ≡ effects.gives after
      raw_is = stored_raw code img p core s.has next there ∙ stored_gives img p core s.has x y words top (at_element e.at e.number) old.word h.reads old.lies (value_tag v x x_is) next

      -- the word under the top is the descriptor of an element
      stored_here : operator_letter (ops.Plain kinds.Stod) img core.registers ≡ Some letters.ElementStore
      stored_here =
          ap (told_by stored_letter) (two_seen img p core s.has x y words top)
          ∙ ap (λ o. Some (element_or_not letters.ElementStore letters.Store o)) h.reads

      held : length below ≤ most_in tree w part
      held = let more : length st.slots ≡ length below + 2 = ap length a.2.lies ∙ omega arith in omega (arith, st.few, more)

      smaller : size new ≤ stack_limit
      smaller = omega (arith, s.small, ap length top)

      -- ---- the picture after it

      -- other rows change no core
      with_other_rows : (m : ℕ) (other : Core) → HasCore img m other → HasCore img' m other
      with_other_rows m other h = record { live = h.live; registers = h.registers; own = h.own; stack = h.stack; is = h.is }

      has' : HasCore img' p core
      has' = with_other_rows p core s.has

      arrays_after : ArraysAre sc w' lay rows'
      arrays_after =
          arrays_unchanged sc stored w' lay rows' refl
          (subst (λ (u : World). ArraysAre sc u lay rows') stored_is
          (element_stored sc w lay img.rows s.by.arrays i instance own stored_element))

      events_after : EventsAre sc w' lay img.events
      events_after =
          events_replaced sc w w' lay lay i instance (changed w i instance instance_there cells') instance_there refl refl refl (event_before instance.cells r.name (array later) tt) (λ j f laid. laid) img.events s.by.events

      after_so : MayAct sc w p → IsAfter sc w w' p
      after_so may = after_choice sc w w' p q (facts_of sc w s.ok) may s.at (ap (λ (c : Choice). c.world) chosen)

      abbrev onward : GoesOnAbove tree code texts (actor_of s)
      onward = record {
        unmade = unmade part.rest (ap makes asks);
        answer = done;
        nameless = tt;
        words = words;
        registers = new.registers;
        frame_is = record { is = refl };
        pc = next;
        slots = below;
        there = core_at;
        few = held;
        comes = answered done next below (refl, refl);
      }

      abbrev change : CellChange tree code texts laws (actor_of s)
      change = record {
        i = i;
        found = found;
        x = instance;
        at = instance_there;
        with_cells = cells';
        far = 0;
        word = None;
        many = many;
        short = λ set. absurd set;
        low = λ set. absurd set;
        keeps = keeps;
        fewer = refers_fewer instance.cells r.name (array later) refl;
        changes = changes;
      }

      abbrev elsewhere : (may : MayAct sc w p) → PicturesElse tree code texts laws (actor_of s) onward change smaller able_is q.state
      elsewhere may = record {
        base = img';
        same = with_other_rows;
        stacks = refl;
        after = after_so may;
        arrays = arrays_after;
        events = events_after;
        list_same = refl;
        lists = refl;
        numbers = refl;
        awaiting = s.by.waits.awaiting;
        output = refl;
        fault = refl;
        started = refl;
        regs = refl;
        many_states = refl;
        states = λ m other. refl;
        lives_so = able_is;
        state_is = able_p;
      }

      -- in the process's own stack, or in another's
      pictured : MayAct sc w p → PicturesBy tree code texts w' lay after
      pictured may = by_number (same_or_not found.number p)
        where
          by_number : (found.number ≡ p) ⊎ (found.number ≢ p) → PicturesBy tree code texts w' lay after
          by_number (inl here) =
              own_pictured tree code texts laws (actor_of s) onward change smaller able_is q.state (elsewhere may) here
          by_number (inr other) =
              other_pictured tree code texts laws (actor_of s) onward change smaller able_is q.state (elsewhere may) other

      does : Does tree code texts w img p
      does =
          let is : table code img p ≡ outcomes.gives after =
          gives_within code img after p new.registers raw_is (registers_now img' p core new has' refl) (omega (arith, smaller, is_new.top)) in
          gave after (action_not_plain code (ops.Plain kinds.Stod) (at_operator s.has there) (stored_class core.registers.place)) is
          (action_is code (ops.Plain kinds.Stod) (at_operator s.has there) (outcomes.gives after) is ∙ stored_here ∙ ap (λ (c : Choice). Some c.action) (sym chosen))
          (λ may. (lay, subst (λ (c : Choice). PicturesBy tree code texts c.world lay after) (sym chosen) (pictured may)))

    pub element_storing : Does tree code texts w img p
    element_storing =
        let first : Top sc st.held level (frame core.registers) (length core.below) (operand v) (descriptor (element r ks a.2.kind) ∷ below) core.words =
        top_slot sc st.held level (frame core.registers) (length core.below) st.slots (operand v) (descriptor (element r ks a.2.kind) ∷ below) core.words st.there.words_are a.2.lies in
        let second : Top sc st.held level (frame core.registers) (length core.below) (descriptor (element r ks a.2.kind)) below first.words_below =
        top_slot sc st.held level (frame core.registers) (length core.below) (descriptor (element r ks a.2.kind) ∷ below) (descriptor (element r ks a.2.kind)) below first.words_below first.are refl in
        let e : IsElement sc w lay (IsInReach w (part ∷ outer)) r ks a.2.kind second.word =
        known_is sc w lay (IsInReach w (part ∷ outer)) part.instance st.held st.held_are (element r ks a.2.kind) second.word second.slot_is in
        does (record {
          x = first.word;
          y = second.word;
          words = second.words_below;
          top = first.is ∙ ap (λ (ws : List Word). first.word ∷ ws) second.is;
          x_is = first.slot_is;
          element = e;
          left_are = second.are;
          home = element_home tree code texts (actor_of s) r ks a.2.kind second.word e;
        })
