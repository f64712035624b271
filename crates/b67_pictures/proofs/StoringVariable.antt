-- A store into the cell of a variable, in whatever stack, which the word under the top names.
use Rattle.std.proofs.Common.{◌≡◌, ◌≢◌, ◌⊎◌, inl, inr, refl, sym, ap, ◌∙◌, subst, ℕ, ◌+◌, ◌<◌, ◌≤◌, List, [], ◌∷◌, ◌++◌, length, Option, Some, None, Ok, arith}
use Rattle.b67_list.proofs.Lists.{get_within}
use Rattle.b67_pictures.proofs.Prelude.{slice_set, slice_get, numbered, Store, block_numbered, PProgram, Scopes, scopes_of, Kind, Ask, stores, ask, resume, Choice, choice, choice_of, goes, done, Value, Reference, simple, NamedCell, Instance, Process, Part, World, or_no_instance, with_instance, with_process, cell_in, cells_with, set_cell, Made, Word, Place, Code, stack_limit, word_at, with_word, as_indexed, place, Image, with_stacks, frame, cell_of, operator_at, Simple, simple_cells, HasKind, Texts, ComesTo, Slot, operand, Core, size, IsCore, HasCore, with_core, ValueIs, newest, SlotsAre, CoreAt, at_operator, registers_now, without_two, same_or_not, action_not_plain, action_is, makes, unmade, value_tag, event_before, events_replaced, facts_of, KeepsArrays, as_many_values, AreMade, ArraysAre, EventsAre, CellsAre, AbleActor, actor_of, gives_within, choice_is, text_in, level_in, context_in, most_in, length_cells, stored_world, changed_at, ChangedCells, changed, TheLaws, VariableHome, PicturesBy, MayAct, Does, gave}
use Rattle.algol_meaning.specs.Rest as meant
use Rattle.b67_ops.specs.declared.Operator.TheVariants as ops
use Rattle.b67_ops.specs.declared.PlainKind.TheVariants as kinds
use Rattle.b67_table.specs.Outcome as outcomes
use Rattle.b67_table.specs.Table.{table}
use Rattle.b67_templates.specs.Cells.{Found}
use Rattle.b67_rows.proofs.StoreRow.{with_cell, stores_variable, store_raw, store_class}
use Rattle.b67_frames.proofs.ArraysKept.{arrays_stored}
use Rattle.b67_frames.proofs.Knowing.{keeps_stored}
use Rattle.b67_frames.proofs.Variables.{cell_changed, changed_front, references_stored}
use Rattle.b67_scenes.proofs.Finding as finding
use Rattle.b67_pictures.proofs.Alone.{IsAfter, after_choice}
use Rattle.b67_pictures.proofs.Changing.{same_floor, word_below, refers_fewer, own_pictured, other_pictured, CellChange, PicturesElse}
use Rattle.b67_pictures.proofs.StoreElsewhereRow.{store_elsewhere_raw, store_elsewhere_class, stores_elsewhere, StoresElsewhere}
use Rattle.b67_pictures.proofs.WordPut.{core_beside}
use Rattle.b67_pictures.proofs.InFrame.{GoesOnAbove}

module _ (tree : PProgram) (code : Code) (texts : Texts) (laws : TheLaws) (actor : AbleActor tree code texts) where
  open actor use {w, lay, img, p, q, part, outer, core, s, able_is, able_p}

  -- The value on top of the stack is stored into the variable that the word below it names.
  pub record StoresVariable : Type 0 where
    pub reference : Reference
    pub kind : Kind
    pub found : Found
    pub home : VariableHome tree code texts (actor_of s) reference kind found
    pub to : meant.Place
    pub value : Value
    pub fits : HasKind kind value
    pub asks : ask part.rest ≡ stores to value
    pub stores_so : choice_of (scopes_of tree) w p q part outer (stores to value) ≡ goes (scopes_of tree) w p q part outer Store (set_cell w reference (simple value)) done
    pub next : ℕ
    pub below : List Slot
    pub answered : ComesTo (scopes_of tree) (context_in tree code texts w part s.stands.frame.gives) (text_in tree texts w part) (level_in tree w part) (most_in tree w part) (resume (scopes_of tree) part.rest done) next below
    pub there : operator_at code core.registers ≡ Ok (ops.Plain kinds.Stod, next)
    pub under : Slot
    pub top_lies : s.stands.slots ≡ operand value ∷ under ∷ below
    pub unmarked : newest (frame core.registers) (length core.below) (operand value ∷ under ∷ below) ≡ newest (frame core.registers) (length core.below) below
    pub x : Word
    pub y : Word
    pub words : List Word
    pub top : core.words ≡ x ∷ y ∷ words
    pub x_is : ValueIs value x
    pub names : cell_of core.registers y ≡ Some (record { frame = place home.seen_there.found.number (length home.seen_there.found.lies.frame.lower); index = 2 + home.number })
    pub plain_word : as_indexed y ≡ None
    pub left_are : SlotsAre (scopes_of tree) s.stands.held (level_in tree w part) (frame core.registers) (length core.below) below words

  module _ (variable : StoresVariable) where
    open variable use {reference as r, kind, found, home as h, value as v, fits, asks, stores_so, next, below, answered, there, top_lies, unmarked, x, y, words, top, x_is, names, plain_word, left_are}

    abbrev sc : Scopes
    sc = scopes_of tree

    -- where the frame of its instance lies
    abbrev f : finding.Found tree code texts w lay img r.instance
    f = h.seen_there.found

    abbrev i : ℕ
    i = r.instance

    abbrev high : ℕ
    high = length h.seen_there.found.lies.frame.lower

    abbrev instance : Instance
    instance = h.seen_there.found.lies.owned.framed.instance

    instance_there : numbered w.instances i ≡ Some instance
    instance_there = ap (λ (j : ℕ). numbered w.instances j) (sym f.lies.instance_is) ∙ f.lies.owned.framed.is

    abbrev ss : List Simple
    ss = simple_cells sc (block_numbered sc.blocks instance.block)

    short : h.number < length ss
    short =
        omega (
          arith,
          get_within f.lies.owned.framed.values h.number h.word h.value_lies,
          as_many_values ss f.lies.owned.framed.simple f.lies.owned.framed.values f.lies.owned.framed.simple_are,
        )

    tag : h.word.tag ≡ 0
    tag = value_tag h.value h.word h.word_is

    abbrev cells' : List NamedCell
    cells' = cells_with instance.cells r.name (simple v)

    abbrev part' : Part
    part' = record part { rest = resume sc part.rest done }

    abbrev q' : Process
    q' = record q { todo = part' ∷ outer }

    abbrev stored : World
    stored = stored_world w i instance instance_there cells'

    abbrev w' : World
    w' = with_process stored p q'

    many : length cells' ≡ length instance.cells
    many = length_cells instance.cells r.name (simple v)

    chosen : choice sc w p ≡ record { action = Store; world = w'; released = []; started = None }
    chosen =
        choice_is sc w p q part outer s.at s.todo
        ∙ ap (λ (m : Ask). choice_of sc w p q part outer m) asks
        ∙ stores_so
        ∙ ap (λ (o : Option Instance). record {
          action = Store;
          world = with_process (with_instance w i (record (or_no_instance o) { cells = cells_with ((or_no_instance o).cells) r.name (simple v) })) p q';
          released = [];
          started = None;
        }) instance_there

    -- ---- its cells after it

    changes : (first : List NamedCell) (values : List Word) (arrays : List NamedCell) (declared : List Made) (descriptors : List Word) → CellsAre ss first values → AreMade declared arrays (lay.rows i) descriptors →
        instance.cells ≡ first ++ arrays → ChangedCells ss (lay.rows i) cells' first values (slice_set values h.number x) declared descriptors
    changes first values arrays declared descriptors are made has =
        record {
          simple = cells_with first r.name (simple v);
          arrays = arrays;
          references = references_stored ss first values 0 r.name found kind v x h.number are h.there h.wanted_is number_is;
          simple_are = cell_changed ss first values 0 r.name found kind v x h.number are h.there h.wanted_is number_is fits x_is;
          made = made;
          has = ap (λ (cells : List NamedCell). cells_with cells r.name (simple v)) has ∙ changed_front ss first arrays values 0 r.name found (simple v) are h.there;
        }
      where
        number_is : found.number ≡ 0 + h.number
        number_is = omega (arith, h.number_is)

    -- it holds a value
    cell_is : cell_in instance.cells r.name ≡ simple h.value
    cell_is = ap (λ (z : Instance). cell_in z.cells r.name) (sym h.instance_is) ∙ h.cell_is

    keeps : KeepsArrays sc w stored lay lay i
    keeps =
        keeps_stored sc w stored lay i r.name h.value v h.cell_is
        (ap or_no_instance (changed_at w i instance instance_there cells')
        ∙ ap (λ (z : Instance). record z { cells = cells_with z.cells r.name (simple v) }) (sym h.instance_is))

    -- ---- the core after it

    abbrev new : Core
    new = without_two core words next

    long : core.registers.s ≡ length core.below + (length words + 2)
    long = omega (arith, s.has.is.top, ap length top)

    is_new : IsCore new
    is_new = record { bottom = s.has.is.bottom; top = omega (arith, long) }

    core_at : CoreAt sc s.stands.held code (text_in tree texts w part) (level_in tree w part) next below new
    core_at =
        record {
          segment = s.stands.there.segment;
          there = s.stands.there.there;
          spells = s.stands.there.spells;
          level_is = s.stands.there.level_is;
          place_is = refl;
          is = is_new;
          -- a reference and a value are no marks
          mark_is = s.stands.there.mark_is ∙ ap (λ (l : List Slot). newest (frame core.registers) (length core.below) l) top_lies ∙ unmarked;
          words_are = left_are;
        }

    held : length below ≤ most_in tree w part
    held = let more : length s.stands.slots ≡ length below + 2 = ap length top_lies ∙ omega arith in omega (arith, s.stands.few, more)

    smaller : size new ≤ stack_limit
    smaller = omega (arith, s.small, ap length top)

    low : high + 2 + h.number < length f.core.below
    low = omega (arith, h.below)

    -- ---- the picture after it

    after_so : MayAct sc w p → IsAfter sc w w' p
    after_so may = after_choice sc w w' p q (facts_of sc w s.ok) may s.at (ap (λ (c : Choice). c.world) chosen)

    arrays_now : ArraysAre sc w' lay img.rows
    arrays_now = arrays_stored sc w w' lay i instance instance_there r.name h.value v cell_is refl img.rows s.by.arrays

    events_now : EventsAre sc w' lay img.events
    events_now =
        events_replaced sc w w' lay lay i instance (changed w i instance instance_there cells') instance_there refl refl refl (event_before instance.cells r.name (simple v) tt) (λ j g laid. laid) img.events s.by.events

    abbrev at : Place
    at = place f.number (high + (2 + h.number))

    abbrev onward : GoesOnAbove tree code texts (actor_of s)
    onward = record {
      unmade = unmade part.rest (ap makes asks);
      answer = done;
      nameless = tt;
      words = words;
      registers = new.registers;
      frame_is = record { is = refl };
      pc = next;
      slots = below;
      there = core_at;
      few = held;
      comes = answered;
    }

    abbrev change : CellChange tree code texts laws (actor_of s)
    change = record {
      i = i;
      found = f;
      x = instance;
      at = instance_there;
      with_cells = cells';
      far = h.number;
      word = Some x;
      many = many;
      short = λ set. short;
      low = λ set. low;
      keeps = keeps;
      fewer = refers_fewer instance.cells r.name (simple v) refl;
      changes = changes;
    }

    abbrev elsewhere : (may : MayAct sc w p) → PicturesElse tree code texts laws (actor_of s) onward change smaller able_is q.state
    elsewhere may = record {
      base = img;
      same = λ m other had. had;
      stacks = refl;
      after = after_so may;
      arrays = arrays_now;
      events = events_now;
      list_same = refl;
      lists = refl;
      numbers = refl;
      awaiting = s.by.waits.awaiting;
      output = refl;
      fault = refl;
      started = refl;
      regs = refl;
      many_states = refl;
      states = λ m other. refl;
      lives_so = able_is;
      state_is = able_p;
    }

    same_at : high + 2 + h.number ≡ high + (2 + h.number)
    same_at = omega arith

    -- in the process's own stack
    module _ (here : f.number ≡ p) where
      own_names : cell_of core.registers y ≡ Some (record { frame = record { stack = core.registers.stack; at = high }; index = 2 + h.number })
      own_names = names ∙ ap (λ (n : ℕ). Some (record { frame = record { stack = n; at = high }; index = 2 + h.number })) (here ∙ sym s.has.own)

      below_lies : slice_get core.below (high + (2 + h.number)) ≡ Some h.word
      below_lies =
          word_below img p core s.has (high + (2 + h.number)) h.word (omega (arith, h.below, same_floor img p f.core core (subst (λ (n : ℕ). HasCore img n f.core) here f.has) s.has))
          (ap (λ (n : ℕ). word_at img.stacks (place n (high + (2 + h.number)))) (sym here) ∙ h.word_lies)

      abbrev stored_core : Core
      stored_core = with_cell core (high + (2 + h.number)) x words next

      pictured : MayAct sc w p → PicturesBy tree code texts w' lay (with_core img p stored_core)
      pictured may =
          subst (λ (n : ℕ). PicturesBy tree code texts w' lay (with_core img p (with_cell core n x words next))) same_at
          (own_pictured tree code texts laws (actor_of s) onward change smaller able_is q.state (elsewhere may) here)

      stores_own : Does tree code texts w img p
      stores_own =
          let is : table code img p ≡ outcomes.gives (with_core img p stored_core) =
          gives_within code img (with_core img p stored_core) p stored_core.registers
          (store_raw code (at_operator s.has there) x y h.word words top (2 + h.number) high own_names plain_word below_lies (value_tag v x x_is) tag)
          (registers_now img p core stored_core s.has refl) (omega (arith, smaller, is_new.top)) in
          gave (with_core img p stored_core)
          (action_not_plain code (ops.Plain kinds.Stod) (at_operator s.has there)
          (store_class code (at_operator s.has there) x y h.word words top (2 + h.number) high own_names plain_word below_lies (value_tag v x x_is) tag))
          is
          (action_is code (ops.Plain kinds.Stod) (at_operator s.has there) (outcomes.gives (with_core img p stored_core)) is
          ∙ (stores_variable code (at_operator s.has there) x y h.word words top (2 + h.number) high own_names plain_word below_lies (value_tag v x x_is) tag)
          ∙ ap (λ (c : Choice). Some c.action) (sym chosen))
          (λ may. (lay, subst (λ (c : Choice). PicturesBy tree code texts c.world lay (with_core img p stored_core)) (sym chosen) (pictured may)))

    -- in the stack of another process
    module _ (other : f.number ≢ p) where
      apart : f.number ≢ core.registers.stack
      apart e = other (e ∙ s.has.own)

      abbrev with_it : Image
      with_it = with_stacks img (with_word img.stacks (place f.number (high + (2 + h.number))) x)

      pictured_there : MayAct sc w p → PicturesBy tree code texts w' lay (with_core with_it p new)
      pictured_there may =
          subst (λ (n : ℕ). PicturesBy tree code texts w' lay (with_core (with_stacks img (with_word img.stacks (place f.number n) x)) p new)) same_at
          (other_pictured tree code texts laws (actor_of s) onward change smaller able_is q.state (elsewhere may) other)

      has_there : HasCore with_it p core
      has_there = core_beside img f.number (high + (2 + h.number)) (Some x) p core (λ (e : p ≡ f.number). other (sym e)) s.has

      abbrev stores_beside : StoresElsewhere img core
      stores_beside = record {
        x = x;
        y = y;
        old = h.word;
        words = words;
        top = top;
        frame = place f.number high;
        index = 2 + h.number;
        names = names;
        plain_word = plain_word;
        apart = apart;
        lies = h.word_lies;
        tag = value_tag v x x_is;
        old_tag = tag;
      }

      stores_there : Does tree code texts w img p
      stores_there =
          let is : table code img p ≡ outcomes.gives (with_core with_it p new) =
          gives_within code img (with_core with_it p new) p new.registers
          (store_elsewhere_raw code (at_operator s.has there) stores_beside)
          (registers_now with_it p core new has_there refl) (omega (arith, smaller, is_new.top)) in
          gave (with_core with_it p new)
          (action_not_plain code (ops.Plain kinds.Stod) (at_operator s.has there)
          (store_elsewhere_class code (at_operator s.has there) stores_beside))
          is
          (action_is code (ops.Plain kinds.Stod) (at_operator s.has there) (outcomes.gives (with_core with_it p new)) is
          ∙ (stores_elsewhere code (at_operator s.has there) stores_beside)
          ∙ ap (λ (c : Choice). Some c.action) (sym chosen))
          (λ may. (lay, subst (λ (c : Choice). PicturesBy tree code texts c.world lay (with_core with_it p new)) (sym chosen) (pictured_there may)))

    pub variable_stored : Does tree code texts w img p
    variable_stored = by_number (same_or_not f.number p)
      where
        by_number : (f.number ≡ p) ⊎ (f.number ≢ p) → Does tree code texts w img p
        by_number (inl here) = stores_own here
        by_number (inr other) = stores_there other
