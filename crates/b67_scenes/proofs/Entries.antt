-- The entry of a block or a procedure by the machine, where a process stands at it.
use Rattle.std.proofs.Common.{◌≡◌, refl, sym, ap, ◌∙◌, subst, ℕ, ◌+◌, ◌-◌, ◌*◌, ◌/◌, ◌%◌, ◌≤◌, ◌<◌, List, [], ◌∷◌, ◌++◌, length, Option, Some, Ok, true, false, arith, length-append}
use Rattle.b67_scenes.proofs.Prelude.{nat_tests, ◌==◌, ◌&&◌, nat_le, slice_get, Block, block_numbered, around, level_of, PProgram, Scopes, scopes_of, Given, Part, World, instance_at, segment_of, Word, Place, as_mscw_mscw_word, as_rcw_rcw_word, as_mscw, as_rcw, place_at, Mscw, Pcw, Rcw, Spells, Code, Segment, stack_limit, place, linked, gives, most_processes, end_of_code, entered_mark, control_word, look_seen, frame, at_or, cell_of, plain, operator_at, called_by, Wanted, simple_cells, Has, code_at, AreNested, LiesNested, Texts, given_slots, Slot, mark, slots_length, Core, IsCore, with_core, newest, SlotsAre, CoreAt, control_words, IsShortSegment, shown, shown_top, linked_seen, lower_of, AreFit, Taken, taken_words, next_within, segment_low, Top, top_slot, length_stack, mark_read, made_many, block_few, as_many_controls, controls_many, Linked, all_linked, runs_low, as_many_values, Layout, block_controls, IsComplete, Framed, Frame, Shape, of_own, of_lent, IsInReach}
use Rattle.algol_tree.specs.declared.TheConstants.{MOST_BLOCK_CELLS}
use Rattle.b67_deeds.specs.declared.Letter.TheVariants.{Enter}
use Rattle.b67_ops.specs.declared.Operator.TheVariants as ops
use Rattle.b67_ops.specs.declared.PlainKind.TheVariants as kinds
use Rattle.b67_table.specs.Outcome as outcomes
use Rattle.b67_table.specs.Table.{raw, table}
use Rattle.b67_cores.specs.Slots.{SlotIs}
use Rattle.b67_cores.proofs.Operating.{newest_low}
use Rattle.b67_letters.specs.Letters.{letter}
use Rattle.b67_rows.proofs.EntryRow.{Leads, Enters, with_frame, enter_raw, enter_class, enter_action, new_is}
use Rattle.b67_rows.proofs.Rows.{action_not_plain}
use Rattle.b67_frames.proofs.Linked.{level_around}
use Rattle.b67_scenes.proofs.Homes.{operator_there}
use Rattle.b67_scenes.proofs.Scene.{frame_is, Actor}
use Rattle.b67_scenes.proofs.Staying.{text_in, level_in, context_in, frame_low}
use Rattle.b67_rows.proofs.AtOperator.{at_operator}

pub home_level : (n level : ℕ) → n ≡ level → 2 ≤ n → (n + 1 == level + 1 && nat_le 2 n) ≡ true
home_level n level e h = grind (arith, nat_tests)

-- how many cells a frame has
pub cells_few : (sc : Scopes) (w : World) (lay : Layout) (p i : ℕ) (outer : List Part) (at : ℕ) (mark control : Word) (cells : List Word) → Framed sc w lay p i outer at mark control cells → AreNested sc → length cells ≤ MOST_BLOCK_CELLS
cells_few sc w lay p i outer at marked control cells f nested =
    let b : Block = block_numbered sc.blocks f.instance.block in
    omega (
      arith,
      ap length f.cells_is,
      length-append f.values (control_words (block_controls sc f.instance.block f.ats) ++ f.descriptors),
      length-append (control_words (block_controls sc f.instance.block f.ats)) f.descriptors,
      as_many_values (simple_cells sc b) f.simple f.values f.simple_are,
      as_many_controls (block_controls sc f.instance.block f.ats),
      controls_many sc f.instance.block f.ats f.each_has_place,
      (made_many f.declared f.arrays (lay.rows i) f.descriptors f.made).words_many,
      ap length f.order,
      length-append f.declared f.later,
      block_few sc nested f.instance.block f.known,
    )

-- a frame that is lent has none
pub frame_few : (tree : PProgram) (code : Code) (texts : Texts) (w : World) (lay : Layout) (p : ℕ) (part : Part) (outer : List Part) (words : List Word) (f : Frame tree code texts w lay p part outer words) → AreNested (scopes_of tree) →
    length f.cells ≤ MOST_BLOCK_CELLS
frame_few tree code texts w lay p part outer words f nested = by_shape f.shape
  where
    by_shape : Shape tree code texts w lay p part outer (length f.lower) f.mark f.control f.cells f.home f.gives → length f.cells ≤ MOST_BLOCK_CELLS
    by_shape (of_own o is) = cells_few (scopes_of tree) w lay p part.instance outer (length f.lower) f.mark f.control f.cells o.framed nested
    by_shape (of_lent l) = omega (arith, ap length l.none)

module _ (tree : PProgram) (code : Code) (texts : Texts) (nested : LiesNested tree) (short : IsShortSegment tree code)
    (actor : Actor tree code texts) where
  open actor use {w, lay, img, p, part, outer, core, s}

  abbrev pub sc : Scopes
  sc = scopes_of tree

  abbrev pub level : ℕ
  level = level_in tree w part

  abbrev own : ℕ
  own = frame core.registers

  abbrev base : ℕ
  base = length core.below

  -- ENTR stands there, and finds the words of these actuals on a word on a mark. That leads to code of the block of this number, whose
  -- instance is to have that parent.
  pub record Calls (wanted : List Wanted) (gs : List Given) (slot : Slot) (next : ℕ) (waiting : List Slot) (h j begin : ℕ) : Type 0 where
    pub lies : s.stands.slots ≡ given_slots wanted gs (slot ∷ mark ∷ waiting)
    pub fit : AreFit sc (context_in tree code texts w part s.stands.frame.gives) wanted gs
    pub given_few : length gs ≤ MOST_BLOCK_CELLS
    pub marks : newest own base (slot ∷ mark ∷ waiting) ≡ base + length waiting
    pub stands : Has (text_in tree texts w part) level s.stands.pc (ops.Plain kinds.Entr) next
    pub in_reach : IsInReach w (part ∷ outer) h
    pub complete : IsComplete sc w lay h
    pub known : j < length sc.blocks
    pub around_is : around sc.blocks j ≡ (instance_at w h).block ∷ around sc.blocks ((instance_at w h).block)
    pub linked : Linked sc w lay img.stacks h
    pub few : (linked.at).stack ≤ most_processes
    pub low : (linked.at).at < stack_limit
    pub segment : Segment
    pub there : slice_get code.segments (segment_of sc.blocks j) ≡ Some segment
    pub spells : Spells (texts.placed (segment_of sc.blocks j)) segment
    pub leads : (m : Mscw) (x : Word) → SlotIs sc s.stands.held level own base (mark ∷ waiting) slot x →
        Leads code img core next x m (code_at (segment_of sc.blocks j) begin (level_of (block_numbered sc.blocks j))) linked.at
    pub calls : (x : Word) → SlotIs sc s.stands.held level own base (mark ∷ waiting) slot x →
        look_seen img.stacks (called_by x (cell_of core.registers x)) ≡ Ok (code_at (segment_of sc.blocks j) begin (level_of (block_numbered sc.blocks j)))

  -- What is entered, and by which operands.
  pub record Entry : Type 0 where
    pub wanted : List Wanted
    pub gs : List Given
    pub slot : Slot
    pub next : ℕ
    pub waiting : List Slot
    pub parent : ℕ
    pub block : ℕ
    pub begin : ℕ
    pub calls : Calls wanted gs slot next waiting parent block begin

  module _ (called : Entry) where
    open called use {wanted, gs, slot, next, waiting, parent as h, block as j, begin, calls as e}

    abbrev pub inner_level : ℕ
    inner_level = level_of (block_numbered sc.blocks j)

    abbrev pub c : Pcw
    c = code_at (segment_of sc.blocks j) begin inner_level

    -- ---- the words

    pub given : Taken sc s.stands.held level own base wanted gs (slot ∷ mark ∷ waiting) core.words
    given =
        taken_words sc s.stands.held level own base (context_in tree code texts w part s.stands.frame.gives) e.fit (slot ∷ mark ∷ waiting) core.words (subst (λ (l : List Slot). SlotsAre sc s.stands.held level own base l core.words) e.lies s.stands.there.words_are)

    abbrev pub arguments : List Word
    arguments = given.arguments

    pub first : Top sc s.stands.held level own base slot (mark ∷ waiting) given.others
    first = top_slot sc s.stands.held level own base (slot ∷ mark ∷ waiting) slot (mark ∷ waiting) given.others given.are refl

    pub second : Top sc s.stands.held level own base mark waiting first.words_below
    second = top_slot sc s.stands.held level own base (mark ∷ waiting) mark waiting first.words_below first.are refl

    abbrev pub more : List Word
    more = second.words_below

    abbrev pub df : ℕ
    df = base + length waiting - newest own base waiting

    pub all_words : core.words ≡ arguments ++ first.word ∷ second.word ∷ more
    all_words = given.is ∙ ap (λ (ws : List Word). arguments ++ ws) (first.is ∙ ap (λ (ws : List Word). first.word ∷ ws) second.is)

    pub as_many : length more ≡ length waiting
    as_many = slots_length sc s.stands.held level own base waiting more second.are

    pub mark_at : core.registers.f ≡ base + length more
    mark_at =
        let here : core.registers.f ≡ base + length waiting = s.stands.there.mark_is ∙ ap (λ (l : List Slot). newest own base l) e.lies ∙ given.mark_is ∙ e.marks in
        omega (arith, here, as_many)

    abbrev pub at : ℕ
    at = length (lower_of core more)

    pub at_is : core.registers.f ≡ at
    at_is = mark_at ∙ sym (length_stack core.below more)

    -- what lies below is less than a stack
    pub room : base + length more + 2 + length arguments ≤ stack_limit
    room = omega (arith, ap length all_words, length-append arguments (first.word ∷ second.word ∷ more), s.small)

    pub own_is : own ≡ length s.stands.frame.lower
    own_is = frame_is tree code texts actor

    pub own_low : length s.stands.frame.lower + 2 + length s.stands.frame.cells ≡ base
    own_low = frame_low tree code texts w lay p part outer core.below s.stands.frame

    pub far : df + newest (length s.stands.frame.lower) base waiting ≡ at
    far =
        let lowest : newest own base waiting < base + length waiting = newest_low own base waiting (omega (arith, own_is, own_low)) in
        let here : newest (length s.stands.frame.lower) base waiting ≡ newest own base waiting = ap (λ (n : ℕ). newest n base waiting) (sym own_is) in
        omega (arith, lowest, here, as_many, length_stack core.below more)

    -- ---- the frame of the parent

    abbrev pub home : Place
    home = e.linked.at

    home_level_is : level_of (block_numbered sc.blocks ((instance_at w h).block)) ≡ length e.linked.more + 2
    home_level_is = e.linked.level_is

    pub level_is : inner_level ≡ length e.linked.more + 3
    level_is =
        omega (arith, level_around sc.blocks j, ap length e.around_is, level_around sc.blocks ((instance_at w h).block), home_level_is)

    abbrev pub frames : List Place
    frames = home ∷ e.linked.more

    abbrev pub display : List (Option Place)
    display = shown (place p at) frames

    linked_there : look_seen img.stacks (linked (place p at) home inner_level) ≡ Ok display
    linked_there = linked_seen (place p at) home frames inner_level (all_linked sc w lay img.stacks h e.linked) (omega (arith, level_is))

    -- ---- what control words hold

    -- the place after the entry can be held
    pub returns : next < end_of_code
    returns =
        let within : next ≤ 6 * length s.stands.there.segment.words =
        next_within (text_in tree texts w part) s.stands.there.segment s.stands.pc level (ops.Plain kinds.Entr) next s.stands.there.spells e.stands in
        omega (arith, within, short core.registers.segment s.stands.there.segment s.stands.there.there, nested.short core.registers.segment)

    pub mark_reads : as_mscw (entered_mark home df) ≡ Some (record { entered = true; stack = home.stack; displacement = home.at; df = df })
    mark_reads =
        as_mscw_mscw_word (record { entered = true; stack = home.stack; displacement = home.at; df = df })
        (omega (arith, e.few), (omega (arith, e.low), (omega (arith, as_many, room), tt)))

    abbrev pub back : Rcw
    back = record { segment = core.registers.segment; psr = next % 6; pir = next / 6; caller_level = core.registers.ll; caller_cells = core.registers.cells; own_level = inner_level }

    few_cells : core.registers.cells ≤ 400
    few_cells =
        omega (
          arith,
          s.stands.counted,
          frame_few tree code texts w lay p part outer core.below s.stands.frame nested.nested,
        )

    -- the caller's level is one that the machine has
    level_low : level ≤ 31
    level_low = omega (arith, runs_low tree code texts w lay p part outer core.below s.stands.frame)

    pub inner_low : inner_level ≤ 31
    inner_low = (nested.nested.each j e.known).low

    pub control_reads : as_rcw (control_word core.registers next inner_level) ≡ Some back
    control_reads =
        as_rcw_rcw_word back (
          omega (arith, s.stands.segment_is, segment_low sc.blocks ((instance_at w part.instance).block ∷ around sc.blocks ((instance_at w part.instance).block)) 1023 nested.nested.procedures_few),
          (omega arith, (omega (arith, returns), (omega (arith, s.stands.there.level_is, level_low), (omega (arith, few_cells), (omega (arith, inner_low), tt))))),
        )

    -- ---- the entry

    abbrev pub m : Mscw
    m = record { entered = false; stack = 0; displacement = 0; df = df }

    pub entry : Enters code img core next arguments first.word second.word more m c home display
    entry =
        record {
          words = all_words;
          few = omega (arith, given.many, e.given_few);
          mark_at = mark_at;
          reads_mark = ap as_mscw second.slot_is ∙ mark_read df (omega (arith, as_many, room));
          unentered = refl;
          leads = e.leads m first.word first.slot_is;
          calls = e.calls first.word first.slot_is;
          no_intrinsic = refl;
          outer = e.linked.entered.control;
          outer_reads = e.linked.entered.controlled;
          is_home = subst (λ (n : ℕ). (e.linked.entered.control.own_level + 1 == n && nat_le 2 e.linked.entered.control.own_level) ≡ true) (sym (level_is ∙ up_one))
              (home_level e.linked.entered.control.own_level (length e.linked.more + 2) e.linked.entered.level_is (omega (arith, e.linked.entered.level_is)));
          returns = returns;
          linked = subst (λ (n : ℕ). look_seen img.stacks (linked (place n core.registers.f) home inner_level) ≡ Ok display) (sym s.has.own)
              (subst (λ (n : ℕ). look_seen img.stacks (linked (place p n) home inner_level) ≡ Ok display) (sym at_is) linked_there);
        }
      where
        up_one : length e.linked.more + 3 ≡ length e.linked.more + 2 + 1
        up_one = omega arith

    pub there : operator_at code core.registers ≡ Ok (ops.Plain kinds.Entr, next)
    there = operator_there sc s.stands.held code (text_in tree texts w part) level s.stands.pc s.stands.slots core (ops.Plain kinds.Entr) next s.stands.there e.stands

    abbrev pub new : Core
    new = with_frame core arguments more df next c home display

    -- ---- what the operator does

    pub shown_here : place_at display inner_level ≡ Some (place p at)
    shown_here =
        let here : inner_level ≡ length frames + 2 = omega (arith, level_is) in
        ap (place_at display) here ∙ shown_top (place p at) frames

    pub new_core : IsCore new
    new_core =
        new_is code (at_operator s.has there) arguments first.word second.word more m c home display entry
        (shown_here ∙ ap (λ (k : ℕ). Some (place k at)) (sym s.has.own) ∙ ap (λ (k : ℕ). Some (place core.registers.stack k)) (sym at_is))

    pub core_at : CoreAt sc [] code (texts.placed (segment_of sc.blocks j)) inner_level begin [] new
    core_at =
        record {
          segment = e.segment;
          there = e.there;
          spells = e.spells;
          level_is = refl;
          place_is = omega arith;
          is = new_core;
          mark_is = at_is ∙ sym (ap at_or shown_here);
          words_are = tt;
        }

    pub entry_raw : raw code img p ≡ gives (with_core img p new)
    entry_raw = enter_raw code (at_operator s.has there) arguments first.word second.word more m c home display entry

    pub entry_not_plain : plain code img p ≡ false
    entry_not_plain =
        action_not_plain code (ops.Plain kinds.Entr) (at_operator s.has there) (enter_class code (at_operator s.has there) arguments first.word second.word more m c home display entry)

    pub entry_action : table code img p ≡ outcomes.gives (with_core img p new) → letter code img p ≡ Some Enter
    entry_action = enter_action code (at_operator s.has there) arguments first.word second.word more m c home display entry
