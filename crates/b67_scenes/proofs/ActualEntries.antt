-- The entry of an actual's code by the machine, where a process stands at VALC or EVAL.
use Rattle.std.proofs.Common.{◌≡◌, refl, sym, ap, ◌∙◌, subst, ℕ, ◌+◌, ◌-◌, ◌*◌, ◌/◌, ◌%◌, ◌≤◌, ◌<◌, ◌^◌, List, [], ◌∷◌, ◌++◌, length, Option, Some, Ok, Bool, true, false, arith, length-append}
use Rattle.b67_cores.proofs.Operating.{newest_low}
use Rattle.b67_scenes.proofs.Prelude.{◌==◌, ◌&&◌, nat_le, block_numbered, around, level_of, PExpr, PProgram, Scopes, scopes_of, Kind, instance_at, segment_of, Word, Place, as_mscw_mscw_word, as_rcw_rcw_word, as_mscw, as_rcw, place_at, Pcw, Rcw, Operator, Code, stack_limit, word_at, numbered_within, place, linked, end_of_code, entered_mark, control_word, look_seen, read_as, frame, at_or, has_place, Has, LiesNested, Texts, Slot, slots_length, Core, IsCore, newest, SlotsAre, CoreAt, some_same, IsShortSegment, Links, shown, shown_top, linked_seen, lower_of, next_within, segment_low, length_stack, Linked, all_linked, runs_low, IsActual, IsInReach}
use Rattle.b67_word.specs.Word as words
use Rattle.b67_table.specs.Linkage as linkage
use Rattle.b67_standing.specs.Standing.{selected}
use Rattle.b67_rows.proofs.AccidentalRow.{with_evaluation, Evaluates, evaluation_is}
use Rattle.b67_rows.proofs.Spelled.{HasText, HaveTexts}
use Rattle.b67_frames.proofs.Linked.{linked as linked_down}
use Rattle.b67_scenes.proofs.ActualHomes.{ActualHome, routine_of}
use Rattle.b67_scenes.proofs.Entries.{frame_few, home_level}
use Rattle.b67_scenes.proofs.Finding.{Found, found_laid, entered_of}
use Rattle.b67_scenes.proofs.Led.{reached_stands}
use Rattle.b67_scenes.proofs.Worlds.{placed_of}
use Rattle.b67_scenes.proofs.Scene.{frame_is, Actor}
use Rattle.b67_scenes.proofs.Staying.{text_in, level_in, frame_low}

-- ---- the selector

-- as a number
abbrev pub selector_of : Bool → ℕ
selector_of true = 1
selector_of false = 0

-- it is no mark
selected_mark : (names selector : Bool) (home base : ℕ) → newest home base (selected names selector) ≡ home
selected_mark true selector home base = refl
selected_mark false selector home base = refl

selected_are : (sc : Scopes) (level home base : ℕ) (names selector : Bool) → SlotsAre sc [] level home base (selected names selector) (linkage.selected names (selector_of selector))
unfolding words.operand
selected_are sc level home base true true = (record { tag = refl; bits = omega arith; lowest = refl }, tt)
selected_are sc level home base true false = (record { tag = refl; bits = omega arith; lowest = refl }, tt)
selected_are sc level home base false selector = tt

module _ (tree : PProgram) (code : Code) (texts : Texts) (nested : LiesNested tree) (short : IsShortSegment tree code) (stand : HaveTexts tree code texts)
    (actor : Actor tree code texts) where
  open actor use {w, lay, img, p, part, outer, core, s}

  abbrev sc : Scopes
  sc = scopes_of tree

  abbrev level : ℕ
  level = level_in tree w part

  abbrev own : ℕ
  own = frame core.registers

  abbrev base : ℕ
  base = length core.below

  -- the place after an operator can be held
  pub can_return : (op : Operator) (next : ℕ) → Has (text_in tree texts w part) level s.stands.pc op next → next < end_of_code
  can_return op next stands =
      let within : next ≤ 6 * length s.stands.there.segment.words = next_within (text_in tree texts w part) s.stands.there.segment s.stands.pc level op next s.stands.there.spells stands in
      omega (arith, within, short core.registers.segment s.stands.there.segment s.stands.there.there, nested.short core.registers.segment)

  -- An operator takes these words. Those stay that are the words of what lies there while the part waits; the place after the operator is that.
  pub record Takes (next : ℕ) (taken rest : List Word) (waiting : List Slot) : Type 0 where
    pub parted : core.words ≡ taken ++ rest
    pub are : SlotsAre sc s.stands.held level own base waiting rest
    pub mark_at : core.registers.f ≡ newest own base waiting
    pub returns : next < end_of_code

  -- The actual whose code is entered, of which instance, and the words of the stack.
  pub record ActualEntry : Type 0 where
    pub next : ℕ
    pub taken : List Word
    pub more : List Word
    pub waiting : List Slot
    pub takes : Takes next taken more waiting
    pub instance : ℕ
    pub actual : PExpr
    pub kind : Kind
    pub word : Word
    pub denotes : IsActual sc w lay (IsInReach w (part ∷ outer)) instance actual kind word
    pub home : ActualHome tree code texts nested.nested actor instance actual kind word denotes

  module _ (entry : ActualEntry) where
    open entry use {next, taken, more as rest, waiting, takes as t, instance as i, actual as e, denotes as is, home as h}

    -- the block in whose text the actual stands, and the level at which its code runs
    abbrev pub block : ℕ
    block = (instance_at w i).block

    abbrev pub inner_level : ℕ
    inner_level = level_of (block_numbered sc.blocks block) + 1

    abbrev pub c : Pcw
    c = routine_of sc block e h.at

    abbrev pub f : Found tree code texts w lay img i
    f = h.seen_there.found

    abbrev pub high : ℕ
    high = length f.lies.frame.lower

    abbrev pub home : Place
    home = place f.number high

    -- ---- the words

    pub as_many : length rest ≡ length waiting
    as_many = slots_length sc s.stands.held level own base waiting rest t.are

    abbrev pub at : ℕ
    at = length (lower_of core rest)

    pub at_is : at ≡ base + length rest
    at_is = length_stack core.below rest

    pub own_is : own ≡ length s.stands.frame.lower
    own_is = frame_is tree code texts actor

    pub own_low : length s.stands.frame.lower + 2 + length s.stands.frame.cells ≡ base
    own_low = frame_low tree code texts w lay p part outer core.below s.stands.frame

    pub newer : core.registers.f < at
    newer =
        let lowest : newest own base waiting < base + length waiting = newest_low own base waiting (omega (arith, own_is, own_low)) in
        omega (arith, lowest, t.mark_at, as_many, at_is)

    abbrev pub df : ℕ
    df = at - core.registers.f

    pub far : df + newest (length s.stands.frame.lower) base waiting ≡ at
    far =
        let here : newest (length s.stands.frame.lower) base waiting ≡ newest own base waiting = ap (λ (n : ℕ). newest n base waiting) (sym own_is) in
        omega (arith, newer, here, t.mark_at)

    -- ---- the frame of the instance, and those down its links

    pub l : Linked sc w lay img.stacks i
    l =
        linked_down sc w lay img.stacks (placed_of tree code texts w lay img s.by s.ok) (entered_of tree code texts w lay img s.by s.ok) i
        (reached_stands tree code texts actor i is.own)

    same_at : l.at ≡ home
    same_at = some_same (sym l.laid ∙ found_laid tree code texts w lay img i f)

    abbrev pub frames : List Place
    frames = home ∷ l.more

    links_there : Links img.stacks home frames
    links_there = subst (λ (g : Place). Links img.stacks g (g ∷ l.more)) same_at (all_linked sc w lay img.stacks i l)

    block_level : level_of (block_numbered sc.blocks block) ≡ length l.more + 2
    block_level = l.level_is

    pub level_is : inner_level ≡ length frames + 2
    level_is = omega (arith, block_level)

    abbrev pub display : List (Option Place)
    display = shown (place p at) frames

    linked_there : look_seen img.stacks (linked (place p at) home inner_level) ≡ Ok display
    linked_there = linked_seen (place p at) home frames inner_level links_there level_is

    outer_reads : read_as as_rcw (word_at img.stacks (place f.number (high + 1))) ≡ Some l.entered.control
    outer_reads = subst (λ (g : Place). read_as as_rcw (word_at img.stacks (place g.stack (g.at + 1))) ≡ Some l.entered.control) same_at l.entered.controlled

    pub evaluates : Evaluates img core next taken rest c home display
    evaluates =
        record {
          parted = t.parted;
          newer = newer;
          outer = l.entered.control;
          outer_reads = outer_reads;
          is_home = subst (λ (n : ℕ). (l.entered.control.own_level + 1 == n && nat_le 2 l.entered.control.own_level) ≡ true) (sym up_one)
              (home_level l.entered.control.own_level (length l.more + 2) l.entered.level_is (omega (arith, l.entered.level_is)));
          returns = t.returns;
          linked = subst (λ (n : ℕ). look_seen img.stacks (linked (place n at) home inner_level) ≡ Ok display) (sym s.has.own) linked_there;
        }
      where
        up_one : inner_level ≡ length l.more + 2 + 1
        up_one = omega (arith, block_level)

    -- ---- the mark and the control word

    low_number : f.number < 2 ^ 10
    low_number = omega (arith, numbered_within w.processes f.number f.process f.is, s.by.few)

    pub mark_reads : at < stack_limit → as_mscw (entered_mark home df) ≡ Some (record { entered = true; stack = f.number; displacement = high; df = df })
    mark_reads small =
        as_mscw_mscw_word (record { entered = true; stack = f.number; displacement = high; df = df })
        (low_number, (omega (arith, h.below, f.small), (omega (arith, small), tt)))

    abbrev pub back : Rcw
    back = record { segment = core.registers.segment; psr = next % 6; pir = next / 6; caller_level = core.registers.ll; caller_cells = core.registers.cells; own_level = inner_level }

    few_cells : core.registers.cells ≤ 400
    few_cells =
        omega (
          arith,
          s.stands.counted,
          frame_few tree code texts w lay p part outer core.below s.stands.frame nested.nested,
        )

    level_low : level ≤ 31
    level_low = omega (arith, runs_low tree code texts w lay p part outer core.below s.stands.frame)

    pub inner_low : inner_level < 32
    inner_low = omega (arith, h.fits.1.1.1.0)

    pub control_reads : as_rcw (control_word core.registers next inner_level) ≡ Some back
    control_reads =
        as_rcw_rcw_word back (
          omega (arith, s.stands.segment_is, segment_low sc.blocks ((instance_at w part.instance).block ∷ around sc.blocks ((instance_at w part.instance).block)) 1023 nested.nested.procedures_few),
          (omega arith, (omega (arith, t.returns), (omega (arith, s.stands.there.level_is, level_low), (omega (arith, few_cells), (omega (arith, inner_low), tt))))),
        )

    -- ---- the core in the frame

    pub shown_here : place_at display inner_level ≡ Some (place p at)
    shown_here = ap (place_at display) level_is ∙ shown_top (place p at) frames

    module _ (selector : Bool) where
      abbrev pub new : Core
      new = with_evaluation core rest next c home display (selector_of selector)

      pub new_core : IsCore new
      new_core =
          evaluation_is img p core s.has next taken rest c home display evaluates (selector_of selector) (shown_here ∙ ap (λ (k : ℕ). Some (place k at)) (sym s.has.own))

      pub new_long : length new.below ≡ at + 2
      new_long = length-append (lower_of core rest) (entered_mark home df ∷ control_word core.registers next inner_level ∷ [])

      text : HasText code texts (segment_of sc.blocks block)
      text = stand block

      -- it stands at the start of the actual's code
      pub core_at : CoreAt sc [] code (texts.placed (segment_of sc.blocks block)) inner_level h.at (selected (has_place e) selector) new
      core_at =
          record {
            segment = text.segment;
            there = text.there;
            spells = text.spells;
            level_is = refl;
            place_is = omega arith;
            is = new_core;
            mark_is = sym (selected_mark (has_place e) selector (frame new.registers) (length new.below) ∙ ap at_or shown_here);
            words_are = selected_are sc inner_level (frame new.registers) (length new.below) (has_place e) selector;
          }
