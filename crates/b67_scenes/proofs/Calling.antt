-- The call of an intrinsic, by what lies above the floor of the frame.
use Rattle.std.proofs.Common.{◌≡◌, refl, sym, ap, ◌∙◌, subst, ℕ, ◌+◌, ◌-◌, ◌<◌, ◌≤◌, ◌^◌, List, [], ◌∷◌, ◌++◌, length, Option, Some, true, false, arith, lit<, append_assoc, length-append, ℤ}
use Rattle.b67_list.proofs.Lists.{get_front}
use Rattle.b67_scenes.proofs.Prelude.{reverse-append, slice_get, reverse, PProgram, Scopes, scopes_of, Value, number, whole_of, Word, as_whole, Place, as_pcw_pcw_word, as_irw, as_sirw, as_mscw, as_pcw, Mscw, Pcw, Sirw, intrinsic_number_of, couple_of_intrinsic, Couple, Intrinsic, Code, words_of, words_or, word_at, intrinsic_pcw, system_stack, place, woken_number, Look, ◌>->◌, look_seen, frame, cell_of, called_by, HasKind, Texts, operands, AreNumbers, Slot, operand, intrinsic, descriptor, mark, slots_length, number_read, Known, ValueIs, newest, SlotsAre, CoreAt, words_are, Top, top_slot, get_seam, reference_read, mark_read, pcw_no_sirw}
use Rattle.algol_tree.specs.declared.tree.Kind.TheVariants as types
use Rattle.algol_meaning.specs.Value.{truth}
use Rattle.b67_control.specs.declared.Irw.{Irw}
use Rattle.b67_ops.specs.declared.intrinsic.Intrinsic.TheVariants as names
use Rattle.b67_ops.specs.declared.Operator.TheVariants as ops
use Rattle.b67_ops.specs.declared.PlainKind.TheVariants as kinds
use Rattle.b67_table.specs.Arguments.{wholes_in, arguments_joined}
use Rattle.b67_table.specs.declared.Cell.{Cell}
use Rattle.b67_table.specs.declared.Reached.{Reached}
use Rattle.b67_table.specs.Look.{valid}
use Rattle.b67_table.specs.References.{cell_in, irw_or_sirw, reached_in, one_sirw}
use Rattle.b67_table.specs.Names.{intrinsic_numbered}
use Rattle.b67_deeds.specs.declared.Letter.{Letter}
use Rattle.b67_letters.specs.Letters.{told_by, letter_of, intrinsic_letter, called_letter, operator_letter}
use Rattle.b67_standing.specs.Stepping.{reference, control}
use Rattle.b67_rows.proofs.EnterRow.{Called}
use Rattle.b67_rows.proofs.IntrinsicRows.{CallsIntrinsic, without_call}
use Rattle.b67_rows.proofs.StackWords.{word_under}
use Rattle.b67_scenes.proofs.Scene.{frame_is, Actor}
use Rattle.b67_scenes.proofs.Staying.{text_in, level_in, most_in, frame_low}

-- ---- the words of intrinsics

abbrev intrinsic_in : Intrinsic → Pcw
intrinsic_in name = record { intrinsic = true; names = false; segment = 0; psr = 0; pir = 0; level = 0; number = intrinsic_number_of name }

-- the word of an intrinsic stands at its number in stack 0
record IsNumbered (name : Intrinsic) : Type 0 where
  pub small : intrinsic_number_of name < 2 ^ 14
  pub lies : slice_get system_stack (0 + intrinsic_number_of name) ≡ Some (intrinsic_pcw (intrinsic_number_of name))
  pub named : intrinsic_numbered (intrinsic_number_of name) ≡ Some name

is_numbered : (name : Intrinsic) → IsNumbered name
is_numbered names.GoTo = record { small = lit< tt; lies = refl; named = refl }
is_numbered names.Select = record { small = lit< tt; lies = refl; named = refl }
is_numbered names.Arrays = record { small = lit< tt; lies = refl; named = refl }
is_numbered names.Event = record { small = lit< tt; lies = refl; named = refl }
is_numbered names.Start = record { small = lit< tt; lies = refl; named = refl }
is_numbered names.Write = record { small = lit< tt; lies = refl; named = refl }
is_numbered names.Wait = record { small = lit< tt; lies = refl; named = refl }
is_numbered names.Cause = record { small = lit< tt; lies = refl; named = refl }
is_numbered names.Reset = record { small = lit< tt; lies = refl; named = refl }
is_numbered names.Happened = record { small = lit< tt; lies = refl; named = refl }
is_numbered names.Procure = record { small = lit< tt; lies = refl; named = refl }
is_numbered names.Liberate = record { small = lit< tt; lies = refl; named = refl }
is_numbered names.CauseAndReset = record { small = lit< tt; lies = refl; named = refl }
is_numbered names.WaitAny = record { small = lit< tt; lies = refl; named = refl }
is_numbered names.Available = record { small = lit< tt; lies = refl; named = refl }
is_numbered names.Fix = record { small = lit< tt; lies = refl; named = refl }

pcw_read : (name : Intrinsic) → as_pcw (intrinsic_pcw (intrinsic_number_of name)) ≡ Some (intrinsic_in name)
pcw_read name = as_pcw_pcw_word (intrinsic_in name) (lit< tt, (lit< tt, (lit< tt, (lit< tt, (omega (arith, (is_numbered name).small), tt)))))

-- ---- the arguments

-- the whole numbers that values are
abbrev pub wholes_of : List Value → List ℤ
wholes_of [] = []
wholes_of (v ∷ vs) = whole_of v ∷ wholes_of vs

number_word : (v : Value) (w : Word) → HasKind types.Number v → ValueIs v w → as_whole w ≡ Some (whole_of v)
number_word (number z) w fits is = number_read z w is
number_word (truth b) w fits is = absurd fits

module _ (sc : Scopes) (known : List Known) (level home base : ℕ) where
  -- slots above others: their words, and the other words
  pub record Lying (slots below : List Slot) (all : List Word) : Type 0 where
    pub arguments : List Word
    pub others : List Word
    pub is : all ≡ arguments ++ others
    pub are : SlotsAre sc known level home base below others
    pub mark_is : newest home base slots ≡ newest home base below
    pub many : length slots ≡ length arguments + length below

  -- .. numbers
  pub record Given (vs : List Value) (below : List Slot) (all : List Word) : Type 0 where
    pub lying : Lying (operands vs below) below all
    pub wholes : wholes_in (reverse lying.arguments) ≡ Some (wholes_of vs)

  pub given : (vs : List Value) (below : List Slot) (all : List Word) → AreNumbers vs → SlotsAre sc known level home base (operands vs below) all → Given vs below all
  given [] below all fits are =
      record { lying = record { arguments = []; others = all; is = refl; are = are; mark_is = refl; many = omega arith }; wholes = refl }
  given (v ∷ vs) below all fits are =
      let g : Given vs (operand v ∷ below) all = given vs (operand v ∷ below) all fits.1 are in
      let t : Top sc known level home base (operand v) below g.lying.others = top_slot sc known level home base (operand v ∷ below) (operand v) below g.lying.others g.lying.are refl in
      let first : as_whole t.word ≡ Some (whole_of v) = number_word v t.word fits.0 t.slot_is in
      record {
        lying = record {
          arguments = g.lying.arguments ++ t.word ∷ [];
          others = t.words_below;
          is = g.lying.is ∙ ap (λ (ws : List Word). g.lying.arguments ++ ws) t.is ∙ sym (append_assoc g.lying.arguments (t.word ∷ []) t.words_below);
          are = t.are;
          mark_is = g.lying.mark_is;
          many = omega (arith, g.lying.many, length-append g.lying.arguments (t.word ∷ []));
        };
        wholes =
            ap wholes_in (reverse-append g.lying.arguments (t.word ∷ []))
            ∙ ap (λ (o : Option ℤ). arguments_joined o (wholes_in (reverse g.lying.arguments))) first
            ∙ ap (λ (o : Option (List ℤ)). arguments_joined (Some (whole_of v)) o) g.wholes;
      }

  -- .. nothing, or the reference of a cell
  abbrev pub none_lying : (below : List Slot) (all : List Word) → SlotsAre sc known level home base below all → Lying below below all
  none_lying below all are = record { arguments = []; others = all; is = refl; are = are; mark_is = refl; many = omega arith }

  abbrev pub one_lying : (couple : Couple) (below : List Slot) (all : List Word) (t : Top sc known level home base (reference couple) below all) → Lying (reference couple ∷ below) below all
  one_lying couple below all t = record { arguments = t.word ∷ []; others = t.words_below; is = t.is; are = t.are; mark_is = refl; many = omega arith }

  -- ---- marks

  -- the newest mark lies below all that lies above the floor
  pub newest_low : (slots : List Slot) → home ≤ base → newest home base slots ≤ base + length slots
  newest_low [] low = omega (arith, low)
  newest_low (operand v ∷ slots) low = omega (arith, newest_low slots low)
  newest_low (reference n ∷ slots) low = omega (arith, newest_low slots low)
  newest_low (intrinsic i ∷ slots) low = omega (arith, newest_low slots low)
  newest_low (control c ∷ slots) low = omega (arith, newest_low slots low)
  newest_low (descriptor h ∷ slots) low = omega (arith, newest_low slots low)
  newest_low (mark ∷ slots) low = omega arith

  pub record Marked (lower : List Word) (all : List Word) (at : ℕ) : Type 0 where
    pub word : Word
    pub lies : slice_get (lower ++ reverse all) at ≡ Some word
    pub m : Mscw
    pub reads : as_mscw word ≡ Some m

  module _ (lower : List Word) (long : length lower ≡ base) (own : Word) (own_lies : slice_get lower home ≡ Some own) (own_mark : Mscw) (own_reads : as_mscw own ≡ Some own_mark) where
    under : (above : List Word) (x : Word) (ws : List Word) (at : ℕ) → Marked lower ((above ++ x ∷ []) ++ ws) at → Marked lower (above ++ x ∷ ws) at
    under above x ws at k = subst (λ (all : List Word). Marked lower all at) (append_assoc above (x ∷ []) ws) k

    -- a mark stands where the newest one lies
    pub marked_at : (slots : List Slot) (above all : List Word) → SlotsAre sc known level home base slots all → base + length slots ≤ 2 ^ 16 → Marked lower (above ++ all) (newest home base slots)
    marked_at [] above all are small = record { word = own; lies = get_front lower (reverse (above ++ all)) home own own_lies; m = own_mark; reads = own_reads }
    marked_at (slot ∷ slots) above [] are small = absurd are
    marked_at (operand v ∷ slots) above (x ∷ ws) are small = under above x ws (newest home base slots) (marked_at slots (above ++ x ∷ []) ws are.1 (omega (arith, small)))
    marked_at (reference n ∷ slots) above (x ∷ ws) are small = under above x ws (newest home base slots) (marked_at slots (above ++ x ∷ []) ws are.1 (omega (arith, small)))
    marked_at (intrinsic i ∷ slots) above (x ∷ ws) are small = under above x ws (newest home base slots) (marked_at slots (above ++ x ∷ []) ws are.1 (omega (arith, small)))
    marked_at (control c ∷ slots) above (x ∷ ws) are small = under above x ws (newest home base slots) (marked_at slots (above ++ x ∷ []) ws are.1 (omega (arith, small)))
    marked_at (descriptor h ∷ slots) above (x ∷ ws) are small = under above x ws (newest home base slots) (marked_at slots (above ++ x ∷ []) ws are.1 (omega (arith, small)))
    marked_at (mark ∷ slots) above (x ∷ ws) are small =
        let df = base + length slots - newest home base slots in
        let low : df < 2 ^ 16 = omega (arith, small) in
        record {
          word = x;
          lies = word_under lower above x ws (base + length slots) (omega (arith, long, slots_length sc known level home base slots ws are.1));
          m = record { entered = false; stack = 0; displacement = 0; df = df };
          reads = ap as_mscw are.0 ∙ mark_read df low;
        }

-- ---- the call, in a scene

module _ (tree : PProgram) (code : Code) (texts : Texts) (actor : Actor tree code texts) where
  open actor use {w, lay, img, p, part, outer, core, s}

  module _ (name : Intrinsic) (slots below : List Slot) (lies : s.stands.slots ≡ slots) where
    abbrev sc : Scopes
    sc = scopes_of tree

    abbrev home : ℕ
    home = frame core.registers

    abbrev base : ℕ
    base = length core.below

    -- these words are the arguments of an intrinsic, and above the mark that gives way nothing else lies
    pub record IsEntered (arguments : List Word) : Type 0 where
      pub reference : Word
      pub marked : Word
      pub others : List Word
      pub calls : CallsIntrinsic img core name arguments reference marked others
      pub action : operator_letter (ops.Plain kinds.Entr) img core.registers ≡ Some (letter_of (woken_number img.numbers core.registers.stack) name)
      pub after_at : (pc : ℕ) → CoreAt sc s.stands.held code (text_in tree texts w part) (level_in tree w part) pc below (without_call core others calls.m.df pc)
      pub few : length below ≤ most_in tree w part

    -- the frame's own mark
    home_is : home ≡ length s.stands.frame.lower
    home_is = frame_is tree code texts actor

    home_low : home ≤ base
    home_low = omega (arith, home_is, frame_low tree code texts w lay p part outer core.below s.stands.frame)

    own_lies : slice_get core.below home ≡ Some s.stands.frame.mark
    own_lies =
        ap (λ (ws : List Word). slice_get ws home) s.stands.frame.words_are
        ∙ get_seam s.stands.frame.lower s.stands.frame.mark (s.stands.frame.control ∷ s.stands.frame.cells) home home_is

    intrinsic_is : IsNumbered name
    intrinsic_is = is_numbered name

    entry_lies : word_at img.stacks (record { stack = 0; at = 0 + intrinsic_number_of name }) ≡ Some (intrinsic_pcw (intrinsic_number_of name))
    entry_lies = ap (λ (o : Option (List Word)). slice_get (words_or o) (0 + intrinsic_number_of name)) s.by.system ∙ intrinsic_is.lies

    module _ (g : Lying sc s.stands.held (level_in tree w part) home base slots (intrinsic name ∷ mark ∷ below) core.words) (i : Top sc s.stands.held (level_in tree w part) home base (intrinsic name) (mark ∷ below) g.others)
        (k : Top sc s.stands.held (level_in tree w part) home base mark below i.words_below) where
      abbrev df : ℕ
      df = base + length below - newest home base below

      many : length s.stands.slots ≡ length g.arguments + (length below + 2)
      many = ap length lies ∙ g.many ∙ omega arith

      room : base + length below + 2 ≤ 2 ^ 16
      room = omega (arith, many, s.small, slots_length sc s.stands.held (level_in tree w part) home base s.stands.slots core.words s.stands.there.words_are)

      long : length k.words_below ≡ length below
      long = slots_length sc s.stands.held (level_in tree w part) home base below k.words_below k.are

      all_words : core.words ≡ g.arguments ++ i.word ∷ k.word ∷ k.words_below
      all_words = g.is ∙ ap (λ (ws : List Word). g.arguments ++ ws) (i.is ∙ ap (λ (ws : List Word). i.word ∷ ws) k.is)

      mark_at : core.registers.f ≡ base + length below
      mark_at = s.stands.there.mark_is ∙ ap (λ (l : List Slot). newest home base l) lies ∙ g.mark_is

      low : newest home base below ≤ base + length below
      low = newest_low sc s.stands.held (level_in tree w part) home base below home_low

      reads_reference : as_irw i.word ≡ Some (record { level = 0; index = intrinsic_number_of name })
      reads_reference = ap as_irw i.slot_is ∙ reference_read (couple_of_intrinsic name) (lit< tt) intrinsic_is.small

      lower : Marked sc s.stands.held (level_in tree w part) home base core.below ((g.arguments ++ i.word ∷ k.word ∷ []) ++ k.words_below) (newest home base below)
      lower =
          marked_at sc s.stands.held (level_in tree w part) home base core.below refl s.stands.frame.mark own_lies _ s.stands.frame.mark_is below
          (g.arguments ++ i.word ∷ k.word ∷ []) k.words_below k.are (omega (arith, room))

      stack_is : words_of img.stacks core.registers.stack ≡ core.below ++ reverse ((g.arguments ++ i.word ∷ k.word ∷ []) ++ k.words_below)
      stack_is =
          words_are img p core s.has
          ∙ ap (λ (ws : List Word). core.below ++ reverse ws) (all_words ∙ sym (append_assoc g.arguments (i.word ∷ k.word ∷ []) k.words_below))

      lower_lies : word_at img.stacks (place core.registers.stack (core.registers.f - df)) ≡ Some lower.word
      lower_lies =
          let at : core.registers.f - df ≡ newest home base below = omega (arith, mark_at, low) in
          ap (λ (n : ℕ). slice_get (words_of img.stacks core.registers.stack) n) at
          ∙ ap (λ (ws : List Word). slice_get ws (newest home base below)) stack_is
          ∙ lower.lies

      called : Called core g.arguments i.word k.word k.words_below
      called = record { words = all_words; mark_at = omega (arith, mark_at, long) }

      abbrev calls : CallsIntrinsic img core name g.arguments i.word k.word k.words_below
      calls =
          record {
            called = called;
            m = record { entered = false; stack = 0; displacement = 0; df = df };
            reads_mark = ap as_mscw k.slot_is ∙ mark_read df (omega (arith, room));
            unentered = refl;
            level = 0;
            index = intrinsic_number_of name;
            frame = place 0 0;
            reads = reads_reference;
            shown = s.sees;
            entry = intrinsic_pcw (intrinsic_number_of name);
            lies = entry_lies;
            no_sirw = pcw_no_sirw name;
            pcw = intrinsic_in name;
            reads_entry = pcw_read name;
            is_intrinsic = refl;
            numbered = intrinsic_is.named;
            short = omega (arith, mark_at);
            lower = lower.word;
            lower_lies = lower_lies;
            lower_mark = lower.m;
            reads_lower = lower.reads;
          }

      reference_lies : word_at img.stacks (place core.registers.stack (core.registers.f + 1)) ≡ Some i.word
      reference_lies =
          ap (λ (ws : List Word). slice_get ws (core.registers.f + 1)) (words_are img p core s.has ∙ ap (λ (ws : List Word). core.below ++ reverse ws) all_words)
          ∙ word_under core.below g.arguments i.word (k.word ∷ k.words_below) (core.registers.f + 1) (omega (arith, mark_at, long))

      abbrev entry_cell : Cell
      entry_cell = record { frame = place 0 0; index = intrinsic_number_of name }

      abbrev found_in : Look Pcw → Option Letter
      found_in l = told_by (called_letter img core.registers.stack) (look_seen img.stacks l)

      -- the intrinsic is what ENTR calls
      action_is_called : operator_letter (ops.Plain kinds.Entr) img core.registers ≡ Some (letter_of (woken_number img.numbers core.registers.stack) name)
      action_is_called =
          ap (λ (o : Option Word). found_in (valid o >-> (λ (above : Word). called_by above (cell_of core.registers above)))) reference_lies
          ∙ ap (λ (o : Option Irw). found_in (called_by i.word (irw_or_sirw core.registers o (as_sirw i.word)))) reads_reference
          ∙ ap (λ (o : Option Place). found_in (called_by i.word (cell_in o (intrinsic_number_of name)))) s.sees
          ∙ ap (λ (o : Option Word). found_in (reached_in entry_cell o >-> (λ (v : Reached). one_sirw (as_sirw v.word) v) >-> (λ (v : Reached). valid (as_pcw v.word)))) entry_lies
          ∙ ap (λ (o : Option Sirw). found_in (one_sirw o (record { word = intrinsic_pcw (intrinsic_number_of name); cell = entry_cell }) >-> (λ (v : Reached). valid (as_pcw v.word)))) (pcw_no_sirw name)
          ∙ ap (λ (o : Option Pcw). found_in (valid o)) (pcw_read name)
          ∙ ap (λ (o : Option Intrinsic). intrinsic_letter (woken_number img.numbers core.registers.stack) o) intrinsic_is.named

      after_call : (pc : ℕ) → CoreAt sc s.stands.held code (text_in tree texts w part) (level_in tree w part) pc below (without_call core k.words_below df pc)
      after_call pc =
          record {
            segment = s.stands.there.segment;
            there = s.stands.there.there;
            spells = s.stands.there.spells;
            level_is = s.stands.there.level_is;
            place_is = refl;
            is = record { bottom = s.has.is.bottom; top = omega (arith, mark_at, long) };
            mark_is = omega (arith, mark_at, low);
            words_are = k.are;
          }

      is_entered : IsEntered g.arguments
      is_entered =
          record {
            reference = i.word;
            marked = k.word;
            others = k.words_below;
            calls = calls;
            action = action_is_called;
            after_at = after_call;
            few = omega (arith, many, s.stands.few);
          }

    pub entered_with : (g : Lying sc s.stands.held (level_in tree w part) home base slots (intrinsic name ∷ mark ∷ below) core.words) → IsEntered g.arguments
    entered_with g =
        let i : Top sc s.stands.held (level_in tree w part) home base (intrinsic name) (mark ∷ below) g.others =
        top_slot sc s.stands.held (level_in tree w part) home base (intrinsic name ∷ mark ∷ below) (intrinsic name) (mark ∷ below) g.others g.are refl in
        let k : Top sc s.stands.held (level_in tree w part) home base mark below i.words_below =
        top_slot sc s.stands.held (level_in tree w part) home base (mark ∷ below) mark below i.words_below i.are refl in
        is_entered g i k

-- numbers are the arguments
module _ (tree : PProgram) (code : Code) (texts : Texts) (actor : Actor tree code texts) where
  open actor use {w, img, part, core, s}

  module _ (name : Intrinsic) (vs : List Value) (below : List Slot) (fits : AreNumbers vs) (lies : s.stands.slots ≡ operands vs (intrinsic name ∷ mark ∷ below)) where
    pub record IsCall : Type 0 where
      pub arguments : List Word
      pub reference : Word
      pub marked : Word
      pub others : List Word
      pub calls : CallsIntrinsic img core name arguments reference marked others
      pub wholes : wholes_in (reverse arguments) ≡ Some (wholes_of vs)
      pub action : operator_letter (ops.Plain kinds.Entr) img core.registers ≡ Some (letter_of (woken_number img.numbers core.registers.stack) name)
      pub after_at : (pc : ℕ) → CoreAt (scopes_of tree) s.stands.held code (text_in tree texts w part) (level_in tree w part) pc below (without_call core others calls.m.df pc)
      pub few : length below ≤ most_in tree w part

    pub call : IsCall
    call =
        let g : Given (scopes_of tree) s.stands.held (level_in tree w part) (frame core.registers) (length core.below) vs (intrinsic name ∷ mark ∷ below) core.words =
        given (scopes_of tree) s.stands.held (level_in tree w part) (frame core.registers) (length core.below) vs (intrinsic name ∷ mark ∷ below) core.words fits
        (subst (λ (l : List Slot). SlotsAre (scopes_of tree) s.stands.held (level_in tree w part) (frame core.registers) (length core.below) l core.words) lies s.stands.there.words_are) in
        let e : IsEntered tree code texts actor name (operands vs (intrinsic name ∷ mark ∷ below)) below lies g.lying.arguments =
        entered_with tree code texts actor name (operands vs (intrinsic name ∷ mark ∷ below)) below lies g.lying in
        record {
          arguments = g.lying.arguments;
          reference = e.reference;
          marked = e.marked;
          others = e.others;
          calls = e.calls;
          wholes = g.wholes;
          action = e.action;
          after_at = e.after_at;
          few = e.few;
        }
