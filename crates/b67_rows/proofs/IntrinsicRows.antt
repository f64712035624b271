-- WRITE and SELECT.
use Rattle.std.proofs.Common.{◌≡◌, refl, sym, ap, ◌∙◌, ℕ, ◌+◌, ◌-◌, ◌*◌, ◌≤◌, List, [], ◌∷◌, ◌++◌, take, Option, Some, None, Bool, true, false, append_assoc, ℤ}
use Rattle.b67_rows.proofs.Prelude.{if◌then◌else◌, reverse, pos, Word, Place, as_irw, as_sirw, as_mscw, as_pcw, Mscw, Pcw, Registers, Code, words_of, word_at, with_stack, if_chained, finished_at, place, mark_at, chain_broken, Effect, gives, faults, Image, with_stacks, with_registers, intrinsic_row, end_of_code, found, ◌>->◌, valid, chained, read_as, intrinsic_numbered, display_at, Program, effect_of, asked, see, answer, ◌>>=◌, Core, with_core}
use Rattle.b67_num.specs.declared.FaultKind.TheVariants.{CaseIndex}
use Rattle.b67_ops.specs.declared.Operator.TheVariants as ops
use Rattle.b67_ops.specs.declared.PlainKind.TheVariants as kinds
use Rattle.b67_ops.specs.declared.intrinsic.Intrinsic.{Intrinsic}
use Rattle.b67_ops.specs.declared.intrinsic.Intrinsic.TheVariants.{Write, Select}
use Rattle.b67_table.specs.declared.Class.TheVariants as classes
use Rattle.b67_table.specs.Lines.{line_for}
use Rattle.b67_table.specs.Program.{line}
use Rattle.b67_table.specs.Arguments.{Three, three_in, wholes_in}
use Rattle.b67_table.specs.Intrinsics.{case_in, case_place, gone_to_case}
use Rattle.b67_table.specs.Rows.{row, enter}
use Rattle.b67_table.specs.Table.{raw, class_at}
use Rattle.b67_rows.proofs.Rows.{raw_is, words_are}
use Rattle.b67_rows.proofs.StackWords.{cut_stack}
use Rattle.b67_rows.proofs.StoreRow.{most_is}
use Rattle.b67_rows.proofs.EnterRow.{Called, enter_asked, enter_does, EntersIntrinsic}
use Rattle.b67_rows.proofs.AtOperator.{AtOperator}

-- the core up to below a mark, with the mark below it in F
abbrev pub without_call : Core → List Word → ℕ → ℕ → Core
without_call core below df pc =
    record core { words = below; registers = record core.registers { s = core.registers.f + 0; f = core.registers.f - df; place = pc } }

-- an intrinsic is called by a reference to its word in stack 0
pub record CallsIntrinsic (img : Image) (core : Core) (name : Intrinsic) (arguments : List Word) (reference marked : Word) (below : List Word) : Type 0 where
  pub called : Called core arguments reference marked below
  pub m : Mscw
  pub reads_mark : as_mscw marked ≡ Some m
  pub unentered : m.entered ≡ false
  pub level : ℕ
  pub index : ℕ
  pub frame : Place
  pub reads : as_irw reference ≡ Some (record { level = level; index = index })
  pub shown : display_at core.registers level ≡ Some frame
  pub entry : Word
  pub lies : word_at img.stacks (record { stack = frame.stack; at = frame.at + index }) ≡ Some entry
  pub no_sirw : as_sirw entry ≡ None
  pub pcw : Pcw
  pub reads_entry : as_pcw entry ≡ Some pcw
  pub is_intrinsic : pcw.intrinsic ≡ true
  pub numbered : intrinsic_numbered pcw.number ≡ Some name
  -- a mark stands where the one at F says that one stands
  pub short : m.df ≤ core.registers.f
  pub lower : Word
  pub lower_lies : word_at img.stacks (place core.registers.stack (core.registers.f - m.df)) ≡ Some lower
  pub lower_mark : Mscw
  pub reads_lower : as_mscw lower ≡ Some lower_mark

module _ (code : Code) (here : AtOperator code (ops.Plain kinds.Entr)) (name : Intrinsic) (arguments : List Word) (reference marked : Word) (below : List Word)
    (c : CallsIntrinsic here.img here.core name arguments reference marked below) where
  open here use {img, p, core, has, next}

  abbrev enters : EntersIntrinsic img core
  enters = record {
    arguments = arguments;
    reference = reference;
    marked = marked;
    below = below;
    called = c.called;
    m = c.m;
    reads_mark = c.reads_mark;
    unentered = c.unentered;
    level = c.level;
    index = c.index;
    frame = c.frame;
    reads = c.reads;
    shown = c.shown;
    entry = c.entry;
    lies = c.lies;
    no_sirw = c.no_sirw;
    pcw = c.pcw;
    reads_entry = c.reads_entry;
    is_intrinsic = c.is_intrinsic;
  }

  abbrev r : Registers
  r = core.registers

  abbrev pub tested : Program → Effect Image
  tested t = effect_of p img (asked img t)

  -- what its test answers
  pub entered_asked : asked img (enter code core.registers next) ≡ asked img (intrinsic_row (Some name) code core.registers next c.m (reverse arguments))
  entered_asked =
      enter_asked code here enters
      ∙ ap (λ (o : Option Intrinsic). asked img (intrinsic_row o code r next c.m (reverse arguments))) c.numbered

  pub entered : raw code img p ≡ tested (intrinsic_row (Some name) code r next c.m (reverse arguments))
  unfolding row
  entered =
      raw_is code (ops.Plain kinds.Entr) here
      ∙ enter_does code here enters
      ∙ ap (λ (o : Option Intrinsic). tested (intrinsic_row o code r next c.m (reverse arguments))) c.numbered

  pub cut_words : take r.f (words_of img.stacks r.stack) ≡ core.below ++ reverse below
  cut_words =
      ap (take r.f) (words_are img p core has
      ∙ ap (λ (ws : List Word). core.below ++ reverse ws) (c.called.words ∙ sym (append_assoc arguments (reference ∷ marked ∷ []) below)))
      ∙ cut_stack core.below (arguments ++ reference ∷ marked ∷ []) below r.f c.called.mark_at

  pub chained_asked : (t : Program) → asked img (if_chained core.registers c.m t) ≡ asked img t
  chained_asked t =
      ap (λ (b : Bool). asked img (see (if b then mark_at (place r.stack (r.f - c.m.df)) else chain_broken) >>= (λ (lower : Mscw). t))) (most_is c.m.df r.f c.short)
      ∙ ap (λ (o : Option Word). asked img (see (chained (read_as as_mscw o)) >>= (λ (lower : Mscw). t))) c.lower_lies
      ∙ ap (λ (o : Option Mscw). asked img (see (chained o) >>= (λ (lower : Mscw). t))) c.reads_lower

  pub chained_is : (t : Program) → tested (if_chained r c.m t) ≡ tested t
  chained_is t = ap (effect_of p img) (chained_asked t)

  -- the mark and all above it give way
  abbrev after : Core
  after = without_call core below c.m.df next

  pub enter_class : class_at (ops.Plain kinds.Entr) r.place ≡ classes.Action
  unfolding class_at row
  enter_class = refl

  module _ (zs : List ℤ) (whole : wholes_in (reverse arguments) ≡ Some zs) where
    -- WRITE adds its line
    pub write_raw : name ≡ Write → (bytes : List ℕ) → line_for code zs ≡ Some bytes →
        raw code img p ≡ gives (record (with_core img p after) { output = img.output ++ bytes ∷ [] })
    write_raw is bytes shows =
        entered
        ∙ ap (λ (n : Intrinsic). tested (intrinsic_row (Some n) code r next c.m (reverse arguments))) is
        ∙ ap (λ (o : Option (List ℤ)). tested (see (valid o >-> (λ (zs : List ℤ). valid (line_for code zs))) >>= (λ (bytes : List ℕ). if_chained r c.m (answer (line bytes (finished_at r c.m [] next)))))) whole
        ∙ ap (λ (o : Option (List ℕ)). tested (see (valid o) >>= (λ (bytes : List ℕ). if_chained r c.m (answer (line bytes (finished_at r c.m [] next)))))) shows
        ∙ chained_is (answer (line bytes (finished_at r c.m [] next)))
        ∙ ap (λ (ws : List Word). gives (record (with_registers (with_stacks img (with_stack img.stacks r.stack ws)) p (after.registers)) { output = img.output ++ bytes ∷ [] })) cut_words

    -- SELECT goes to the place of a case, or there is none
    module _ (first second third : ℤ) (three : zs ≡ first ∷ second ∷ third ∷ []) (is : name ≡ Select) where
      selected : raw code img p ≡ tested (see (case_place third (case_in first second)) >>= (λ (to : Option ℕ). if_chained r c.m (gone_to_case r c.m to)))
      selected =
          entered
          ∙ ap (λ (n : Intrinsic). tested (intrinsic_row (Some n) code r next c.m (reverse arguments))) is
          ∙ ap (λ (o : Option (List ℤ)). tested (see (valid o >-> three_in) >>= (λ (z : Three). see (case_place z.third (case_in z.first z.second)) >>= (λ (to : Option ℕ). if_chained r c.m (gone_to_case r c.m to))))) whole
          ∙ ap (λ (l : List ℤ). tested (see (three_in l) >>= (λ (z : Three). see (case_place z.third (case_in z.first z.second)) >>= (λ (to : Option ℕ). if_chained r c.m (gone_to_case r c.m to))))) three

      pub select_faults : case_in first second ≡ None → raw code img p ≡ faults CaseIndex
      select_faults out =
          selected
          ∙ ap (λ (o : Option ℕ). tested (see (case_place third o) >>= (λ (to : Option ℕ). if_chained r c.m (gone_to_case r c.m to)))) out
          ∙ chained_is (gone_to_case r c.m None)

      pub select_raw : (n table : ℕ) → case_in first second ≡ Some n → third ≡ pos table → table + 3 * n ≤ end_of_code →
          raw code img p ≡ gives (with_core img p (without_call core below c.m.df (table + 3 * n)))
      select_raw n table inside lies within =
          selected
          ∙ ap (λ (o : Option ℕ). tested (see (case_place third o) >>= (λ (to : Option ℕ). if_chained r c.m (gone_to_case r c.m to)))) inside
          ∙ ap (λ (z : ℤ). tested (see (case_place z (Some n)) >>= (λ (to : Option ℕ). if_chained r c.m (gone_to_case r c.m to)))) lies
          ∙ ap (λ (b : Bool). tested (see (valid (if b then Some (table + 3 * n) else None) >-> (λ (to : ℕ). found (Some to))) >>= (λ (to : Option ℕ). if_chained r c.m (gone_to_case r c.m to)))) (most_is (table + 3 * n) end_of_code within)
          ∙ chained_is (gone_to_case r c.m (Some (table + 3 * n)))
          ∙ ap (λ (ws : List Word). gives (with_registers (with_stacks img (with_stack img.stacks r.stack ws)) p (record r { s = r.f + 0; f = r.f - c.m.df; place = table + 3 * n }))) cut_words
