-- The entry of an intrinsic: it names the cell of its control word in the system's stack, and no other, since its arguments are operands.
use Rattle.std.proofs.Common.{◌≡◌, refl, sym, ap, ◌∙◌, subst, ℕ, ◌+◌, ◌-◌, ◌≤◌, List, ◌∷◌, ◌++◌, Option, Some, None, true, false, arith, length, lit<, length-append}
use Rattle.b67_list.proofs.Numbers.{none_some}
use Rattle.b67_frames.proofs.Prelude.{length-reverse, slice_get, reverse, Scopes, Value, Word, as_irw, as_sirw, place_at, Irw, Pcw, Sirw, intrinsic_number_of, couple_of_intrinsic, Intrinsic, word_at, system_stack, place, Image, irw_or_sirw, Slot, intrinsic, mark, slots_length, Core, HasCore, Known, SlotsAre, words_are, stack_over, get_behind, pcw_kind}
use Rattle.b67_control.proofs.ControlLaws.{as_sirw_other, irw_laws, tag_zero}
use Rattle.b67_ops.specs.declared.Operator.TheVariants as ops
use Rattle.b67_ops.specs.declared.PlainKind.TheVariants as kinds
use Rattle.b67_ops.specs.declared.intrinsic.Intrinsic.TheVariants as names
use Rattle.b67_store.specs.Store.{stack_at, words_or}
use Rattle.b67_table.specs.declared.Cell.{Cell}
use Rattle.b67_table.specs.Beginning.{intrinsic_pcw}
use Rattle.b67_table.specs.References.{cell_of}
use Rattle.b67_standing.specs.Standing.{operands}
use Rattle.b67_cores.specs.Slots.{newest}
use Rattle.b67_footprints.proofs.Lists.{Each, each_turned, each_at}
use Rattle.b67_rows.proofs.Actuals.{Given_words, given_words}
use Rattle.b67_rows.proofs.Slotted.{Top, top_slot}
use Rattle.b67_rows.proofs.StackWords.{word_over, word_under}
use Rattle.b67_rows.proofs.Touching.{system_cell, NamesNear}
use Rattle.b67_rows.proofs.TouchingNames.{entry_names}
use Rattle.b67_rows.proofs.Words.{no_sirw, reference_read}
use Rattle.b67_frames.proofs.TouchingWords.{numbers_small}

-- ---- what lies above the floor

-- a word under those on top
pub under_top : (img : Image) (p : ℕ) (core : Core) → HasCore img p core → (above : List Word) (y : Word) (words : List Word) → core.words ≡ above ++ y ∷ words → (n : ℕ) → n ≡ length core.below + length words →
    word_at img.stacks (place core.registers.stack n) ≡ Some y
under_top img p core has above y words top n e =
    ap (λ (ws : List Word). slice_get ws n) (words_are img p core has ∙ ap (λ (ws : List Word). core.below ++ reverse ws) top)
    ∙ word_under core.below above y words n e

-- the word on top
pub over_top : (img : Image) (p : ℕ) (core : Core) → HasCore img p core → (x : Word) (words : List Word) → core.words ≡ x ∷ words → word_at img.stacks (place core.registers.stack (core.registers.s - 1)) ≡ Some x
over_top img p core has x words top =
    ap (λ (ws : List Word). slice_get ws (core.registers.s - 1)) (words_are img p core has ∙ ap (λ (ws : List Word). core.below ++ reverse ws) top)
    ∙ word_over core.below x words (core.registers.s - 1) (omega (arith, has.is.top, ap length top))

-- ---- control words of intrinsics

-- the control word of an intrinsic
abbrev control_of : Intrinsic → Pcw
control_of name = record { intrinsic = true; names = false; segment = 0; psr = 0; pir = 0; level = 0; number = intrinsic_number_of name }

-- it stands at its number in the system's stack
pub lies_there : (name : Intrinsic) → slice_get system_stack (0 + intrinsic_number_of name) ≡ Some (intrinsic_pcw (intrinsic_number_of name))
lies_there names.GoTo = refl
lies_there names.Select = refl
lies_there names.Arrays = refl
lies_there names.Event = refl
lies_there names.Start = refl
lies_there names.Write = refl
lies_there names.Wait = refl
lies_there names.Cause = refl
lies_there names.Reset = refl
lies_there names.Happened = refl
lies_there names.Procure = refl
lies_there names.Liberate = refl
lies_there names.WaitAny = refl
lies_there names.CauseAndReset = refl
lies_there names.Available = refl
lies_there names.Fix = refl

pub pcw_no_sirw : (name : Intrinsic) → as_sirw (intrinsic_pcw (intrinsic_number_of name)) ≡ None
pcw_no_sirw name = as_sirw_other (intrinsic_pcw (intrinsic_number_of name)) (λ k. let is = sym (pcw_kind (control_of name)) ∙ k in cc)

-- ---- operands

-- an operand names no cell
operand_names : (w : Word) → w.tag ≡ 0 → as_irw w ≡ None
operand_names w e = irw_laws.other w (λ k. let is = sym (tag_zero w e) ∙ k in cc)

-- what holds of all these words holds of what is in a stack above the others
pub above_others : (P : Word → Type 0) (below args words : List Word) → Each P args → (n : ℕ) (u : Word) → length below + length words ≤ n → slice_get (below ++ reverse (args ++ words)) n ≡ Some u → P u
above_others P below args words are n u high e =
    let long : length (below ++ reverse words) ≡ length below + length words = length-append below (reverse words) ∙ ap (λ (k : ℕ). length below + k) (length-reverse words) in
    each_at P (reverse args) (n - length (below ++ reverse words)) u (each_turned P args are)
    (sym (get_behind (below ++ reverse words) (reverse args) (n - length (below ++ reverse words)) n (omega (arith, long, high)))
    ∙ ap (λ (ws : List Word). slice_get ws n) (sym (stack_over below args words)) ∙ e)

-- ---- where a process stands at it

module _ (img : Image) (p : ℕ) (core : Core) (has : HasCore img p core) (system : stack_at img.stacks 0 ≡ Some system_stack) (sees : place_at core.registers.display 0 ≡ Some (place 0 0))
    (sc : Scopes) (known : List Known) (level home : ℕ) (slots : List Slot) (mark_is : core.registers.f ≡ newest home (length core.below) slots) (words_here : SlotsAre sc known level home (length core.below) slots core.words)
    (name : Intrinsic) (vs : List Value) (below : List Slot) (lies : slots ≡ operands vs (intrinsic name ∷ mark ∷ below)) where
  entry_lies : word_at img.stacks (place 0 (0 + intrinsic_number_of name)) ≡ Some (intrinsic_pcw (intrinsic_number_of name))
  entry_lies = ap (λ (o : Option (List Word)). slice_get (words_or o) (0 + intrinsic_number_of name)) system ∙ lies_there name

  pub call_names : NamesNear p img (ops.Plain kinds.Entr) core.registers
  call_names =
      let base : ℕ = length core.below in
      let g : Given_words sc known level home base vs (intrinsic name ∷ mark ∷ below) core.words =
      given_words sc known level home base vs (intrinsic name ∷ mark ∷ below) core.words (subst (λ (l : List Slot). SlotsAre sc known level home base l core.words) lies words_here) in
      let i : Top sc known level home base (intrinsic name) (mark ∷ below) g.others =
      top_slot sc known level home base (intrinsic name ∷ mark ∷ below) (intrinsic name) (mark ∷ below) g.others g.are refl in
      let f : core.registers.f ≡ base + length below = mark_is ∙ ap (newest home base) lies ∙ g.mark_is in
      let many : length i.words_below ≡ length (mark ∷ below) = slots_length sc known level home base (mark ∷ below) i.words_below i.are in
      let whole : core.words ≡ g.arguments ++ i.word ∷ i.words_below = g.is ∙ ap (λ (ws : List Word). g.arguments ++ ws) i.is in
      entry_names p img core.registers i.word
      (under_top img p core has g.arguments i.word i.words_below whole (core.registers.f + 1) (omega (arith, f, many)))
      (record { level = 0; index = intrinsic_number_of name }) (ap as_irw i.slot_is ∙ reference_read (couple_of_intrinsic name) (lit< tt) (numbers_small name))
      (place 0 0) sees (system_cell p img (record { frame = place 0 0; index = intrinsic_number_of name }) refl) (intrinsic_pcw (intrinsic_number_of name)) entry_lies (pcw_no_sirw name)
      (λ kind n u c after there names.
      operand_none u
      (above_others (λ (w : Word). w.tag ≡ 0) core.below g.arguments (i.word ∷ i.words_below) g.are_operands n u (omega (arith, f, many, after))
      (ap (λ (ws : List Word). slice_get ws n) (sym (words_are img p core has ∙ ap (λ (ws : List Word). core.below ++ reverse ws) whole)) ∙ there)) c names)
    where
      operand_none : (u : Word) → u.tag ≡ 0 → (c : Cell) → cell_of core.registers u ≡ Some c → ⊥
      operand_none u tag c e =
          none_some (sym (ap (λ (o : Option Irw). irw_or_sirw core.registers o (as_sirw u)) (operand_names u tag) ∙ ap (λ (o : Option Sirw). irw_or_sirw core.registers None o) (no_sirw u tag)) ∙ e)
