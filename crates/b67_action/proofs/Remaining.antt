-- Operators on words and rows that enter no procedure: of the registers they set S and the place of the pointer, and no other.
use Rattle.std.proofs.Common.{◌≡◌, refl, sym, ap, subst, ◌∙◌, ℕ, ◌-◌, ◌+◌, Bool, true, false, List, Option, Some, None, Ok}
use Rattle.b67_list.specs.Numbered.{numbered, set_numbered}
use Rattle.b67_word.specs.declared.Place.{Place}
use Rattle.b67_word.specs.Word.{Word}
use Rattle.b67_control.specs.declared.Registers.{Registers}
use Rattle.b67_control.specs.declared.Descriptor.{Descriptor}
use Rattle.b67_control.specs.Control.{as_descriptor, descriptor_word}
use Rattle.b67_ops.specs.declared.BranchKind.{BranchKind}
use Rattle.b67_ops.specs.declared.BranchKind.TheVariants.{Brfl, Brtr, Brun}
use Rattle.b67_letters.proofs.Calm.{Each, each_asked, each_if, each_then}
use Rattle.b67_store.specs.Store.{Stacks, Rows}
use Rattle.b67_table.specs.Arrays.{as_indexed, element, index_in, index_or_fault, subscripted, subscripted_element, index_program, index_and_load, index_mother}
use Rattle.b67_table.specs.Effect.{Effect, gives, faults, interrupts}
use Rattle.b67_table.specs.Image.{Image}
use Rattle.b67_table.specs.Look.{◌>->◌, valid}
use Rattle.b67_table.specs.Moves.{replaced}
use Rattle.b67_table.specs.Privacy.{RegistersStay}
use Rattle.b67_table.specs.Program.{answer, asked, see, Change, changed, does, effect_of, write_row, save}
use Rattle.b67_table.specs.References.{cell_of, named, popped, popped_two, operand_in, invalid, cell_place}
use Rattle.b67_table.specs.Rows.{turn_by, branch_turn, loaded, load_value, is_passed, load_through, store_by, stored, store}
use Rattle.b67_table.specs.Table.{stack_length}
use Rattle.b67_table.proofs.Keeping.{Gives}
use Rattle.b67_table.proofs.Limit.{new_of}
use Rattle.b67_table.proofs.Lists.{numbered_set, numbered_within, numbered_from}
use Rattle.b67_private.specs.declared.operators.WordsRow.{WordsRow}
use Rattle.b67_private.specs.declared.operators.WordsRow.TheVariants as words
use Rattle.b67_private.specs.Actions.{words_program}
use Rattle.b67_reach.specs.Answers.{ProgramPerforms}
use Rattle.b67_reach.specs.Images.{Own, own_of_image, with_own}
use Rattle.b67_action.specs.Reaching.{enters}

set_keeps : (r q : Registers) (s place p : ℕ) (all : List Registers) → numbered all p ≡ Some r → numbered (set_numbered all p (record r { s = s; place = place })) p ≡ Some q → RegistersStay r q
set_keeps r q s place p all has e =
    let set : numbered (set_numbered all p (record r { s = s; place = place })) p ≡ Some (record r { s = s; place = place }) =
    numbered_set all p (record r { s = s; place = place }) (numbered_from all p r has) (numbered_within all p r has) in
    let both : Some (record r { s = s; place = place }) ≡ Some q = sym set ∙ e in
    let same : record r { s = s; place = place } ≡ q = cc in
    subst (λ (x : Registers). RegistersStay r x) same (refl, refl, refl, refl, refl, refl)

pub same_keeps : (r q : Registers) → q ≡ r → RegistersStay r q
same_keeps r q e = subst (λ (x : Registers). RegistersStay r x) (sym e) (refl, refl, refl, refl, refl, refl)

module _ (r : Registers) (next : ℕ) where
  -- a change that keeps the other registers of a process
  abbrev pub KeepsOwn : Change → Type 0
  KeepsOwn c = (p : ℕ) (img : Image) (q : Registers) → numbered img.regs p ≡ Some r → numbered (changed p c img).regs p ≡ Some q → RegistersStay r q

  replaced_keeps : (n : ℕ) (w : Word) → KeepsOwn (replaced r next n w)
  replaced_keeps n w p img q has e = set_keeps r q (r.s - n + 1) next p img.regs has e

  turned : (kind : BranchKind) (target : ℕ) → Each KeepsOwn (turn_by kind target r next)
  turned kind target = each_then KeepsOwn (see (popped r >-> operand_in)) _ (λ w p img q has e. set_keeps r q (r.s - 1) _ p img.regs has e)

  turn_keeps : (kind : BranchKind) (target : ℕ) → Each KeepsOwn (branch_turn kind target r next)
  turn_keeps Brun target = λ p img q has e. set_keeps r q r.s target p img.regs has e
  turn_keeps Brfl target = turned Brfl target
  turn_keeps Brtr target = turned Brtr target

  through_keeps : Each KeepsOwn (load_through r next)
  through_keeps =
      each_then KeepsOwn (see (popped r >-> (λ (x : Word). named (cell_of r x)))) _ (λ w.
      each_if KeepsOwn (is_passed w.word) (answer (replaced r next 1 w.word)) (see invalid) (replaced_keeps 1 w.word) tt)

  load_keeps : Each KeepsOwn (load_value r next)
  load_keeps =
      each_then KeepsOwn (see (popped r)) _ (λ x. each_then KeepsOwn (loaded r x (as_indexed x)) _ (λ w.
      each_then KeepsOwn (see (operand_in w)) _ (λ v. replaced_keeps 1 v)))

  element_keeps : (keeps : Bool) (x : Word) (row at : ℕ) → KeepsOwn (stored keeps r next x (write_row row at x))
  element_keeps false x row at p img q has e = set_keeps r q (r.s - 2 + 0) next p img.regs has e
  element_keeps true x row at p img q has e = set_keeps r q (r.s - 2 + 1) next p img.regs has e

  cell_keeps : (keeps : Bool) (x : Word) (at : Place) → KeepsOwn (stored keeps r next x (save at x))
  cell_keeps false x at p img q has e = set_keeps r q (r.s - 2 + 0) next p img.regs has e
  cell_keeps true x at p img q has e = set_keeps r q (r.s - 2 + 1) next p img.regs has e

  store_keeps_by : (keeps : Bool) (x y : Word) (o : Option Descriptor) → Each KeepsOwn (store_by keeps r next x y o)
  store_keeps_by keeps x y (Some d) = each_then KeepsOwn (element d.address d.length) _ (λ old. element_keeps keeps x d.address d.length)
  store_keeps_by keeps x y None =
      each_then KeepsOwn (see (named (cell_of r y))) _ (λ w. each_then KeepsOwn (see (operand_in w.word)) _ (λ old. cell_keeps keeps x (cell_place w.cell)))

  store_keeps : (keeps : Bool) → Each KeepsOwn (store keeps r next)
  store_keeps keeps =
      each_then KeepsOwn (see (popped_two r)) _ (λ t. each_then KeepsOwn (see (operand_in t.x)) _ (λ x. store_keeps_by keeps x t.y (as_indexed t.y)))

  index_keeps : Each KeepsOwn (index_program r next)
  index_keeps =
      each_then KeepsOwn (see (subscripted r false)) _ (λ t. each_then KeepsOwn (index_or_fault (index_in t.subscript t.array.length)) _ (λ n.
      replaced_keeps 2 (descriptor_word (record t.array { copy = true; indexed = true; length = n }))))

  element_load_keeps : Each KeepsOwn (index_and_load r next)
  element_load_keeps = each_then KeepsOwn (subscripted_element r false) _ (λ w. each_then KeepsOwn (see (operand_in w)) _ (λ v. replaced_keeps 2 v))

  mother_keeps : Each KeepsOwn (index_mother r next)
  mother_keeps = each_then KeepsOwn (subscripted_element r true) _ (λ w. each_then KeepsOwn (see (valid (as_descriptor w))) _ (λ d.
      replaced_keeps 2 (descriptor_word (record d { copy = true }))))

  words_keep : (kind : WordsRow) → enters kind ≡ false → Each KeepsOwn (words_program kind r next)
  words_keep (words.ValueCall couple) e = cc
  words_keep (words.Turn kind target) e = turn_keeps kind target
  words_keep words.Evaluate e = cc
  words_keep words.LoadThrough e = through_keeps
  words_keep words.LoadValue e = load_keeps
  words_keep (words.Store keeps) e = store_keeps keeps
  words_keep words.Index e = index_keeps
  words_keep words.IndexAndLoad e = element_load_keeps
  words_keep words.IndexMother e = mother_keeps

  by_effect : (p : ℕ) (img new : Image) (q : Registers) (e : Effect Change) → Gives KeepsOwn e → effect_of p img e ≡ gives new → numbered img.regs p ≡ Some r
      → numbered new.regs p ≡ Some q → RegistersStay r q
  by_effect p img new q (gives c) k i has there =
      let same : changed p c img ≡ new = cc in k p img q has (ap (λ (x : Image). numbered x.regs p) same ∙ there)
  by_effect p img new q (faults kind) k i has there = cc
  by_effect p img new q (interrupts kind) k i has there = cc

  -- what such an operator leaves of its registers
  module _ (kind : WordsRow) (st : Stacks) (rows : Rows) (new : Own) where
    pub gone_keeps : (p : ℕ) (img : Image) → enters kind ≡ false → img.stacks ≡ st → img.rows ≡ rows → numbered img.regs p ≡ Some r
        → ProgramPerforms {A = Unit {0}} (words_program kind r next) (own_of_image st rows r) new (Ok (tt {0})) → RegistersStay r new.regs
    gone_keeps p img e s t has x =
        let done = new_of (stack_length p) (does p (words_program kind r next) img) (with_own new p img) (x.outcome p img s t has) in
        by_effect p img (with_own new p img) new.regs (asked img (words_program kind r next)) (each_asked KeepsOwn img (words_program kind r next) (words_keep kind e)) done.0 has
        (numbered_set img.regs p new.regs (numbered_from img.regs p r has) (numbered_within img.regs p r has))
