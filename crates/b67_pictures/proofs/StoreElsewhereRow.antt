-- STOD on a cell of another stack than the process's own, which the reference under the top names.
use Rattle.std.proofs.Common.{◌≡◌, ◌≢◌, refl, ap, ◌∙◌, ℕ, ◌+◌, ◌-◌, List, [], ◌∷◌, ◌++◌, take, Option, Some, None, Bool, false, arith}
use Rattle.b67_pictures.proofs.Prelude.{if◌then◌else◌, ◌==◌, reverse, slice_set, Store, ElementStore, Word, Place, Descriptor, Registers, Code, Stacks, words_or, words_of, word_at, with_word, as_indexed, gives, Image, with_stacks, ◌>->◌, valid, look_seen, floor, Program, asked, see, answer, ◌>>=◌, cell_of, cell_place, reached_in, Reached, told_by, element_or_not, stored_letter, operator_letter, Core, with_core, AtOperator, stack_other, without_two, most_is}
use Rattle.b67_ops.specs.declared.Operator.TheVariants as ops
use Rattle.b67_ops.specs.declared.PlainKind.TheVariants as kinds
use Rattle.b67_store.specs.Store.{with_stack, with_cut}
use Rattle.b67_table.specs.declared.Cell.{Cell}
use Rattle.b67_table.specs.declared.Class.TheVariants as classes
use Rattle.b67_table.specs.declared.InterruptKind.TheVariants.{StackUnderflow}
use Rattle.b67_table.specs.Effect.{Effect}
use Rattle.b67_table.specs.Image.{with_registers}
use Rattle.b67_table.specs.Look.{Look, found, stops}
use Rattle.b67_table.specs.Program.{does, effect_of, save}
use Rattle.b67_table.specs.References.{Two, named, from_top, operand_in, invalid}
use Rattle.b67_table.specs.Rows.{row, store, store_by, stored}
use Rattle.b67_table.specs.Table.{raw, class_at}
use Rattle.b67_rows.proofs.Rows.{raw_is}
use Rattle.b67_rows.proofs.StackWords.{cut_stack}
use Rattle.b67_rows.proofs.StoreRow.{words_whole, words_long, top_word, under_word}

-- The word on top is stored into the cell of another stack that the word below it names.
pub record StoresElsewhere (img : Image) (core : Core) : Type 0 where
  pub x : Word
  pub y : Word
  pub old : Word
  pub words : List Word
  pub top : core.words ≡ x ∷ y ∷ words
  pub frame : Place
  pub index : ℕ
  pub names : cell_of core.registers y ≡ Some (record { frame = frame; index = index })
  pub plain_word : as_indexed y ≡ None
  pub apart : frame.stack ≢ core.registers.stack
  pub lies : word_at img.stacks (cell_place (record { frame = frame; index = index })) ≡ Some old
  pub tag : x.tag ≡ 0
  pub old_tag : old.tag ≡ 0

module _ (code : Code) (here : AtOperator code (ops.Plain kinds.Stod)) (elsewhere : StoresElsewhere here.img here.core) where
  open here use {img, p, core, has, next}
  open elsewhere use {x, y, old, words, top, frame, index, names, plain_word, apart, lies, tag, old_tag}

  abbrev r : Registers
  r = core.registers

  abbrev cell : Cell
  cell = record { frame = frame; index = index }

  abbrev tested : Program → Effect Image
  tested t = effect_of p img (asked img t)

  abbrev after : Registers
  after = record r { s = r.s - 2 + 0; place = next }

  abbrev changed : Stacks
  changed = with_word img.stacks (cell_place cell) x

  -- the cell is changed and the two words are dropped
  saved : with_cut (with_word img.stacks (cell_place (record { frame = frame; index = index })) x) core.registers.stack (core.registers.s - 2) ≡
      with_stack (with_word img.stacks (cell_place (record { frame = frame; index = index })) x) core.registers.stack (core.below ++ reverse words)
  saved =
      ap (λ (o : Option (List Word)). with_stack changed r.stack (take (r.s - 2) (words_or o))) (stack_other img.stacks frame.stack r.stack (slice_set (words_of img.stacks frame.stack) (frame.at + index) x) apart)
      ∙ ap (λ (ws : List Word). with_stack changed r.stack (take (r.s - 2) ws)) (words_whole img p core has x y words top)
      ∙ ap (λ (ws : List Word). with_stack changed r.stack ws) (cut_stack core.below (x ∷ y ∷ []) words (r.s - 2) (omega (arith, words_long img p core has x y words top)))

  abbrev two : Word → Word → Two
  two a b = record { x = a; y = b }

  abbrev go_on : Two → Program
  go_on t = see (operand_in t.x) >>= (λ (a : Word). store_by false r next a t.y (as_indexed t.y))

  abbrev under : Word → Look Two
  under a = from_top r 1 >-> (λ (b : Word). found (two a b))

  abbrev put : Reached → Program
  put v = see (operand_in v.word) >>= (λ (o : Word). answer (stored false r next x (save (cell_place v.cell) x)))

  does_is : does p (store false r next) img ≡ gives (with_core (with_stacks img (with_word img.stacks (cell_place (record { frame = frame; index = index })) x)) p (without_two core words next))
  does_is =
      ap (λ (b : Bool). tested (see ((if b then from_top r 0 else stops StackUnderflow) >-> under) >>= go_on)) (most_is (floor r + 2) r.s (omega (arith, words_long img p core has x y words top, has.is.bottom)))
      ∙ ap (λ (o : Option Word). tested (see (valid o >-> under) >>= go_on)) (top_word img p core has x y words top)
      ∙ ap (λ (o : Option Word). tested (see (valid o >-> (λ (b : Word). found (two x b))) >>= go_on)) (under_word img p core has x y words top)
      ∙ ap (λ (t : ℕ). tested (see (if t == 0 then found x else invalid) >>= (λ (a : Word). store_by false r next a y (as_indexed y)))) tag
      ∙ ap (λ (d : Option Descriptor). tested (store_by false r next x y d)) plain_word
      ∙ ap (λ (o : Option Cell). tested (see (named o) >>= put)) names
      ∙ ap (λ (o : Option Word). tested (see (reached_in cell o) >>= put)) lies
      ∙ ap (λ (t : ℕ). tested (see (if t == 0 then found old else invalid) >>= (λ (o : Word). answer (stored false r next x (save (cell_place cell) x))))) old_tag
      ∙ ap (λ (ss : Stacks). gives (with_registers (with_stacks img ss) p after)) saved

  pub stores_elsewhere : operator_letter (ops.Plain kinds.Stod) img core.registers ≡ Some Store
  stores_elsewhere =
      ap (λ (b : Bool). told_by stored_letter (look_seen img.stacks ((if b then from_top r 0 else stops StackUnderflow) >-> under))) (most_is (floor r + 2) r.s (omega (arith, words_long img p core has x y words top, has.is.bottom)))
      ∙ ap (λ (o : Option Word). told_by stored_letter (look_seen img.stacks (valid o >-> under))) (top_word img p core has x y words top)
      ∙ ap (λ (o : Option Word). told_by stored_letter (look_seen img.stacks (valid o >-> (λ (b : Word). found (two x b))))) (under_word img p core has x y words top)
      ∙ ap (λ (d : Option Descriptor). Some (element_or_not ElementStore Store d)) plain_word

  pub store_elsewhere_raw : raw code img p ≡ gives (with_core (with_stacks img (with_word img.stacks (cell_place (record { frame = frame; index = index })) x)) p (without_two core words next))
  unfolding row
  store_elsewhere_raw = raw_is code (ops.Plain kinds.Stod) here ∙ does_is

  pub store_elsewhere_class : class_at (ops.Plain kinds.Stod) core.registers.place ≡ classes.Action
  unfolding class_at row
  store_elsewhere_class = refl
