-- STOD on a cell of the process's own stack, which the reference under the top names.
use Rattle.std.proofs.Common.{◌≡◌, refl, ap, ◌∙◌, ℕ, ◌+◌, ◌-◌, ◌≤◌, List, [], ◌∷◌, ◌++◌, length, take, Option, Some, None, Bool, true, false, arith}
use Rattle.b67_list.proofs.Lists.{get_front, length_set}
use Rattle.b67_rows.proofs.Prelude.{nat_tests, if◌then◌else◌, ◌==◌, nat_le, slice_get, slice_set, reverse, Word, Place, Descriptor, Registers, Code, Stacks, words_of, word_at, with_stack, with_word, with_cut, as_indexed, Effect, gives, Image, with_stacks, with_registers, Look, found, stops, ◌>->◌, valid, look_seen, floor, Program, does, effect_of, asked, see, answer, ◌>>=◌, save, Two, cell_of, cell_place, reached_in, named, from_top, operand_in, invalid, store_by, stored, Cell, StackUnderflow, Reached, told_by, operator_letter, Core, HasCore, with_core, stack_of}
use Rattle.b67_ops.specs.declared.Operator.TheVariants as ops
use Rattle.b67_ops.specs.declared.PlainKind.TheVariants as kinds
use Rattle.b67_table.specs.declared.Class.TheVariants as classes
use Rattle.b67_table.specs.Rows.{row, store}
use Rattle.b67_table.specs.Table.{raw, class_at}
use Rattle.b67_deeds.specs.declared.Letter.TheVariants.{Store, ElementStore}
use Rattle.b67_letters.specs.Letters.{element_or_not, stored_letter}
use Rattle.b67_rows.proofs.Rows.{raw_is, words_are}
use Rattle.b67_rows.proofs.StackWords.{word_over, word_under, cut_stack, set_front, words_set, set_set}
use Rattle.b67_rows.proofs.AtOperator.{AtOperator}

pub most_is : (m n : ℕ) → m ≤ n → nat_le m n ≡ true
most_is m n h = grind (arith, nat_tests)

-- the core with another word in a cell, and two words fewer on top
abbrev pub with_cell : Core → ℕ → Word → List Word → ℕ → Core
with_cell core k x words next =
    record { below = slice_set core.below k x; words = words; registers = record core.registers { s = core.registers.s - 2 + 0; place = next } }

-- the two words on top of a core
module _ (img : Image) (p : ℕ) (core : Core) (has : HasCore img p core) (x y : Word) (words : List Word) (top : core.words ≡ x ∷ y ∷ words) where
  pub words_whole : words_of img.stacks core.registers.stack ≡ core.below ++ reverse (x ∷ y ∷ words)
  words_whole = words_are img p core has ∙ ap (λ (ws : List Word). core.below ++ reverse ws) top

  pub words_long : core.registers.s ≡ length core.below + length words + 2
  words_long = omega (arith, has.is.top, ap length top)

  pub top_word : word_at img.stacks (record { stack = core.registers.stack; at = core.registers.s - 1 }) ≡ Some x
  top_word =
      ap (λ (ws : List Word). slice_get ws (core.registers.s - 1)) words_whole
      ∙ word_over core.below x (y ∷ words) (core.registers.s - 1) (omega (arith, words_long))

  pub under_word : word_at img.stacks (record { stack = core.registers.stack; at = core.registers.s - 2 }) ≡ Some y
  under_word =
      ap (λ (ws : List Word). slice_get ws (core.registers.s - 2)) words_whole
      ∙ word_under core.below (x ∷ []) y words (core.registers.s - 2) (omega (arith, words_long))

module _ (code : Code) (here : AtOperator code (ops.Plain kinds.Stod)) (x y old : Word) (words : List Word) (top : here.core.words ≡ x ∷ y ∷ words) (index f : ℕ)
    (names : cell_of here.core.registers y ≡ Some (record { frame = record { stack = here.core.registers.stack; at = f }; index = index })) (plain_word : as_indexed y ≡ None)
    (lies : slice_get here.core.below (f + index) ≡ Some old) (tag : x.tag ≡ 0) (old_tag : old.tag ≡ 0) where
  open here use {img, p, core, has, next, there as at}

  abbrev r : Registers
  r = core.registers

  abbrev frame : Place
  frame = record { stack = r.stack; at = f }

  abbrev cell : Cell
  cell = record { frame = frame; index = index }

  abbrev tested : Program → Effect Image
  tested t = effect_of p img (asked img t)

  old_word : word_at img.stacks (record { stack = r.stack; at = f + index }) ≡ Some old
  old_word =
      ap (λ (ws : List Word). slice_get ws (f + index)) (words_whole img p core has x y words top)
      ∙ get_front core.below (reverse (x ∷ y ∷ words)) (f + index) old lies

  abbrev after : Registers
  after = record r { s = r.s - 2 + 0; place = next }

  -- the cell is changed and the two words are dropped
  saved : with_cut (with_word img.stacks (record { stack = r.stack; at = f + index }) x) r.stack (r.s - 2) ≡ with_stack img.stacks r.stack (slice_set core.below (f + index) x ++ reverse words)
  saved =
      ap (λ (ws : List Word). with_cut (with_stack img.stacks r.stack (slice_set ws (f + index) x)) r.stack (r.s - 2)) (words_whole img p core has x y words top)
      ∙ ap (λ (ws : List Word). with_cut (with_stack img.stacks r.stack ws) r.stack (r.s - 2)) (set_front core.below (reverse (x ∷ y ∷ words)) (f + index) x old lies)
      ∙ ap (λ (ws : List Word). with_stack (with_stack img.stacks r.stack (slice_set core.below (f + index) x ++ reverse (x ∷ y ∷ words))) r.stack (take (r.s - 2) ws))
      (words_set img.stacks r.stack (stack_of core) (slice_set core.below (f + index) x ++ reverse (x ∷ y ∷ words)) has.stack)
      ∙ ap (λ (ws : List Word). with_stack (with_stack img.stacks r.stack (slice_set core.below (f + index) x ++ reverse (x ∷ y ∷ words))) r.stack ws)
      (cut_stack (slice_set core.below (f + index) x) (x ∷ y ∷ []) words (r.s - 2) (omega (arith, words_long img p core has x y words top, length_set core.below (f + index) x)))
      ∙ set_set img.stacks r.stack (slice_set core.below (f + index) x ++ reverse (x ∷ y ∷ words)) (slice_set core.below (f + index) x ++ reverse words)

  abbrev two : Word → Word → Two
  two a b = record { x = a; y = b }

  abbrev go_on : Two → Program
  go_on t = see (operand_in t.x) >>= (λ (a : Word). store_by false r next a t.y (as_indexed t.y))

  abbrev under : Word → Look Two
  under a = from_top r 1 >-> (λ (b : Word). found (two a b))

  abbrev put : Reached → Program
  put v = see (operand_in v.word) >>= (λ (o : Word). answer (stored false r next x (save (cell_place v.cell) x)))

  does_is : does p (store false r next) img ≡ gives (with_core img p (with_cell core (f + index) x words next))
  does_is =
      ap (λ (b : Bool). tested (see ((if b then from_top r 0 else stops StackUnderflow) >-> under) >>= go_on)) (most_is (floor r + 2) r.s (omega (arith, words_long img p core has x y words top, has.is.bottom)))
      ∙ ap (λ (o : Option Word). tested (see (valid o >-> under) >>= go_on)) (top_word img p core has x y words top)
      ∙ ap (λ (o : Option Word). tested (see (valid o >-> (λ (b : Word). found (two x b))) >>= go_on)) (under_word img p core has x y words top)
      ∙ ap (λ (t : ℕ). tested (see (if t == 0 then found x else invalid) >>= (λ (a : Word). store_by false r next a y (as_indexed y)))) tag
      ∙ ap (λ (d : Option Descriptor). tested (store_by false r next x y d)) plain_word
      ∙ ap (λ (o : Option Cell). tested (see (named o) >>= put)) names
      ∙ ap (λ (o : Option Word). tested (see (reached_in cell o) >>= put)) old_word
      ∙ ap (λ (t : ℕ). tested (see (if t == 0 then found old else invalid) >>= (λ (o : Word). answer (stored false r next x (save (cell_place cell) x))))) old_tag
      ∙ ap (λ (ss : Stacks). gives (with_registers (with_stacks img ss) p after)) saved

  -- the word under the top is no descriptor of an element
  pub stores_variable : operator_letter (ops.Plain kinds.Stod) img r ≡ Some Store
  stores_variable =
      ap (λ (b : Bool). told_by stored_letter (look_seen img.stacks ((if b then from_top r 0 else stops StackUnderflow) >-> under))) (most_is (floor r + 2) r.s (omega (arith, words_long img p core has x y words top, has.is.bottom)))
      ∙ ap (λ (o : Option Word). told_by stored_letter (look_seen img.stacks (valid o >-> under))) (top_word img p core has x y words top)
      ∙ ap (λ (o : Option Word). told_by stored_letter (look_seen img.stacks (valid o >-> (λ (b : Word). found (two x b))))) (under_word img p core has x y words top)
      ∙ ap (λ (d : Option Descriptor). Some (element_or_not ElementStore Store d)) plain_word

  pub store_raw : raw code img p ≡ gives (with_core img p (with_cell core (f + index) x words next))
  unfolding row
  store_raw = raw_is code (ops.Plain kinds.Stod) here ∙ does_is

  pub store_class : class_at (ops.Plain kinds.Stod) r.place ≡ classes.Action
  unfolding class_at row
  store_class = refl
