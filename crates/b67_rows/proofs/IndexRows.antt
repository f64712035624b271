-- NXLV, NXLN and INDX on the descriptor of an array, and STOD on that of an element.
use Rattle.std.proofs.Common.{◌≡◌, refl, sym, ap, ◌∙◌, ℕ, ◌+◌, ◌-◌, List, [], ◌∷◌, ◌++◌, length, take, Option, Some, None, Bool, true, false, Ok, ℤ, arith, append_assoc}
use Rattle.b67_rows.proofs.Prelude.{if◌then◌else◌, ◌==◌, slice_get, reverse, FaultKind, Word, Place, as_irw, as_sirw, as_descriptor, Descriptor, Irw, Registers, Sirw, Code, Stacks, words_of, word_at, with_stack, with_push, with_cut, is_array_descriptor, as_indexed, gives, faults, Image, with_stacks, with_registers, with_rows, Look, found, stops, ◌>->◌, valid, look_seen, replaced, display_at, floor, Test, answer, interrupt, fault, Program, does, effect_of, asked, changed, see, ◌>>=◌, told, Two, cell_in, sirw_cell, irw_or_sirw, no_second, one_sirw, reached_in, from_top, operand_in, invalid, store_by, stored, operator_at, Cell, StackUnderflow, Reached, then_seen, see_found, Core, HasCore, with_core, stack_of, reverse_cons}
use Rattle.b67_num.specs.declared.FaultKind.TheVariants.{InvalidIndex}
use Rattle.b67_word.specs.Word.{as_whole}
use Rattle.b67_control.specs.Control.{descriptor_word}
use Rattle.b67_ops.specs.declared.Operator.TheVariants as ops
use Rattle.b67_ops.specs.declared.PlainKind.TheVariants as kinds
use Rattle.b67_store.specs.Store.{Row, row_at, with_row_word}
use Rattle.b67_table.specs.declared.Class.TheVariants as classes
use Rattle.b67_table.specs.Arrays.{array_in, array_by, array_of, index_in, index_or_fault, if_row, Subscripted, subscripted, subscripted_element, word_in_row, element, index_program, index_and_load, index_mother}
use Rattle.b67_table.specs.Program.{ask, row, write_row}
use Rattle.b67_table.specs.References.{popped_two}
use Rattle.b67_table.specs.Rows as rows
use Rattle.b67_table.specs.Rows.{store}
use Rattle.b67_table.specs.Table.{raw, class_at}
use Rattle.b67_rows.proofs.Rows.{raw_is, words_are}
use Rattle.b67_rows.proofs.StackWords.{word_over, word_under, cut_stack, words_set, set_set}
use Rattle.b67_rows.proofs.StoreRow.{most_is}
use Rattle.b67_rows.proofs.AtOperator.{at_operator}

-- ---- tests, one after another

module _ (img : Image) where
  same_given : {A : Type 0} (x a : A) → gives x ≡ gives a → x ≡ a
  same_given x a e = cc

  -- what a test answers goes to what comes after
  pub then_asked : {A B : Type 0} (t : Test A) (a : A) (next : A → Test B) → asked img t ≡ gives a → asked img (t >>= next) ≡ asked img (next a)
  then_asked {A} (answer x) a next e = ap (λ (y : A). asked img (next y)) (same_given x a e)
  then_asked (interrupt kind) a next e = cc
  then_asked (fault kind) a next e = cc
  then_asked (ask q more) a next e = then_asked (more (told img q)) a next e

  -- and a fault stops both
  pub fault_asked : {A B : Type 0} (t : Test A) (kind : FaultKind) (next : A → Test B) → asked img t ≡ faults kind → asked img (t >>= next) ≡ faults kind
  fault_asked (answer x) kind next e = cc
  fault_asked (interrupt other) kind next e = cc
  fault_asked (fault other) kind next e = let same : other ≡ kind = cc in ap (λ (k : FaultKind). faults k) same
  fault_asked (ask q more) kind next e = fault_asked (more (told img q)) kind next e

-- ---- the descriptor that a word is or reaches

module _ (img : Image) (r : Registers) (mother : Bool) (x : Word) (d : Descriptor) (fits : is_array_descriptor mother d ≡ true) where
  array_seen : (w : Word) → as_descriptor w ≡ Some d → look_seen img.stacks (array_in mother (as_descriptor w)) ≡ Ok d
  array_seen w e =
      ap (λ (o : Option Descriptor). look_seen img.stacks (array_in mother o)) e
      ∙ ap (λ (b : Bool). look_seen img.stacks (if b then found d else invalid)) fits

  -- a word that is no reference, but a descriptor
  pub array_itself : as_irw x ≡ None → as_sirw x ≡ None → as_descriptor x ≡ Some d → look_seen img.stacks (array_of r mother x) ≡ Ok d
  array_itself no_irw no_sirw e =
      ap (λ (o : Option Irw). look_seen img.stacks (array_by r mother x (irw_or_sirw r o (as_sirw x)))) no_irw
      ∙ ap (λ (o : Option Sirw). look_seen img.stacks (array_by r mother x (irw_or_sirw r None o))) no_sirw
      ∙ array_seen x e

  -- the reference to a cell in which one lies
  pub array_reached : (level at : ℕ) (frame : Place) (w : Word) → as_irw x ≡ Some (record { level = level; index = at }) → display_at r level ≡ Some frame →
      word_at img.stacks (record { stack = frame.stack; at = frame.at + at }) ≡ Some w → as_sirw w ≡ None → as_descriptor w ≡ Some d → look_seen img.stacks (array_of r mother x) ≡ Ok d
  array_reached level at frame w reads shown lies no_sirw e =
      ap (λ (o : Option Irw). look_seen img.stacks (array_by r mother x (irw_or_sirw r o (as_sirw x)))) reads
      ∙ ap (λ (o : Option Place). look_seen img.stacks (array_by r mother x (cell_in o at))) shown
      ∙ ap (λ (o : Option Word). look_seen img.stacks ((reached_in cell o >-> on_word) >-> on_reached)) lies
      ∙ ap (λ (o : Option Sirw). look_seen img.stacks (one_sirw o (record { word = w; cell = cell }) >-> on_reached)) no_sirw
      ∙ array_seen w e
    where
      cell : Cell
      cell = record { frame = frame; index = at }

      on_word : Reached → Look Reached
      on_word v = one_sirw (as_sirw v.word) v

      on_reached : Reached → Look Descriptor
      on_reached v = array_in mother (as_descriptor v.word)

  -- .. or in which a reference lies to the cell of one
  pub array_through : (level at : ℕ) (frame : Place) (v : Word) (other : Sirw) (w : Word) → as_irw x ≡ Some (record { level = level; index = at }) → display_at r level ≡ Some frame →
      word_at img.stacks (record { stack = frame.stack; at = frame.at + at }) ≡ Some v → as_sirw v ≡ Some other →
      word_at img.stacks (record { stack = other.stack; at = other.displacement + other.index }) ≡ Some w → as_sirw w ≡ None → as_descriptor w ≡ Some d → look_seen img.stacks (array_of r mother x) ≡ Ok d
  array_through level at frame v other w reads shown lies refers there no_sirw e =
      ap (λ (o : Option Irw). look_seen img.stacks (array_by r mother x (irw_or_sirw r o (as_sirw x)))) reads
      ∙ ap (λ (o : Option Place). look_seen img.stacks (array_by r mother x (cell_in o at))) shown
      ∙ ap (λ (o : Option Word). look_seen img.stacks ((reached_in cell o >-> on_word) >-> on_reached)) lies
      ∙ ap (λ (o : Option Sirw). look_seen img.stacks (one_sirw o (record { word = v; cell = cell }) >-> on_reached)) refers
      ∙ ap (λ (o : Option Word). look_seen img.stacks ((reached_in (sirw_cell other) o >-> on_second) >-> on_reached)) there
      ∙ ap (λ (o : Option Sirw). look_seen img.stacks (no_second o (record { word = w; cell = sirw_cell other }) >-> on_reached)) no_sirw
      ∙ array_seen w e
    where
      cell : Cell
      cell = record { frame = frame; index = at }

      on_word : Reached → Look Reached
      on_word u = one_sirw (as_sirw u.word) u

      on_second : Reached → Look Reached
      on_second u = no_second (as_sirw u.word) u

      on_reached : Reached → Look Descriptor
      on_reached u = array_in mother (as_descriptor u.word)

-- ---- the two words on top

-- the core with a word in place of the two on top
abbrev pub with_one : Core → Word → List Word → ℕ → Core
with_one core w words next = record core { words = w ∷ words; registers = record core.registers { s = core.registers.s - 2 + 1; place = next } }

-- .. without the two
abbrev pub without_two : Core → List Word → ℕ → Core
without_two core words next = record core { words = words; registers = record core.registers { s = core.registers.s - 2 + 0; place = next } }

module _ (img : Image) (p : ℕ) (core : Core) (has : HasCore img p core) (x y : Word) (words : List Word) (top : core.words ≡ x ∷ y ∷ words) where
  abbrev r : Registers
  r = core.registers

  whole : words_of img.stacks r.stack ≡ core.below ++ reverse (x ∷ y ∷ words)
  whole = words_are img p core has ∙ ap (λ (ws : List Word). core.below ++ reverse ws) top

  long : r.s ≡ length core.below + length words + 2
  long = omega (arith, has.is.top, ap length top)

  pub top_word : word_at img.stacks (record { stack = r.stack; at = r.s - 1 }) ≡ Some x
  top_word =
      ap (λ (ws : List Word). slice_get ws (r.s - 1)) whole
      ∙ word_over core.below x (y ∷ words) (r.s - 1) (omega (arith, long))

  pub under_word : word_at img.stacks (record { stack = r.stack; at = r.s - 2 }) ≡ Some y
  under_word =
      ap (λ (ws : List Word). slice_get ws (r.s - 2)) whole
      ∙ word_under core.below (x ∷ []) y words (r.s - 2) (omega (arith, long))

  abbrev two : Two
  two = record { x = x; y = y }

  abbrev under : Word → Look Two
  under a = from_top r 1 >-> (λ (b : Word). found (record { x = a; y = b }))

  pub two_seen : look_seen img.stacks (popped_two r) ≡ Ok two
  two_seen =
      ap (λ (b : Bool). look_seen img.stacks ((if b then from_top r 0 else stops StackUnderflow) >-> under)) (most_is (floor r + 2) r.s (omega (arith, long, has.is.bottom)))
      ∙ ap (λ (o : Option Word). look_seen img.stacks (valid o >-> under)) top_word
      ∙ ap (λ (o : Option Word). look_seen img.stacks (valid o >-> (λ (b : Word). found (record { x = x; y = b })))) under_word

  -- the stack without the two
  cut_is : with_cut img.stacks r.stack (r.s - 2) ≡ with_stack img.stacks r.stack (core.below ++ reverse words)
  cut_is =
      ap (λ (ws : List Word). with_stack img.stacks r.stack (take (r.s - 2) ws)) whole
      ∙ ap (λ (ws : List Word). with_stack img.stacks r.stack ws) (cut_stack core.below (x ∷ y ∷ []) words (r.s - 2) (omega (arith, long)))

  -- .. with another one in their place
  one_is : (v : Word) → with_push (with_cut img.stacks r.stack (r.s - 2)) r.stack v ≡ with_stack img.stacks r.stack (core.below ++ reverse (v ∷ words))
  one_is v =
      ap (λ (ss : Stacks). with_stack ss r.stack (words_of ss r.stack ++ v ∷ [])) cut_is
      ∙ ap (λ (ws : List Word). with_stack (with_stack img.stacks r.stack (core.below ++ reverse words)) r.stack (ws ++ v ∷ []))
      (words_set img.stacks r.stack (stack_of core) (core.below ++ reverse words) has.stack)
      ∙ set_set img.stacks r.stack (core.below ++ reverse words) ((core.below ++ reverse words) ++ v ∷ [])
      ∙ ap (λ (ws : List Word). with_stack img.stacks r.stack ws) (append_assoc core.below (reverse words) (v ∷ []) ∙ ap (λ (ws : List Word). core.below ++ ws) (sym (reverse_cons v words)))

  pub replaced_is : (next : ℕ) (v : Word) → changed p (replaced r next 2 v) img ≡ with_core img p (with_one core v words next)
  replaced_is next v = ap (λ (ss : Stacks). with_registers (with_stacks img ss) p (record r { s = r.s - 2 + 1; place = next })) (one_is v)

  -- ---- an array and a subscript

  module _ (mother : Bool) (z : ℤ) (d : Descriptor) (is_whole : as_whole y ≡ Some z) (array_is : look_seen img.stacks (array_of r mother x) ≡ Ok d) where
    abbrev both : Subscripted
    both = record { array = d; subscript = z }

    abbrev on_array : ℤ → Descriptor → Look Subscripted
    on_array n a = found (record { array = a; subscript = n })

    abbrev on_whole : ℤ → Look Subscripted
    on_whole n = array_of r mother x >-> on_array n

    abbrev on_two : Two → Look Subscripted
    on_two t = valid (as_whole t.y) >-> (λ (n : ℤ). array_of r mother t.x >-> on_array n)

    pub subscripted_seen : look_seen img.stacks (subscripted r mother) ≡ Ok both
    subscripted_seen =
        then_seen img.stacks (popped_two r) two on_two two_seen
        ∙ ap (λ (o : Option ℤ). look_seen img.stacks (valid o >-> on_whole)) is_whole
        ∙ then_seen img.stacks (array_of r mother x) d (on_array z) array_is

    -- the element that the subscript names, in a row that is there
    abbrev in_row : Subscripted → Test ℕ
    in_row t = row t.array.address (λ (o : Option Row). if_row o (index_or_fault (index_in t.subscript t.array.length)))

    abbrev on_place : Subscripted → Test Word
    on_place t = in_row t >>= (λ (at : ℕ). element t.array.address at)

    module _ (held : Row) (is_open : row_at img.rows d.address ≡ Some held) where
      place_asked : asked img (in_row both) ≡ asked img (index_or_fault (index_in z d.length))
      place_asked = ap (λ (o : Option Row). asked img (if_row o (index_or_fault (index_in z d.length)))) is_open

      pub element_given : (at : ℕ) (w : Word) → index_in z d.length ≡ Some at → word_in_row (row_at img.rows d.address) at ≡ Some w → asked img (subscripted_element r mother) ≡ gives w
      element_given at w e lies =
          see_found img (subscripted r mother) both on_place subscripted_seen
          ∙ then_asked img (in_row both) at (λ (k : ℕ). element d.address k) (place_asked ∙ ap (λ (o : Option ℕ). asked img (index_or_fault o)) e)
          ∙ ap (λ (o : Option Word). asked img (see (valid o))) lies

      pub element_faults : index_in z d.length ≡ None → asked img (subscripted_element r mother) ≡ faults InvalidIndex
      element_faults e =
          see_found img (subscripted r mother) both on_place subscripted_seen
          ∙ fault_asked img (in_row both) InvalidIndex (λ (k : ℕ). element d.address k) (place_asked ∙ ap (λ (o : Option ℕ). asked img (index_or_fault o)) e)

  -- ---- INDX

  module _ (z : ℤ) (d : Descriptor) (is_whole : as_whole y ≡ Some z) (array_is : look_seen img.stacks (array_of r false x) ≡ Ok d) (next : ℕ) where
    -- a copy of the descriptor, of the element that an index names
    abbrev pub indexed_copy : ℕ → Word
    indexed_copy n = descriptor_word (record d { copy = true; indexed = true; length = n })

    abbrev on_index : Subscripted → ℕ → Program
    on_index t n = answer (replaced r next 2 (descriptor_word (record t.array { copy = true; indexed = true; length = n })))

    abbrev on_subscript : Subscripted → Program
    on_subscript t = index_or_fault (index_in t.subscript t.array.length) >>= on_index t

    index_asked : asked img (index_program r next) ≡ asked img (on_subscript (record { array = d; subscript = z }))
    index_asked = see_found img (subscripted r false) (record { array = d; subscript = z }) on_subscript (subscripted_seen false z d is_whole array_is)

    pub index_gives : (n : ℕ) → index_in z d.length ≡ Some n → does p (index_program r next) img ≡ gives (with_core img p (with_one core (indexed_copy n) words next))
    index_gives n e =
        ap (effect_of p img) (index_asked ∙ ap (λ (o : Option ℕ). asked img (index_or_fault o >>= on_index (record { array = d; subscript = z }))) e)
        ∙ ap gives (replaced_is next (indexed_copy n))

    pub index_faults : index_in z d.length ≡ None → does p (index_program r next) img ≡ faults InvalidIndex
    index_faults e =
        ap (effect_of p img) (index_asked ∙ ap (λ (o : Option ℕ). asked img (index_or_fault o >>= on_index (record { array = d; subscript = z }))) e)

  -- ---- NXLV

  module _ (z : ℤ) (d : Descriptor) (is_whole : as_whole y ≡ Some z) (array_is : look_seen img.stacks (array_of r false x) ≡ Ok d) (held : Row) (is_open : row_at img.rows d.address ≡ Some held) (next : ℕ) where
    abbrev on_element : Word → Program
    on_element w = see (operand_in w) >>= (λ (v : Word). answer (replaced r next 2 v))

    pub load_gives : (n : ℕ) (w : Word) → index_in z d.length ≡ Some n → word_in_row (row_at img.rows d.address) n ≡ Some w → w.tag ≡ 0 →
        does p (index_and_load r next) img ≡ gives (with_core img p (with_one core w words next))
    load_gives n w e lies tag =
        ap (effect_of p img)
        (then_asked img (subscripted_element r false) w on_element (element_given false z d is_whole array_is held is_open n w e lies)
        ∙ ap (λ (k : ℕ). asked img (see (if k == 0 then found w else invalid) >>= (λ (v : Word). answer (replaced r next 2 v)))) tag)
        ∙ ap gives (replaced_is next w)

    pub load_faults : index_in z d.length ≡ None → does p (index_and_load r next) img ≡ faults InvalidIndex
    load_faults e =
        ap (effect_of p img) (fault_asked img (subscripted_element r false) InvalidIndex on_element (element_faults false z d is_whole array_is held is_open e))

  -- ---- NXLN

  module _ (z : ℤ) (d : Descriptor) (is_whole : as_whole y ≡ Some z) (array_is : look_seen img.stacks (array_of r true x) ≡ Ok d) (held : Row) (is_open : row_at img.rows d.address ≡ Some held) (next : ℕ) where
    abbrev on_row : Word → Program
    on_row w = see (valid (as_descriptor w)) >>= (λ (a : Descriptor). answer (replaced r next 2 (descriptor_word (record a { copy = true }))))

    pub mother_gives : (n : ℕ) (w : Word) (a : Descriptor) → index_in z d.length ≡ Some n → word_in_row (row_at img.rows d.address) n ≡ Some w → as_descriptor w ≡ Some a →
        does p (index_mother r next) img ≡ gives (with_core img p (with_one core (descriptor_word (record a { copy = true })) words next))
    mother_gives n w a e lies is =
        ap (effect_of p img)
        (then_asked img (subscripted_element r true) w on_row (element_given true z d is_whole array_is held is_open n w e lies)
        ∙ ap (λ (o : Option Descriptor). asked img (see (valid o) >>= (λ (b : Descriptor). answer (replaced r next 2 (descriptor_word (record b { copy = true })))))) is)
        ∙ ap gives (replaced_is next (descriptor_word (record a { copy = true })))

    pub mother_faults : index_in z d.length ≡ None → does p (index_mother r next) img ≡ faults InvalidIndex
    mother_faults e =
        ap (effect_of p img) (fault_asked img (subscripted_element r true) InvalidIndex on_row (element_faults true z d is_whole array_is held is_open e))

  -- ---- STOD

  module _ (d : Descriptor) (old : Word) (names : as_indexed y ≡ Some d) (lies : word_in_row (row_at img.rows d.address) d.length ≡ Some old) (tag : x.tag ≡ 0) (next : ℕ) where
    abbrev on_old : Word → Program
    on_old o = answer (stored false r next x (write_row d.address d.length x))

    abbrev on_operand : Two → Word → Program
    on_operand t a = store_by false r next a t.y (as_indexed t.y)

    abbrev on_words : Two → Program
    on_words t = see (operand_in t.x) >>= on_operand t

    pub stored_gives : does p (store false r next) img ≡ gives (with_core (with_rows img (with_row_word img.rows d.address d.length x)) p (without_two core words next))
    stored_gives =
        ap (effect_of p img)
        (see_found img (popped_two r) two on_words two_seen
        ∙ ap (λ (k : ℕ). asked img (see (if k == 0 then found x else invalid) >>= on_operand two)) tag
        ∙ ap (λ (o : Option Descriptor). asked img (store_by false r next x y o)) names
        ∙ ap (λ (o : Option Word). asked img (see (valid o) >>= on_old)) lies)
        ∙ ap (λ (ss : Stacks). gives (with_registers (with_stacks (with_rows img (with_row_word img.rows d.address d.length x)) ss) p (record r { s = r.s - 2 + 0; place = next }))) cut_is

-- ---- the rows of the operators

module _ (code : Code) (img : Image) (p : ℕ) (core : Core) (has : HasCore img p core) (next : ℕ) where
  pub load_raw : operator_at code core.registers ≡ Ok (ops.Plain kinds.Nxlv, next) → raw code img p ≡ does p (index_and_load core.registers next) img
  unfolding rows.row
  load_raw at = raw_is code (ops.Plain kinds.Nxlv) (at_operator has at)

  pub mother_raw : operator_at code core.registers ≡ Ok (ops.Plain kinds.Nxln, next) → raw code img p ≡ does p (index_mother core.registers next) img
  unfolding rows.row
  mother_raw at = raw_is code (ops.Plain kinds.Nxln) (at_operator has at)

  pub index_raw : operator_at code core.registers ≡ Ok (ops.Plain kinds.Indx, next) → raw code img p ≡ does p (index_program core.registers next) img
  unfolding rows.row
  index_raw at = raw_is code (ops.Plain kinds.Indx) (at_operator has at)

  pub stored_raw : operator_at code core.registers ≡ Ok (ops.Plain kinds.Stod, next) → raw code img p ≡ does p (store false core.registers next) img
  unfolding rows.row
  stored_raw at = raw_is code (ops.Plain kinds.Stod) (at_operator has at)

-- none of them is private
module _ (at : ℕ) where
  pub load_class : class_at (ops.Plain kinds.Nxlv) at ≡ classes.Action
  unfolding class_at rows.row
  load_class = refl

  pub mother_class : class_at (ops.Plain kinds.Nxln) at ≡ classes.Action
  unfolding class_at rows.row
  mother_class = refl

  pub index_class : class_at (ops.Plain kinds.Indx) at ≡ classes.Action
  unfolding class_at rows.row
  index_class = refl

  pub stored_class : class_at (ops.Plain kinds.Stod) at ≡ classes.Action
  unfolding class_at rows.row
  stored_class = refl
