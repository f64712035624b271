-- ENTR on a word that leads to a procedure or a block: a frame is made of the mark under it and of the word itself.
use Rattle.std.proofs.Common.{◌≡◌, refl, sym, ap, ◌∙◌, ℕ, zero, suc, ◌+◌, ◌-◌, ◌<◌, ◌≤◌, List, [], ◌∷◌, ◌++◌, length, Option, Some, Bool, true, false, Result, Ok, arith, append_assoc, append-nil, length-append}
use Rattle.b67_list.proofs.Numbers.{ltb_less}
use Rattle.b67_rows.proofs.Prelude.{reverse-append, length-reverse, if◌then◌else◌, nat_lt, nat_le, ◌&&◌, slice_get, slice_set, reverse, Enter, Word, Place, as_irw, as_sirw, as_mscw, as_rcw, place_at, Mscw, Pcw, Rcw, Registers, Code, Stacks, words_of, word_at, with_stack, with_word, place, linked, Effect, gives, Image, with_stacks, with_registers, intrinsic, end_of_code, most_cells, control_word, entered_mark, if_fits, is_home, if_home, entered, Look, found, stops, at, ◌>->◌, valid, read_as, look_seen, intrinsic_numbered, floor, frame, at_or, Program, Change, done, does, effect_of, asked, see, answer, ◌>>=◌, save, registers, irw_or_sirw, cell_of, invalid, enter_by, enter_procedure, not_entered, table, Entry, InterruptKind, BadCode, then_seen, see_found, told_by, called_by, letter, Core, IsCore, with_core, stack_of}
use Rattle.b67_ops.specs.declared.Operator.TheVariants as ops
use Rattle.b67_ops.specs.declared.PlainKind.TheVariants as kinds
use Rattle.b67_table.specs.declared.Class.TheVariants as classes
use Rattle.b67_table.specs.Outcome as outcomes
use Rattle.b67_table.specs.Image.{woken_number}
use Rattle.b67_table.specs.Linkage.{entering, entry}
use Rattle.b67_table.specs.Rows.{row, enter}
use Rattle.b67_table.specs.Table.{raw, class_at}
use Rattle.b67_deeds.specs.declared.Letter.TheVariants as act
use Rattle.b67_letters.specs.Letters.{intrinsic_letter, called_letter}
use Rattle.b67_rows.proofs.Rows.{raw_is, words_are, action_is}
use Rattle.b67_rows.proofs.StackWords.{word_under, stack_over, length_stack, words_set, set_set}
use Rattle.b67_rows.proofs.StoreRow.{most_is}
use Rattle.b67_rows.proofs.AtOperator.{AtOperator}

-- another word after so many
set_over : (front back : List Word) (k n : ℕ) (x : Word) → n ≡ length front + k → slice_set (front ++ back) n x ≡ front ++ slice_set back k x
set_over [] back k n x e = let e' : n ≡ k = omega (arith, e) in ap (λ (m : ℕ). slice_set back m x) e'
set_over (y ∷ front) back k zero x e = absurd (omega (arith, e))
set_over (y ∷ front) back k (suc n) x e = let e' : n ≡ length front + k = omega (arith, e) in ap (λ (ws : List Word). y ∷ ws) (set_over front back k n x e')

-- the words below the mark
abbrev pub lower_of : Core → List Word → List Word
lower_of core more = core.below ++ reverse more

-- The core in the frame that was entered: its mark leads to its home, its control word to the place after the operator.
abbrev pub with_frame : Core → List Word → List Word → ℕ → ℕ → Pcw → Place → List (Option Place) → Core
with_frame core arguments more df next c home display =
    record {
      below = lower_of core more ++ entered_mark home df ∷ control_word core.registers next c.level ∷ reverse arguments;
      words = [];
      registers = entered core.registers core.registers.s core.registers.f c (record { home = home; display = display }) (length arguments);
    }

-- the word leads to this procedure and to its home
abbrev pub Leads : Code → Image → Core → ℕ → Word → Mscw → Pcw → Place → Type 0
Leads code img core next w m c home =
    (p : ℕ) → effect_of p img (asked img (enter_by code core.registers next m w (irw_or_sirw core.registers (as_irw w) (as_sirw w))))
    ≡ effect_of p img (asked img (enter_procedure code core.registers next m c (Some home)))

-- Arguments on a word on a mark, above other words. The word leads to the control word of code and to the frame around that, which is the home; and the
-- display along the links from there.
pub record Enters (code : Code) (img : Image) (core : Core) (next : ℕ) (arguments : List Word) (control marked : Word) (more : List Word) (m : Mscw) (c : Pcw) (home : Place) (display : List (Option Place)) : Type 0 where
  pub words : core.words ≡ arguments ++ control ∷ marked ∷ more
  pub few : length arguments ≤ most_cells
  pub mark_at : core.registers.f ≡ length core.below + length more
  pub reads_mark : as_mscw marked ≡ Some m
  pub unentered : m.entered ≡ false
  pub leads : Leads code img core next control m c home
  pub calls : look_seen img.stacks (called_by control (cell_of core.registers control)) ≡ Ok c
  pub no_intrinsic : c.intrinsic ≡ false
  pub outer : Rcw
  pub outer_reads : read_as as_rcw (word_at img.stacks (place home.stack (home.at + 1))) ≡ Some outer
  pub is_home : is_home (Some outer) c.level ≡ true
  pub returns : next < end_of_code
  pub linked : look_seen img.stacks (linked (place core.registers.stack core.registers.f) home c.level) ≡ Ok display

module _ (code : Code) (here : AtOperator code (ops.Plain kinds.Entr)) (arguments : List Word) (control marked : Word) (more : List Word) (m : Mscw) (c : Pcw) (home : Place) (display : List (Option Place))
    (e : Enters code here.img here.core here.next arguments control marked more m c home display) where
  open here use {img, p, core, has, next}

  abbrev r : Registers
  r = core.registers

  abbrev lower : List Word
  lower = lower_of core more

  abbrev tested : Program → Effect Image
  tested t = effect_of p img (asked img t)

  long : r.s ≡ length core.below + length more + 2 + length arguments
  long = omega (arith, has.is.top, ap length e.words, length-append arguments (control ∷ marked ∷ more))

  low : r.f ≡ length lower
  low = e.mark_at ∙ sym (length_stack core.below more)

  whole : words_of img.stacks r.stack ≡ core.below ++ reverse (arguments ++ control ∷ marked ∷ more)
  whole = words_are img p core has ∙ ap (λ (ws : List Word). core.below ++ reverse ws) e.words

  -- the cells that the frame begins with
  abbrev given : List Word
  given = reverse arguments

  laid : words_of img.stacks r.stack ≡ lower ++ marked ∷ control ∷ given
  laid =
      whole
      ∙ ap (λ (ws : List Word). core.below ++ reverse ws) (sym (append_assoc arguments (control ∷ marked ∷ []) more))
      ∙ stack_over core.below (arguments ++ control ∷ marked ∷ []) more
      ∙ ap (λ (ws : List Word). lower ++ ws) (reverse-append arguments (control ∷ marked ∷ []))

  mark_word : word_at img.stacks (place r.stack r.f) ≡ Some marked
  mark_word =
      ap (λ (ws : List Word). slice_get ws r.f) (whole ∙ ap (λ (ws : List Word). core.below ++ reverse ws) (sym (append_assoc arguments (control ∷ []) (marked ∷ more))))
      ∙ word_under core.below (arguments ++ control ∷ []) marked more r.f e.mark_at

  control_there : word_at img.stacks (place r.stack (r.f + 1)) ≡ Some control
  control_there = ap (λ (ws : List Word). slice_get ws (r.f + 1)) whole ∙ word_under core.below arguments control (marked ∷ more) (r.f + 1) (omega (arith, e.mark_at))

  taken : r.s - (r.f + 2) ≡ length arguments
  taken = omega (arith, e.mark_at, long)

  -- ---- the tests

  abbrev entry_of : Entry
  entry_of = record { home = home; display = display }

  abbrev linking : Place → Look Entry
  linking h = linked (place r.stack r.f) h c.level >-> (λ (d : List (Option Place)). found (record { home = h; display = d }))

  entering_seen : look_seen img.stacks (entering r next (nat_le (r.s - (r.f + 2)) most_cells) r.f c (Some home)) ≡ Ok entry_of
  entering_seen =
      ap (λ (b : Bool). look_seen img.stacks (if b then if_fits (nat_le (r.s - (r.f + 2)) most_cells) (if_home (Some home) c.level linking) else stops BadCode)) (ltb_less next end_of_code e.returns)
      ∙ ap (λ (n : ℕ). look_seen img.stacks (if_fits (nat_le n most_cells) (if_home (Some home) c.level linking))) taken
      ∙ ap (λ (b : Bool). look_seen img.stacks (if_fits b (if_home (Some home) c.level linking))) (most_is (length arguments) most_cells e.few)
      ∙ ap (λ (o : Option Rcw). look_seen img.stacks (if_fits (is_home o c.level) (linking home))) e.outer_reads
      ∙ ap (λ (b : Bool). look_seen img.stacks (if_fits b (linking home))) e.is_home
      ∙ then_seen img.stacks (linked (place r.stack r.f) home c.level) display (λ (d : List (Option Place)). found (record { home = home; display = d })) e.linked

  -- ---- the change

  abbrev mark : Word
  mark = entered_mark home m.df

  abbrev control_above : Word
  control_above = control_word r next c.level

  abbrev with_mark : List Word
  with_mark = lower ++ mark ∷ control ∷ given

  saved : with_word (with_word img.stacks (place r.stack r.f) mark) (place r.stack (r.f + 1)) control_above ≡ with_stack img.stacks r.stack ((lower ++ mark ∷ control_above ∷ given) ++ [])
  saved =
      ap (λ (ws : List Word). with_word (with_stack img.stacks r.stack (slice_set ws r.f mark)) (place r.stack (r.f + 1)) control_above)
      laid
      ∙ ap (λ (ws : List Word). with_word (with_stack img.stacks r.stack ws) (place r.stack (r.f + 1)) control_above)
      (set_over lower (marked ∷ control ∷ given) 0 r.f mark (omega (arith, low)))
      ∙ ap (λ (ws : List Word). with_stack (with_stack img.stacks r.stack with_mark) r.stack (slice_set ws (r.f + 1) control_above))
      (words_set img.stacks r.stack (stack_of core) with_mark has.stack)
      ∙ ap (λ (ws : List Word). with_stack (with_stack img.stacks r.stack with_mark) r.stack ws) (set_over lower (mark ∷ control ∷ given) 1 (r.f + 1) control_above (omega (arith, low)))
      ∙ set_set img.stacks r.stack with_mark (lower ++ mark ∷ control_above ∷ given)
      ∙ ap (λ (ws : List Word). with_stack img.stacks r.stack ws) (sym (append-nil (lower ++ mark ∷ control_above ∷ given)))

  abbrev pub new : Core
  new = with_frame core arguments more m.df next c home display

  -- ---- the row

  abbrev on_word : Word → Look Mscw
  on_word v = valid (as_mscw v) >-> not_entered

  abbrev on_mark : Mscw → Program
  on_mark x = see (at (place r.stack (r.f + 1)) (λ (w : Option Word). valid w)) >>= (λ (above : Word). enter_by code r next x above (irw_or_sirw r (as_irw above) (as_sirw above)))

  abbrev on_entry : Entry → Program
  on_entry x =
      answer (save (place r.stack r.f) (entered_mark x.home m.df) (save (place r.stack (r.f + 1)) (control_word r next c.level)
      (registers (entered r r.s r.f c x (r.s - (r.f + 2))) done)))

  does_is : does p (enter code r next) img ≡ gives (with_core img p new)
  does_is =
      ap (λ (b : Bool). tested (see (if b && nat_lt (r.f + 1) r.s then at (place r.stack r.f) (λ (w : Option Word). valid w >-> on_word) else invalid) >>= on_mark))
      (most_is (floor r) r.f (omega (arith, e.mark_at, has.is.bottom)))
      ∙ ap (λ (b : Bool). tested (see (if b then at (place r.stack r.f) (λ (w : Option Word). valid w >-> on_word) else invalid) >>= on_mark))
      (ltb_less (r.f + 1) r.s (omega (arith, e.mark_at, long)))
      ∙ ap (λ (o : Option Word). tested (see (valid o >-> on_word) >>= on_mark)) mark_word
      ∙ ap (λ (o : Option Mscw). tested (see (valid o >-> not_entered) >>= on_mark)) e.reads_mark
      ∙ ap (λ (b : Bool). tested (see (if b then invalid else found m) >>= on_mark)) e.unentered
      ∙ ap (λ (o : Option Word). tested (see (valid o) >>= (λ (above : Word). enter_by code r next m above (irw_or_sirw r (as_irw above) (as_sirw above))))) control_there
      ∙ e.leads p
      ∙ ap (λ (b : Bool). tested (if b then intrinsic c.number code r next m else entry r next m.df c (Some home))) e.no_intrinsic
      ∙ ap (λ (x : Effect Change). effect_of p img x)
      (see_found img (entering r next (nat_le (r.s - (r.f + 2)) most_cells) r.f c (Some home)) entry_of on_entry entering_seen)
      ∙ ap (λ (ss : Stacks). gives (with_registers (with_stacks img ss) p (entered r r.s r.f c entry_of (r.s - (r.f + 2))))) saved
      ∙ ap (λ (n : ℕ). gives (with_registers (with_stacks img (with_stack img.stacks r.stack (stack_of new))) p (entered r r.s r.f c entry_of n))) taken

  pub enter_raw : raw code img p ≡ gives (with_core img p new)
  unfolding row
  enter_raw = raw_is code (ops.Plain kinds.Entr) here ∙ does_is

  pub enter_class : class_at (ops.Plain kinds.Entr) r.place ≡ classes.Action
  unfolding class_at row
  enter_class = refl

  pub enter_action : table code img p ≡ outcomes.gives (with_core img p new) → letter code img p ≡ Some act.Enter
  enter_action t =
      action_is code (ops.Plain kinds.Entr) here (outcomes.gives (with_core img p new)) t
      ∙ ap (λ (o : Option Word). (told_by (called_letter img r.stack) (look_seen img.stacks (valid o >-> (λ (above : Word). called_by above (cell_of r above)))))) control_there
      ∙ ap (λ (x : Result Pcw InterruptKind). (told_by (called_letter img r.stack) x)) e.calls
      ∙ ap (λ (b : Bool). (if b then intrinsic_letter (woken_number img.numbers r.stack) (intrinsic_numbered c.number) else Some Enter)) e.no_intrinsic

  -- the new core is one, where the display names the frame
  pub new_is : place_at display c.level ≡ Some (place r.stack r.f) → IsCore new
  new_is top =
      let own : frame new.registers ≡ r.f = ap at_or top in
      record {
        bottom = length-append lower (mark ∷ control_above ∷ given) ∙ omega (arith, own, low, length-reverse arguments);
        top = omega (arith, long, low, e.mark_at, length-append lower (mark ∷ control_above ∷ given), length-reverse arguments);
      }
