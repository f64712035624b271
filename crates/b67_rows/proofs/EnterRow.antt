-- ENTR on an intrinsic: the intrinsic is given the words above its reference, the first one first.
use Rattle.std.proofs.Common.{length-append, ◌≡◌, sym, ap, ◌∙◌, ℕ, ◌+◌, ◌-◌, List, [], ◌∷◌, ◌++◌, length, take, drop, Option, Some, None, Bool, true, false, arith, append_assoc}
use Rattle.b67_list.proofs.Numbers.{ltb_less}
use Rattle.b67_rows.proofs.Prelude.{length-reverse, if◌then◌else◌, nat_lt, ◌&&◌, slice_get, reverse, Word, Place, as_irw, as_sirw, as_mscw, as_pcw, Irw, Mscw, Pcw, Registers, Sirw, Code, words_of, word_at, place, Effect, Image, intrinsic, intrinsic_row, Look, found, at, ◌>->◌, valid, intrinsic_numbered, display_at, floor, Program, Change, does, effect_of, asked, see, ◌>>=◌, cell_in, irw_or_sirw, reached_in, one_sirw, invalid, enter_by, enter_procedure, not_entered, Cell, Reached, Core}
use Rattle.b67_ops.specs.declared.Operator.TheVariants as ops
use Rattle.b67_ops.specs.declared.PlainKind.TheVariants as kinds
use Rattle.b67_table.specs.Rows.{enter}
use Rattle.b67_rows.proofs.Rows.{words_are}
use Rattle.b67_rows.proofs.StackWords.{word_under, stack_over, drop_seam, take_all, length_stack}
use Rattle.b67_rows.proofs.StoreRow.{most_is}
use Rattle.b67_rows.proofs.AtOperator.{AtOperator}

-- the arguments above a reference and a mark, above other words
pub record Called (core : Core) (arguments : List Word) (reference marked : Word) (below : List Word) : Type 0 where
  pub words : core.words ≡ arguments ++ reference ∷ marked ∷ below
  pub mark_at : core.registers.f ≡ length core.below + length below

-- What ENTR finds where it enters an intrinsic: arguments on a reference on a mark, and the control word in the cell that the reference names.
pub record EntersIntrinsic (img : Image) (core : Core) : Type 0 where
  pub arguments : List Word
  pub reference : Word
  pub marked : Word
  pub below : List Word
  pub called : Called core arguments reference marked below
  pub m : Mscw
  pub reads_mark : as_mscw marked ≡ Some m
  pub unentered : m.entered ≡ false
  pub level : ℕ
  pub index : ℕ
  pub frame : Place
  pub reads : as_irw reference ≡ Some (record { level = level; index = index })
  pub shown : display_at core.registers level ≡ Some frame
  pub entry : Word
  pub lies : word_at img.stacks (record { stack = frame.stack; at = frame.at + index }) ≡ Some entry
  pub no_sirw : as_sirw entry ≡ None
  pub pcw : Pcw
  pub reads_entry : as_pcw entry ≡ Some pcw
  pub is_intrinsic : pcw.intrinsic ≡ true

module _ (code : Code) (here : AtOperator code (ops.Plain kinds.Entr)) (enters : EntersIntrinsic here.img here.core) where
  open here use {img, p, core, has, next}
  open enters use {arguments, reference, marked, below, called, m, reads_mark, unentered, index, frame, reads, shown, entry, lies, no_sirw, pcw, reads_entry, is_intrinsic}

  abbrev r : Registers
  r = core.registers

  abbrev cell : Cell
  cell = record { frame = frame; index = index }

  abbrev tested : Program → Effect Change
  tested t = asked img t

  whole : words_of img.stacks r.stack ≡ core.below ++ reverse (arguments ++ reference ∷ marked ∷ below)
  whole = words_are img p core has ∙ ap (λ (ws : List Word). core.below ++ reverse ws) called.words

  long : r.s ≡ length core.below + length below + 2 + length arguments
  long = omega (arith, has.is.top, ap length called.words, length-append arguments (reference ∷ marked ∷ below))

  mark_word : word_at img.stacks (place r.stack r.f) ≡ Some marked
  mark_word =
      ap (λ (ws : List Word). slice_get ws r.f) (whole ∙ ap (λ (ws : List Word). core.below ++ reverse ws) (sym (append_assoc arguments (reference ∷ []) (marked ∷ below))))
      ∙ word_under core.below (arguments ++ reference ∷ []) marked below r.f called.mark_at

  reference_word : word_at img.stacks (place r.stack (r.f + 1)) ≡ Some reference
  reference_word =
      ap (λ (ws : List Word). slice_get ws (r.f + 1)) whole
      ∙ word_under core.below arguments reference (marked ∷ below) (r.f + 1) (omega (arith, called.mark_at))

  -- the words above the reference, the first one first
  arguments_are : take (r.s - (r.f + 2)) (drop (r.f + 2) (words_of img.stacks r.stack)) ≡ reverse arguments
  arguments_are =
      ap (λ (ws : List Word). take (r.s - (r.f + 2)) (drop (r.f + 2) ws)) (whole ∙ stack_over core.below arguments (reference ∷ marked ∷ below))
      ∙ ap (take (r.s - (r.f + 2)))
      (drop_seam (core.below ++ reverse (reference ∷ marked ∷ below)) (reverse arguments) (r.f + 2)
      (omega (arith, called.mark_at, length_stack core.below (reference ∷ marked ∷ below))))
      ∙ take_all (reverse arguments) (r.s - (r.f + 2)) (omega (arith, long, called.mark_at, length-reverse arguments))

  abbrev on_mark : Mscw → Program
  on_mark x = see (at (place r.stack (r.f + 1)) (λ (w : Option Word). valid w)) >>= (λ (above : Word). enter_by code r next x above (irw_or_sirw r (as_irw above) (as_sirw above)))

  abbrev on_word : Word → Look Mscw
  on_word v = valid (as_mscw v) >-> not_entered

  abbrev on_pcw : Place → Pcw → Program
  on_pcw home x = enter_procedure code r next m x (Some home)

  abbrev on_entry : Reached → Program
  on_entry v = see (valid (as_pcw v.word)) >>= on_pcw v.cell.frame

  pub enter_asked : asked img (enter code core.registers next) ≡ asked img (intrinsic_row (intrinsic_numbered pcw.number) code core.registers next m (reverse arguments))
  enter_asked =
      ap (λ (b : Bool). tested (see (if b && nat_lt (r.f + 1) r.s then at (place r.stack r.f) (λ (w : Option Word). valid w >-> on_word) else invalid) >>= on_mark))
      (most_is (floor r) r.f (omega (arith, called.mark_at, has.is.bottom)))
      ∙ ap (λ (b : Bool). tested (see (if b then at (place r.stack r.f) (λ (w : Option Word). valid w >-> on_word) else invalid) >>= on_mark))
      (ltb_less (r.f + 1) r.s (omega (arith, called.mark_at, long)))
      ∙ ap (λ (o : Option Word). tested (see (valid o >-> on_word) >>= on_mark)) mark_word
      ∙ ap (λ (o : Option Mscw). tested (see (valid o >-> not_entered) >>= on_mark)) reads_mark
      ∙ ap (λ (b : Bool). tested (see (if b then invalid else found m) >>= on_mark)) unentered
      ∙ ap (λ (o : Option Word). tested (see (valid o) >>= (λ (above : Word). enter_by code r next m above (irw_or_sirw r (as_irw above) (as_sirw above))))) reference_word
      ∙ ap (λ (i : Option Irw). tested (enter_by code r next m reference (irw_or_sirw r i (as_sirw reference)))) reads
      ∙ ap (λ (o : Option Place). tested (enter_by code r next m reference (cell_in o index))) shown
      ∙ ap (λ (o : Option Word). tested (see (reached_in cell o >-> (λ (v : Reached). one_sirw (as_sirw v.word) v)) >>= on_entry)) lies
      ∙ ap (λ (o : Option Sirw). tested (see (one_sirw o (record { word = entry; cell = cell })) >>= on_entry)) no_sirw
      ∙ ap (λ (o : Option Pcw). tested (see (valid o) >>= on_pcw frame)) reads_entry
      ∙ ap (λ (b : Bool). tested (if b then intrinsic pcw.number code r next m else enter_procedure code r next m (record pcw { intrinsic = false }) (Some frame))) is_intrinsic
      ∙ ap (λ (ws : List Word). tested (intrinsic_row (intrinsic_numbered pcw.number) code r next m ws)) arguments_are

  pub enter_does : does p (enter code core.registers next) img ≡ effect_of p img (asked img (intrinsic_row (intrinsic_numbered pcw.number) code core.registers next m (reverse arguments)))
  enter_does = ap (effect_of p img) enter_asked
