-- Accidental entry: the code of an actual is entered where VALC or EVAL reaches its control word. Its frame lies above the words of the part
-- that waits, and has no cells; a selector lies on it where the code may give a place.
use Rattle.std.proofs.Common.{◌≡◌, refl, sym, ap, ◌∙◌, ℕ, ◌+◌, ◌-◌, ◌<◌, List, [], ◌∷◌, ◌++◌, length, take, Option, Some, Bool, true, false, Ok, arith, append_assoc, length-append}
use Rattle.b67_list.proofs.Numbers.{ltb_less}
use Rattle.b67_rows.proofs.Prelude.{if◌then◌else◌, nat_lt, reverse, NotAVariable, Read, Resolve, Enter, Word, Place, as_pcw, as_rcw, place_at, Pcw, Rcw, Registers, Couple, Code, Stacks, word_at, with_stack, with_cut, place, linked, Effect, gives, Image, with_stacks, with_registers, end_of_code, control_word, entered_mark, if_fits, is_home, if_home, entered, accidental, Look, found, stops, ◌>->◌, read_as, look_seen, pushed, frame, at_or, Program, Change, done, changed, effect_of, asked, see, answer, fault, ◌>>=◌, cut, registers, couple_cell, cell_of, invalid, value_or_entry, cell_or_entry, Cell, Entry, BadCode, then_seen, see_found, entered_or, operator_letter, Core, IsCore, HasCore, with_core, stack_of}
use Rattle.b67_ops.specs.declared.Operator.TheVariants as ops
use Rattle.b67_ops.specs.declared.PlainKind.TheVariants as kinds
use Rattle.b67_table.specs.Linkage.{entering, selected}
use Rattle.b67_table.specs.Program.{push}
use Rattle.b67_table.specs.Table.{raw}
use Rattle.b67_rows.proofs.EntryRow.{lower_of}
use Rattle.b67_rows.proofs.Reaching.{Reaches}
use Rattle.b67_rows.proofs.PlaceRow.{place_reached, place_reached_letter}
use Rattle.b67_rows.proofs.ReachingRows.{value_reached, value_reached_letter}
use Rattle.b67_rows.proofs.Rows.{words_are}
use Rattle.b67_rows.proofs.StackWords.{cut_stack, length_stack}
use Rattle.b67_rows.proofs.TopRow.{pushed_do}
use Rattle.b67_rows.proofs.AtOperator.{AtOperator}

-- one word, or none
selected_turned : (names : Bool) (selector : ℕ) → reverse (selected names selector) ≡ selected names selector
selected_turned true selector = refl
selected_turned false selector = refl

-- The core in the frame that was entered above these words: its mark leads to its home, its control word to the place after the operator.
abbrev pub with_evaluation : Core → List Word → ℕ → Pcw → Place → List (Option Place) → ℕ → Core
with_evaluation core words next c home display selector =
    record {
      below = lower_of core words ++ entered_mark home (length (lower_of core words) - core.registers.f) ∷ control_word core.registers next c.level ∷ [];
      words = selected c.names selector;
      registers = entered core.registers (length (lower_of core words) + 2 + length (selected c.names selector)) (length (lower_of core words)) c (record { home = home; display = display }) 0;
    }

-- These words stay under those that are taken. The newest mark lies below their end, and the code's home is a frame of the level around it;
-- the display is that along the links from there.
pub record Evaluates (img : Image) (core : Core) (next : ℕ) (taken words : List Word) (c : Pcw) (home : Place) (display : List (Option Place)) : Type 0 where
  pub parted : core.words ≡ taken ++ words
  pub newer : core.registers.f < length (lower_of core words)
  pub outer : Rcw
  pub outer_reads : read_as as_rcw (word_at img.stacks (place home.stack (home.at + 1))) ≡ Some outer
  pub is_home : is_home (Some outer) c.level ≡ true
  pub returns : next < end_of_code
  pub linked : look_seen img.stacks (linked (place core.registers.stack (length (lower_of core words))) home c.level) ≡ Ok display

module _ (img : Image) (p : ℕ) (core : Core) (has : HasCore img p core) (next : ℕ) (taken words : List Word) (c : Pcw) (home : Place) (display : List (Option Place))
    (e : Evaluates img core next taken words c home display) (selector : ℕ) where
  abbrev r : Registers
  r = core.registers

  abbrev lower : List Word
  lower = lower_of core words

  abbrev at : ℕ
  at = length lower

  abbrev tested : Program → Effect Image
  tested t = effect_of p img (asked img t)

  abbrev selectors : List Word
  selectors = selected c.names selector

  abbrev mark : Word
  mark = entered_mark home (at - r.f)

  abbrev control : Word
  control = control_word r next c.level

  height : r.s - length taken ≡ at
  height = omega (arith, has.is.top, ap length e.parted, length-append taken words, length_stack core.below words)

  abbrev entry_of : Entry
  entry_of = record { home = home; display = display }

  abbrev linking : Place → Look Entry
  linking h = linked (place r.stack at) h c.level >-> (λ (d : List (Option Place)). found (record { home = h; display = d }))

  entering_seen : look_seen img.stacks (entering r next (nat_lt r.f at) at c (Some home)) ≡ Ok entry_of
  entering_seen =
      ap (λ (b : Bool). look_seen img.stacks (if b then if_fits (nat_lt r.f at) (if_home (Some home) c.level linking) else stops BadCode)) (ltb_less next end_of_code e.returns)
      ∙ ap (λ (b : Bool). look_seen img.stacks (if_fits b (if_home (Some home) c.level linking))) (ltb_less r.f at e.newer)
      ∙ ap (λ (o : Option Rcw). look_seen img.stacks (if_fits (is_home o c.level) (linking home))) e.outer_reads
      ∙ ap (λ (b : Bool). look_seen img.stacks (if_fits b (linking home))) e.is_home
      ∙ then_seen img.stacks (linked (place r.stack at) home c.level) display (λ (d : List (Option Place)). found (record { home = home; display = d })) e.linked

  abbrev on_entry : ℕ → Entry → Program
  on_entry n x =
      answer (cut r.stack n (push r.stack (entered_mark x.home (n - r.f)) (push r.stack control
      (pushed r.stack selectors (registers (entered r (n + 2 + length selectors) n c x 0) done)))))

  cut_there : with_cut img.stacks r.stack at ≡ with_stack img.stacks r.stack lower
  cut_there =
      ap (λ (ws : List Word). with_stack img.stacks r.stack (take at ws)) (words_are img p core has ∙ ap (λ (ws : List Word). core.below ++ reverse ws) e.parted)
      ∙ ap (λ (ws : List Word). with_stack img.stacks r.stack ws) (cut_stack core.below taken words at (length_stack core.below words))

  abbrev pub evaluation : Core
  evaluation = with_evaluation core words next c home display selector

  laid : lower ++ mark ∷ control ∷ selectors ≡ stack_of evaluation
  laid =
      sym (append_assoc lower (mark ∷ control ∷ []) selectors)
      ∙ ap (λ (ws : List Word). (lower ++ mark ∷ control ∷ []) ++ ws) (sym (selected_turned c.names selector))

  abbrev after : Registers
  after = entered r (at + 2 + length selectors) at c entry_of 0

  pub accidental_does : effect_of p img (asked img (accidental r next (length taken) c home selector)) ≡ gives (with_core img p evaluation)
  accidental_does =
      ap (λ (n : ℕ). tested (see (entering r next (nat_lt r.f n) n c (Some home)) >>= on_entry n)) height
      ∙ ap (λ (x : Effect Change). effect_of p img x) (see_found img (entering r next (nat_lt r.f at) at c (Some home)) entry_of (on_entry at) entering_seen)
      ∙ ap (λ (ss : Stacks). gives (changed p (pushed r.stack (mark ∷ control ∷ selectors) (registers after done)) (with_stacks img ss))) cut_there
      ∙ ap (λ (x : Image). gives x) (pushed_do p img r.stack (stack_of core) has.stack (mark ∷ control ∷ selectors) lower (registers after done))
      ∙ ap (λ (ws : List Word). gives (with_registers (with_stacks img (with_stack img.stacks r.stack ws)) p after)) laid

  -- the new core is one, where the display names the frame
  pub evaluation_is : place_at display c.level ≡ Some (place r.stack at) → IsCore evaluation
  evaluation_is top =
      let own : frame after ≡ at = ap at_or top in
      record { bottom = length-append lower (mark ∷ control ∷ []) ∙ omega (arith, own); top = omega (arith, length-append lower (mark ∷ control ∷ [])) }

-- ---- VALC

module _ (code : Code) (couple : Couple) (here : AtOperator code (ops.Valc couple)) (from to : Cell) (shown : couple_cell here.core.registers couple.level couple.index ≡ Some from) (w : Word)
    (reaches : Reaches here.img.stacks from w to) (c : Pcw) (reads : as_pcw w ≡ Some c) (no_intrinsic : c.intrinsic ≡ false) (display : List (Option Place))
    (e : Evaluates here.img here.core here.next [] here.core.words c to.frame display) where
  open here use {img, p, core, has, next}

  pub value_entered_raw : raw code img p ≡ gives (with_core img p (with_evaluation core core.words next c to.frame display 0))
  value_entered_raw =
      value_reached code couple here from to shown w reaches
      ∙ ap (λ (o : Option Pcw). effect_of p img (asked img (value_or_entry core.registers next (record { word = w; cell = to }) o))) reads
      ∙ ap (λ (b : Bool). effect_of p img (asked img (if b then see invalid else accidental core.registers next 0 c to.frame 0))) no_intrinsic
      ∙ accidental_does img p core has next [] core.words c to.frame display e 0

  pub value_entered_letter : operator_letter (ops.Valc couple) img core.registers ≡ Some Enter
  value_entered_letter = value_reached_letter code couple here from to shown w reaches ∙ ap (λ (o : Option Pcw). Some (entered_or Read o)) reads

-- ---- EVAL

module _ (code : Code) (here : AtOperator code (ops.Plain kinds.Eval)) (x : Word) (words : List Word) (top : here.core.words ≡ x ∷ words) (from to : Cell) (names : cell_of here.core.registers x ≡ Some from) (w : Word)
    (reaches : Reaches here.img.stacks from w to) (c : Pcw) (reads : as_pcw w ≡ Some c) (has_names : c.names ≡ true) (display : List (Option Place)) (e : Evaluates here.img here.core here.next (x ∷ []) words c to.frame display) where
  open here use {img, p, core, has, next}

  pub place_entered_raw : raw code img p ≡ gives (with_core img p (with_evaluation core words next c to.frame display 1))
  place_entered_raw =
      place_reached code here x words top from to names w reaches
      ∙ ap (λ (o : Option Pcw). effect_of p img (asked img (cell_or_entry core.registers next (record { word = w; cell = to }) o))) reads
      ∙ ap (λ (b : Bool). effect_of p img (asked img (if b then accidental core.registers next 1 c to.frame 1 else fault NotAVariable))) has_names
      ∙ accidental_does img p core has next (x ∷ []) words c to.frame display e 1

  pub place_entered_letter : operator_letter (ops.Plain kinds.Eval) img core.registers ≡ Some Enter
  place_entered_letter = place_reached_letter code here x words top from to names w reaches ∙ ap (λ (o : Option Pcw). Some (entered_or Resolve o)) reads
