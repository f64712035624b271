-- EXIT and RETN of a frame that is not the base frame.
use Rattle.std.proofs.Common.{◌≡◌, refl, sym, ap, ◌∙◌, ℕ, ◌+◌, ◌≤◌, List, [], ◌∷◌, ◌++◌, length, take, drop, Option, Some, None, Bool, true, false, Ok, arith, append_assoc, length-append, ◌≢◌}
use Rattle.b67_list.proofs.Lists.{take_front}
use Rattle.b67_rows.proofs.Prelude.{nat_tests, if◌then◌else◌, nat_eq, reverse, CriticalBlockExit, Word, Place, place_at, Registers, Code, Stacks, words_of, with_stack, with_cut, with_push, place, left_to, rebuilt, Effect, gives, faults, Image, with_stacks, with_rows, with_registers, is_critical, leave, found, ◌>->◌, look_seen, pushed, frame, at_or, Program, Change, done, changed, effect_of, asked, answer, fault, registers, cut, live_criticals, table, operator_at, Below, then_seen, see_found, letter, Core, IsCore, HasCore, with_core, stack_of}
use Rattle.b67_deeds.specs.declared.Letter.TheVariants as act
use Rattle.b67_ops.specs.declared.Operator.TheVariants as ops
use Rattle.b67_ops.specs.declared.PlainKind.TheVariants as kinds
use Rattle.b67_store.specs.Store.{Rows}
use Rattle.b67_events.specs.Events.{closed_from}
use Rattle.b67_table.specs.declared.Class.TheVariants as classes
use Rattle.b67_table.specs.declared.Leaving.{Leaving}
use Rattle.b67_table.specs.Outcome as outcomes
use Rattle.b67_table.specs.Image.{with_events}
use Rattle.b67_table.specs.Linkage.{arrays_closed, frame_left, if_not_critical, leave_base, leave_other, leaving, registers_left}
use Rattle.b67_table.specs.Program.{close_events}
use Rattle.b67_table.specs.Rows.{row}
use Rattle.b67_table.specs.Table.{raw, class_at}
use Rattle.b67_deeds.specs.declared.Letter.TheVariants.{End, Leave}
use Rattle.b67_letters.specs.Letters.{left_letter}
use Rattle.b67_rows.proofs.Rows.{raw_is, words_are, action_is}
use Rattle.b67_rows.proofs.StackWords.{drop_seam, stack_over, length_stack, words_set, set_set}
use Rattle.b67_rows.proofs.Cored.{has_now, others_have}
use Rattle.b67_rows.proofs.AtOperator.{at_operator}

pub not_zero : (n : ℕ) → 1 ≤ n → nat_eq n 0 ≡ false
not_zero n h = grind (arith, nat_tests)

-- the word of a result that is given back
abbrev pub given_words : Option Word → List Word
given_words None = []
given_words (Some x) = x ∷ []

-- The core of the part around: the words under the frame that is left at a place, parted at its own floor, and the result on top.
abbrev pub without_frame : Core → List Word → List Word → ℕ → Leaving → Option Word → Core
without_frame core below words f l given =
    record { below = below; words = given_words given ++ words; registers = registers_left core.registers (f + length (given_words given)) f l }

-- The frame of a core, above the words of the part around: the rows that its cells describe are closed, and the marks under it lead to where
-- the machine goes on.
pub record Leaves (img : Image) (core : Core) (below words : List Word) (mark control : Word) (cells : List Word) (b : Below) (display : List (Option Place)) : Type 0 where
  pub is : core.below ≡ (below ++ reverse words) ++ mark ∷ control ∷ cells
  pub some : 1 ≤ length (below ++ reverse words)
  pub frame_is : frame core.registers ≡ length (below ++ reverse words)
  pub counted : core.registers.cells ≡ length cells
  pub rows : Rows
  pub closed : (q : ℕ) (next : Change) → changed q (arrays_closed cells next) img ≡ changed q next (with_rows img rows)
  pub left_to : look_seen img.stacks (left_to (place core.registers.stack (length (below ++ reverse words)))) ≡ Ok b
  pub rebuilt : look_seen img.stacks (rebuilt (place core.registers.stack b.frame) b.control.caller_level) ≡ Ok display

-- The innermost frame, which is left, and what lies under it.
pub record LeavesHere (img : Image) (core : Core) : Type 0 where
  pub below : List Word
  pub words : List Word
  pub mark : Word
  pub control : Word
  pub cells : List Word
  pub under : Below
  pub display : List (Option Place)
  pub leaves : Leaves img core below words mark control cells under display

abbrev pub leaves_here : {img : Image} {core : Core} {below words : List Word} {mark control : Word} {cells : List Word} {b : Below} {display : List (Option Place)} → Leaves img core below words mark control cells b display → LeavesHere img core
leaves_here {below = below} {words = words} {mark = mark} {control = control} {cells = cells} {b = b} {display = display} leaves =
    record { below = below; words = words; mark = mark; control = control; cells = cells; under = b; display = display; leaves = leaves }

module _ (code : Code) (img : Image) (p : ℕ) (core : Core) (has : HasCore img p core) (next : ℕ) (leaves : LeavesHere img core) where
  open leaves use {below, words, mark, control, cells, under as b, display, leaves as e}

  abbrev r : Registers
  r = core.registers

  abbrev lower : List Word
  lower = below ++ reverse words

  abbrev f : ℕ
  f = length lower

  abbrev leaving_of : Leaving
  leaving_of = record { below = b; display = display }

  abbrev tested : Program → Effect Image
  tested t = effect_of p img (asked img t)

  whole : words_of img.stacks r.stack ≡ lower ++ mark ∷ control ∷ (cells ++ reverse core.words)
  whole = words_are img p core has ∙ ap (λ (ws : List Word). ws ++ reverse core.words) e.is ∙ append_assoc lower (mark ∷ control ∷ cells) (reverse core.words)

  cells_there : take r.cells (drop (f + 2) (words_of img.stacks r.stack)) ≡ cells
  cells_there =
      ap (λ (ws : List Word). take r.cells (drop (f + 2) ws)) (whole ∙ sym (append_assoc lower (mark ∷ control ∷ []) (cells ++ reverse core.words)))
      ∙ ap (take r.cells) (drop_seam (lower ++ mark ∷ control ∷ []) (cells ++ reverse core.words) (f + 2) (sym (length-append lower (mark ∷ control ∷ []))))
      ∙ take_front cells (reverse core.words) r.cells e.counted

  cut_there : with_cut img.stacks r.stack f ≡ with_stack img.stacks r.stack lower
  cut_there =
      ap (λ (ws : List Word). with_stack img.stacks r.stack (take f ws)) whole
      ∙ ap (with_stack img.stacks r.stack) (take_front lower (mark ∷ control ∷ (cells ++ reverse core.words)) f refl)

  -- the result lies on the words of the part around
  pushed_there : (x : Word) → with_push (with_cut img.stacks r.stack f) r.stack x ≡ with_stack img.stacks r.stack (below ++ reverse (x ∷ words))
  pushed_there x =
      ap (λ (ss : Stacks). with_push ss r.stack x) cut_there
      ∙ ap (λ (ws : List Word). with_stack (with_stack img.stacks r.stack lower) r.stack (ws ++ x ∷ [])) (words_set img.stacks r.stack (stack_of core) lower has.stack)
      ∙ set_set img.stacks r.stack lower (lower ++ x ∷ [])
      ∙ ap (with_stack img.stacks r.stack) (sym (stack_over below (x ∷ []) words))

  leaving_seen : look_seen img.stacks (leaving (place r.stack f)) ≡ Ok leaving_of
  leaving_seen =
      then_seen img.stacks (left_to (place r.stack f)) b
      (λ (x : Below). rebuilt (place r.stack x.frame) x.control.caller_level >-> (λ (d : List (Option Place)). found (record { below = x; display = d }))) e.left_to
      ∙ then_seen img.stacks (rebuilt (place r.stack b.frame) b.control.caller_level) display (λ (d : List (Option Place)). found (record { below = b; display = d })) e.rebuilt

  module _ (given : Option Word) where
    abbrev pub outer_core : Core
    outer_core = without_frame core below words f leaving_of given

    -- what is done with the words of the cells
    abbrev left_with : ℕ → List Word → Program
    left_with n ws = if nat_eq n 0 then leave_base r ws next else leave_other r ws n (given_words given)

    abbrev gone : Change
    gone = close_events r.stack f (cut r.stack f (pushed r.stack (given_words given) (registers (registers_left r (f + length (given_words given)) f leaving_of) done)))

    abbrev after_leaving : List Word → Leaving → Program
    after_leaving ws l =
        if_not_critical r.stack (f ∷ [])
        (answer (frame_left r.stack f ws (cut r.stack f (pushed r.stack (given_words given) (registers (registers_left r (f + length (given_words given)) f l) done)))))

    -- the events of the frame are closed
    abbrev pub after : Image
    after = with_core (with_events (with_rows img e.rows) (closed_from r.stack f img.events)) p outer_core

    -- the process has its outer core there, and each other its own
    pub left_has : IsCore (without_frame core below words (length (below ++ reverse words)) (record { below = b; display = display }) given) →
        HasCore after p (without_frame core below words (length (below ++ reverse words)) (record { below = b; display = display }) given)
    left_has is = let h : HasCore (with_core img p outer_core) p outer_core = has_now img p core outer_core has refl is in record { live = h.live; registers = h.registers; own = h.own; stack = h.stack; is = h.is }

    pub left_others : (m : ℕ) (other : Core) → m ≢ p → HasCore img m other → HasCore after m other
    left_others m other apart had =
        let h : HasCore (with_core img p outer_core) m other = others_have img p core outer_core has refl m other apart had in
        record { live = h.live; registers = h.registers; own = h.own; stack = h.stack; is = h.is }

    changed_to : changed p gone (with_rows img e.rows) ≡ after
    changed_to = by_given given
      where
        by_given : (g : Option Word) →
            changed p (close_events r.stack f (cut r.stack f (pushed r.stack (given_words g) (registers (registers_left r (f + length (given_words g)) f leaving_of) done)))) (with_rows img e.rows)
            ≡ with_core (with_events (with_rows img e.rows) (closed_from r.stack f img.events)) p (without_frame core below words f leaving_of g)
        by_given None = ap (λ (ss : Stacks). with_registers (with_stacks (with_events (with_rows img e.rows) (closed_from r.stack f img.events)) ss) p (registers_left r (f + 0) f leaving_of)) cut_there
        by_given (Some x) = ap (λ (ss : Stacks). with_registers (with_stacks (with_events (with_rows img e.rows) (closed_from r.stack f img.events)) ss) p (registers_left r (f + 1) f leaving_of)) (pushed_there x)

    leave_tests : tested (leave r next (given_words given)) ≡ tested (after_leaving cells leaving_of)
    leave_tests =
        ap (λ (n : ℕ). tested (left_with n (take r.cells (drop (n + 2) (words_of img.stacks r.stack))))) e.frame_is
        ∙ ap (λ (ws : List Word). tested (left_with f ws)) cells_there
        ∙ ap (λ (t : Bool). tested (if t then leave_base r cells next else leave_other r cells f (given_words given))) (not_zero f e.some)
        ∙ ap (λ (x : Effect Change). effect_of p img x) (see_found img (leaving (place r.stack f)) leaving_of (after_leaving cells) leaving_seen)

    -- no process depends on the frame
    pub leave_does : is_critical core.registers.stack (length (below ++ reverse words) ∷ []) (live_criticals img.states img.regs) ≡ false → tested (leave r next (given_words given)) ≡ gives after
    leave_does free =
        leave_tests
        ∙ ap (λ (b : Bool). tested (if b then fault CriticalBlockExit else answer (arrays_closed cells gone))) free
        ∙ ap gives (e.closed p gone)
        ∙ ap gives changed_to

    -- or one does
    pub leave_blocked : is_critical core.registers.stack (length (below ++ reverse words) ∷ []) (live_criticals img.states img.regs) ≡ true → tested (leave r next (given_words given)) ≡ faults CriticalBlockExit
    leave_blocked critical = leave_tests ∙ ap (λ (b : Bool). tested (if b then fault CriticalBlockExit else answer (arrays_closed cells gone))) critical

    -- the new core is one, where the display names the frame below, and its cells end at the floor
    pub outer_is : place_at display b.control.caller_level ≡ Some (place r.stack b.frame) → length below ≡ b.frame + 2 + b.control.caller_cells → IsCore outer_core
    outer_is top long =
        let own : frame outer_core.registers ≡ b.frame = ap at_or top in
        record { bottom = omega (arith, own, long); top = omega (arith, length_stack below words, length-append (given_words given) words) }

  -- ---- EXIT

  module _ (at : operator_at code core.registers ≡ Ok (ops.Plain kinds.Exit, next)) where
    pub leave_raw : is_critical core.registers.stack (length (below ++ reverse words) ∷ []) (live_criticals img.states img.regs) ≡ false → raw code img p ≡ gives (after None)
    unfolding row
    leave_raw free = raw_is code (ops.Plain kinds.Exit) (at_operator has at) ∙ leave_does None free

    pub exit_blocked : is_critical core.registers.stack (length (below ++ reverse words) ∷ []) (live_criticals img.states img.regs) ≡ true → raw code img p ≡ faults CriticalBlockExit
    unfolding row
    exit_blocked critical = raw_is code (ops.Plain kinds.Exit) (at_operator has at) ∙ leave_blocked None critical

    pub leave_class : class_at (ops.Plain kinds.Exit) r.place ≡ classes.Action
    unfolding class_at row
    leave_class = refl

    pub leave_action : table code img p ≡ outcomes.gives (after None) → letter code img p ≡ Some act.Leave
    leave_action t =
        action_is code (ops.Plain kinds.Exit) (at_operator has at) (outcomes.gives (after None)) t
        ∙ ap (λ (n : ℕ). Some ((left_letter n))) e.frame_is
        ∙ ap (λ (t : Bool). Some ((if t then End else Leave))) (not_zero f e.some)
