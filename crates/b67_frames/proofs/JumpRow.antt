-- GO TO: the entry of its intrinsic, which leaves all frames above that of a level and goes on in that one.
use Rattle.std.proofs.Common.{◌≡◌, sym, ap, ◌∙◌, ℕ, ◌+◌, ◌-◌, ◌≤◌, List, [], ◌∷◌, ◌++◌, length, take, drop, Option, Some, Bool, true, false, Ok, arith, append_assoc, append-nil}
use Rattle.b67_list.proofs.Lists.{take_front}
use Rattle.b67_frames.proofs.Prelude.{nat_tests, if◌then◌else◌, nat_eq, reverse, pos, BadGoTo, CriticalBlockExit, Word, Place, Registers, GoTo, Code, Rows, words_of, with_stack, wholes_in, place, rebuilt, Effect, gives, faults, Passed, Passing, Target, passing, passed_by, frames_left, passed_frames, gone_to, Image, with_stacks, with_registers, segment_numbers, end_of_code, is_critical, if_not_critical, found, look_seen, display_at, frame, Program, Change, done, changed, effect_of, asked, answer, fault, registers, live_criticals, raw, see_found, Core, with_core, stack_of, AtOperator, CallsIntrinsic, words_are}
use Rattle.b67_ops.specs.declared.Operator.TheVariants as ops
use Rattle.b67_ops.specs.declared.PlainKind.TheVariants as kinds
use Rattle.b67_table.specs.Program.{cut}
use Rattle.b67_rows.proofs.StackWords.{take_all, length_stack}
use Rattle.b67_frames.proofs.JumpClosing.{image_left}
use Rattle.b67_frames.proofs.JumpSteps.{gone, with_display, with_passing, target_named}

pub same_number : (n : ℕ) → nat_eq n n ≡ true
same_number n = grind (arith, nat_tests)

-- where the core goes on: in the frame at a place, with these words up to the end of its cells
abbrev pub jumped : Core → List Word → ℕ → ℕ → ℕ → ℕ → ℕ → List (Option Place) → Core
jumped core front at cells level segment pointer display =
    record {
      below = front;
      words = [];
      registers = record core.registers { s = at + 2 + cells; f = at; ll = level; display = display; cells = cells; segment = segment; place = pointer };
    }

-- To the frame of this level, which lies in the core's stack: these are above it, and the rows of their cells are closed.
pub record Jumps (img : Image) (core : Core) (front rest : List Word) (at cells level segment pointer : ℕ) (display : List (Option Place)) (passed : List Passed) : Type 0 where
  pub below_is : core.below ≡ front ++ rest
  pub long : at + 2 + cells ≡ length front
  pub low : 2 ≤ level
  pub high : level ≤ core.registers.ll
  pub shown : display_at core.registers level ≡ Some (place core.registers.stack at)
  pub segment_small : segment ≤ segment_numbers - 1
  pub pointer_small : pointer ≤ end_of_code
  pub passes : look_seen img.stacks (passing (frame core.registers + 1) core.registers.stack at (record { frame = frame core.registers; cells = core.registers.cells })) ≡ Ok (record { frames = passed; cells = cells })
  pub shows : look_seen img.stacks (rebuilt (place core.registers.stack at) level) ≡ Ok display
  pub rows : Rows
  pub closed : (m : ℕ) (next : Change) → changed m (frames_left core.registers.stack (stack_of core) passed next) img ≡ changed m next (image_left img rows core.registers.stack passed)

-- What GOTO finds in its own stack.
pub record JumpsIn (img : Image) (core : Core) (arguments : List Word) : Type 0 where
  pub front : List Word
  pub rest : List Word
  pub height : ℕ
  pub cells : ℕ
  pub level : ℕ
  pub segment : ℕ
  pub pointer : ℕ
  pub display : List (Option Place)
  pub passed : List Passed
  pub jumps : Jumps img core front rest height cells level segment pointer display passed
  pub whole : wholes_in (reverse arguments) ≡ Some (pos level ∷ pos segment ∷ pos pointer ∷ [])

module _ (code : Code) (here : AtOperator code (ops.Plain kinds.Entr)) (arguments : List Word) (reference marked : Word) (below : List Word) (c : CallsIntrinsic here.img here.core GoTo arguments reference marked below)
    (jumps : JumpsIn here.img here.core arguments) where
  open here use {img, p, core, has}
  open jumps use {front, rest, height as at, cells, level, segment, pointer, display, passed, jumps as e, whole}

  abbrev r : Registers
  r = core.registers

  abbrev pub new : Core
  new = jumped core front at cells level segment pointer display

  -- the image in which the frames above are left
  abbrev pub after_jump : Image
  after_jump = with_core (image_left img e.rows core.registers.stack passed) p (jumped core front at cells level segment pointer display)

  abbrev tested : Program → Effect Image
  tested t = effect_of p img (asked img t)

  abbrev target : Target
  target = record { frame = place r.stack at; level = level; segment = segment; pointer = pointer }

  abbrev passing_it : Passing
  passing_it = record { frames = passed; cells = cells }

  passed_there : look_seen img.stacks (passed_by r (place r.stack at)) ≡ Ok passing_it
  passed_there =
      ap (λ (b : Bool). look_seen img.stacks (if b then passing (frame r + 1) r.stack at (record { frame = frame r; cells = r.cells }) else found (record { frames = []; cells = 0 }))) (same_number r.stack)
      ∙ e.passes

  loaded : take r.s (drop 0 (words_of img.stacks r.stack)) ≡ stack_of core
  loaded =
      ap (take r.s) (words_are img p core has)
      ∙ take_all (stack_of core) r.s (has.is.top ∙ sym (length_stack core.below core.words))

  cut_there : take (at + 2 + cells) (words_of img.stacks r.stack) ≡ stack_of new
  cut_there =
      ap (take (at + 2 + cells)) (words_are img p core has ∙ ap (λ (ws : List Word). ws ++ reverse core.words) e.below_is ∙ append_assoc front rest (reverse core.words))
      ∙ take_front front (rest ++ reverse core.words) (at + 2 + cells) e.long
      ∙ sym (append-nil front)

  -- the last of it
  abbrev last : Change
  last = cut r.stack (at + 2 + cells) (registers new.registers done)

  jump_does : tested (gone r target passing_it display) ≡ gives after_jump
  jump_does =
      ap (λ (ws : List Word). tested (answer (gone_to r target passing_it display ws))) loaded
      ∙ ap gives (e.closed p last)
      ∙ ap (λ (ws : List Word). gives (with_registers (with_stacks (image_left img e.rows r.stack passed) (with_stack img.stacks r.stack ws)) p new.registers)) cut_there

  -- the test of the frames that are left
  same_stack : tested (with_display r target passing_it display) ≡ tested (if_not_critical r.stack (passed_frames passed) (gone r target passing_it display))
  same_stack = ap (λ (b : Bool). tested (if b then if_not_critical r.stack (passed_frames passed) (gone r target passing_it display) else fault BadGoTo)) (same_number r.stack)

  jump_tests : raw code img p ≡ tested (if_not_critical r.stack (passed_frames passed) (gone r target passing_it display))
  jump_tests =
      target_named code here arguments reference marked below c (record {
        level = level;
        segment = segment;
        pointer = pointer;
        whole = whole;
        to = place r.stack at;
        low = e.low;
        high = e.high;
        shown = e.shown;
        segment_small = e.segment_small;
        pointer_small = e.pointer_small;
      })
      ∙ ap (λ (x : Effect Change). effect_of p img x) (see_found img (passed_by r (place r.stack at)) passing_it (with_passing r target) passed_there)
      ∙ ap (λ (x : Effect Change). effect_of p img x) (see_found img (rebuilt (place r.stack at) level) display (with_display r target passing_it) e.shows)
      ∙ same_stack

  -- no process depends on a frame that is left
  pub jump_raw : is_critical core.registers.stack (passed_frames passed) (live_criticals img.states img.regs) ≡ false → raw code img p ≡ gives after_jump
  jump_raw free =
      jump_tests
      ∙ ap (λ (b : Bool). tested (if b then fault CriticalBlockExit else gone r target passing_it display)) free
      ∙ jump_does

  -- or one does
  pub jump_blocked : is_critical core.registers.stack (passed_frames passed) (live_criticals img.states img.regs) ≡ true → raw code img p ≡ faults CriticalBlockExit
  jump_blocked critical =
      jump_tests
      ∙ ap (λ (b : Bool). tested (if b then fault CriticalBlockExit else gone r target passing_it display)) critical
