-- GO TO to a frame of another process's stack: a fault.
use Rattle.std.proofs.Common.{◌≡◌, ◌≢◌, ap, ◌∙◌, ℕ, ◌+◌, ◌-◌, ◌≤◌, List, [], ◌∷◌, Option, Some, Bool, false, Ok, arith}
use Rattle.b67_frames.proofs.Prelude.{nat_tests, if◌then◌else◌, nat_eq, reverse, pos, BadGoTo, Word, Place, Registers, GoTo, Code, wholes_in, rebuilt, Effect, faults, Passing, Target, passing, passed_by, passed_frames, Image, segment_numbers, end_of_code, if_not_critical, found, look_seen, display_at, frame, Program, Change, effect_of, asked, fault, raw, see_found, Core, AtOperator, CallsIntrinsic}
use Rattle.b67_ops.specs.declared.Operator.TheVariants as ops
use Rattle.b67_ops.specs.declared.PlainKind.TheVariants as kinds
use Rattle.b67_frames.proofs.JumpSteps.{gone, with_display, with_passing, target_named}

not_same : (m n : ℕ) → m ≢ n → nat_eq m n ≡ false
not_same m n h = grind (arith, nat_tests)

-- To the frame of this level, which lies at a place of another stack.
pub record JumpsAway (img : Image) (core : Core) (to : Place) (level segment pointer : ℕ) (display : List (Option Place)) : Type 0 where
  pub low : 2 ≤ level
  pub high : level ≤ core.registers.ll
  pub shown : display_at core.registers level ≡ Some to
  pub away : to.stack ≢ core.registers.stack
  pub segment_small : segment ≤ segment_numbers - 1
  pub pointer_small : pointer ≤ end_of_code
  pub shows : look_seen img.stacks (rebuilt to level) ≡ Ok display

module _ (code : Code) (here : AtOperator code (ops.Plain kinds.Entr)) (arguments : List Word) (reference marked : Word) (below : List Word) (c : CallsIntrinsic here.img here.core GoTo arguments reference marked below)
    (to : Place) (level segment pointer : ℕ) (display : List (Option Place)) (e : JumpsAway here.img here.core to level segment pointer display)
    (whole : wholes_in (reverse arguments) ≡ Some (pos level ∷ pos segment ∷ pos pointer ∷ [])) where
  open here use {img, p, core}

  abbrev r : Registers
  r = core.registers

  abbrev tested : Program → Effect Image
  tested t = effect_of p img (asked img t)

  abbrev target : Target
  target = record { frame = to; level = level; segment = segment; pointer = pointer }

  -- no frames are passed
  abbrev none_passed : Passing
  none_passed = record { frames = []; cells = 0 }

  passed_there : look_seen img.stacks (passed_by r to) ≡ Ok none_passed
  passed_there =
      ap (λ (b : Bool). look_seen img.stacks (if b then passing (frame r + 1) r.stack to.at (record { frame = frame r; cells = r.cells }) else found none_passed)) (not_same to.stack r.stack e.away)

  pub jump_bad : raw code img p ≡ faults BadGoTo
  jump_bad =
      target_named code here arguments reference marked below c (record {
        level = level;
        segment = segment;
        pointer = pointer;
        whole = whole;
        to = to;
        low = e.low;
        high = e.high;
        shown = e.shown;
        segment_small = e.segment_small;
        pointer_small = e.pointer_small;
      })
      ∙ ap (λ (x : Effect Change). effect_of p img x) (see_found img (passed_by r to) none_passed (with_passing r target) passed_there)
      ∙ ap (λ (x : Effect Change). effect_of p img x) (see_found img (rebuilt to level) display (with_display r target none_passed) e.shows)
      ∙ ap (λ (b : Bool). tested (if b then if_not_critical r.stack (passed_frames []) (gone r target none_passed display) else fault BadGoTo)) (not_same to.stack r.stack e.away)
