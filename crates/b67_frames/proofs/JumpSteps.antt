-- GO TO step by step: its three numbers, the frames that it passes, and the display at the target.
use Rattle.std.proofs.Common.{◌≡◌, ap, ◌∙◌, ℕ, ◌-◌, ◌≤◌, List, [], ◌∷◌, Option, Some, None, Bool, ℤ}
use Rattle.b67_frames.proofs.Prelude.{if◌then◌else◌, ◌&&◌, nat_le, reverse, pos, Word, Place, Registers, GoTo, Code, wholes_in, place, rebuilt, Effect, Passing, Target, passed_by, passed_frames, gone_to, Image, segment_numbers, end_of_code, if_not_critical, Look, found, ◌>->◌, valid, display_at, Program, effect_of, asked, see, ◌>>=◌, answer, raw, Core, AtOperator, CallsIntrinsic, entered, most_is}
use Rattle.b67_table.specs.Arguments.{Three, three_in, argument_number_in}
use Rattle.b67_table.specs.GoingTo.{level_in, target_of, if_same_stack}
use Rattle.b67_table.specs.Program.{loads}
use Rattle.b67_ops.specs.declared.Operator.TheVariants as ops
use Rattle.b67_ops.specs.declared.PlainKind.TheVariants as kinds

module _ (r : Registers) where
  abbrev pub gone : Target → Passing → List (Option Place) → Program
  gone t q d = loads (place r.stack 0) r.s (λ (stack : List Word). answer (gone_to r t q d stack))

  abbrev pub with_display : Target → Passing → List (Option Place) → Program
  with_display t q d = if_same_stack r t.frame (if_not_critical r.stack (passed_frames q.frames) (gone t q d))

  abbrev pub with_passing : Target → Passing → Program
  with_passing t q = see (rebuilt t.frame t.level) >>= with_display t q

  abbrev pub with_target : Target → Program
  with_target t = see (passed_by r t.frame) >>= with_passing t

  abbrev pub with_three : Three → Program
  with_three z = see (target_of r z) >>= with_target

-- What GOTO is given.
pub record JumpsTo (core : Core) (arguments : List Word) : Type 0 where
  pub level : ℕ
  pub segment : ℕ
  pub pointer : ℕ
  pub whole : wholes_in (reverse arguments) ≡ Some (pos level ∷ pos segment ∷ pos pointer ∷ [])
  pub to : Place
  pub low : 2 ≤ level
  pub high : level ≤ core.registers.ll
  pub shown : display_at core.registers level ≡ Some to
  pub segment_small : segment ≤ segment_numbers - 1
  pub pointer_small : pointer ≤ end_of_code

module _ (code : Code) (here : AtOperator code (ops.Plain kinds.Entr)) (arguments : List Word) (reference marked : Word) (below : List Word) (c : CallsIntrinsic here.img here.core GoTo arguments reference marked below)
    (jumps : JumpsTo here.core arguments) where
  open here use {img, p, core}
  open jumps use {level, segment, pointer, whole, to, low, high, shown, segment_small, pointer_small}

  abbrev r : Registers
  r = core.registers

  abbrev tested : Program → Effect Image
  tested t = effect_of p img (asked img t)

  abbrev to_pointer : Place → ℕ → ℕ → ℕ → Look Target
  to_pointer f l s q = found (record { frame = f; level = l; segment = s; pointer = q })

  abbrev to_segment : Place → ℕ → ℕ → Look Target
  to_segment f l s = valid (argument_number_in (pos pointer) end_of_code) >-> to_pointer f l s

  abbrev to_frame : ℕ → Place → Look Target
  to_frame l f = valid (argument_number_in (pos segment) (segment_numbers - 1)) >-> to_segment f l

  abbrev to_level : ℕ → Look Target
  to_level l = valid (display_at r l) >-> to_frame l

  level_there : level_in r (pos level) ≡ Some level
  level_there =
      ap (λ (b : Bool). if b && nat_le level r.ll then Some level else None) (most_is 2 level low)
      ∙ ap (λ (b : Bool). if b then Some level else None) (most_is level r.ll high)

  -- its three numbers are a target
  pub target_named : raw code img p ≡ effect_of p img (asked img (with_target core.registers (record { frame = to; level = level; segment = segment; pointer = pointer })))
  target_named =
      entered code here GoTo arguments reference marked below c
      ∙ ap (λ (o : Option (List ℤ)). tested (see (valid o >-> three_in) >>= with_three r)) whole
      ∙ ap (λ (o : Option ℕ). tested (see (valid o >-> to_level) >>= with_target r)) level_there
      ∙ ap (λ (o : Option Place). tested (see (valid o >-> to_frame level) >>= with_target r)) shown
      ∙ ap (λ (b : Bool). tested (see (valid (if b then Some segment else None) >-> to_segment to level) >>= with_target r)) (most_is segment (segment_numbers - 1) segment_small)
      ∙ ap (λ (b : Bool). tested (see (valid (if b then Some pointer else None) >-> to_pointer to level segment) >>= with_target r)) (most_is pointer end_of_code pointer_small)
