use Rattle.std.proofs.Common.{◌≡◌, ◌∙◌, ℕ, refl, subst, arith}
use Rattle.std.specs.Prelude.{replicate}
use Rattle.b67_ops.specs.declared.PlainKind.TheVariants as kinds
use Rattle.b67_segment.specs.Operators.{size}
use Rattle.b67_segment.specs.Building.{level_set}
use Rattle.b67_segment.proofs.Cited.{set_after}
use Rattle.b67_templates.specs.Fragments.{AllAt}
use Rattle.b67_templates.specs.Emitting.{Emitted}
use Rattle.b67_emitter.proofs.Appends.{same_level}
use Rattle.b67_emit_stmt.proofs.Parts.{emitted_none, plain_at}
use Rattle.b67_emit_stmt.proofs.Zeros.{zeros_next}
use Rattle.b67_emit_stmt.proofs.cells.append_zeros.Goals as goal

pub zeros-init : goal.zeros-init
zeros-init c =
    let a = c.args.out.now in
    record {
      within = omega arith;
      level = refl;
      wide = omega arith;
      code = emitted_none a (λ qs. AllAt qs (level_set a) (replicate 0 kinds.Zero) (size a.operators) (size a.operators)) (λ qs. refl);
    }

pub append_plain-requires-clause-set : goal.append_plain-requires-clause-set
append_plain-requires-clause-set c = set_after c.args.out.now c.zeros.out c.zeros.invariant.level c.requires.set

pub append_plain-requires-clause-room : goal.append_plain-requires-clause-room
append_plain-requires-clause-room c = omega (arith, c.zeros-test.true, c.zeros.invariant.wide, c.requires.room)

pub zeros-preserved : goal.zeros-preserved
zeros-preserved c =
    let a = c.args.out.now in
    let b = c.zeros.out in
    let d = c.append_plain.new.out in
    record {
      within = omega (arith, c.zeros-test.true);
      level = c.in_ok-append_plain.ensures.level ∙ c.zeros.invariant.level;
      wide = omega (arith, c.in_ok-append_plain.ensures.size, c.zeros.invariant.wide);
      code = zeros_next (level_set a) c.zeros.counter a b d c.zeros.invariant.code (plain_at kinds.Zero (level_set a) (same_level a b c.zeros.invariant.level) c.in_ok-append_plain.ensures.code);
    }

pub returns-clause-code : goal.returns-clause-code
returns-clause-code c =
    let all : c.zeros.counter ≡ c.args.many = omega (arith, c.zeros-test.false, c.zeros.invariant.within) in
    let a = c.args.out.now in
    let E : ℕ → Type 0 = λ n. Emitted a c.zeros.out (λ qs. AllAt qs (level_set a) (replicate n kinds.Zero) (size a.operators) (size c.zeros.out.operators)) in
    subst E all c.zeros.invariant.code

pub returns-clause-size : goal.returns-clause-size
returns-clause-size c = omega (arith, c.zeros-test.false, c.zeros.invariant.within, c.zeros.invariant.wide)
