use Rattle.std.proofs.Common.{◌≡◌, ◌+◌, ◌≤◌}
use Rattle.std.specs.Prelude.{replicate}
use Rattle.b67_ops.specs.declared.PlainKind.TheVariants as kinds
use Rattle.b67_segment.specs.Operators.{size}
use Rattle.b67_segment.specs.Building.{level_set}
use Rattle.b67_templates.specs.Fragments.{AllAt}
use Rattle.b67_templates.specs.Emitting.{Emitted}
use Rattle.b67_emit_stmt.proofs.cells.append_zeros.Given as goal

abbrev pub invariant-zeros : goal.invariant-zeros
invariant-zeros l = record {
  within : l.counter ≤ l.many;
  level : l.out.level ≡ l.fn.out.level;
  wide : size l.out.operators ≡ size l.fn.out.operators + l.counter;
  code : Emitted l.fn.out l.out (λ qs. AllAt qs (level_set l.fn.out) (replicate l.counter kinds.Zero) (size l.fn.out.operators) (size l.out.operators));
}
