use Rattle.std.proofs.Common.{◌≡◌, ◌+◌, ◌*◌, ◌≤◌}
use Rattle.b67_segment.specs.Operators.{size}
use Rattle.b67_segment.specs.Building.{level_set}
use Rattle.b67_templates.specs.Emitting.{Emitted}
use Rattle.b67_emit_stmt.specs.Cases.{EntriesAt}
use Rattle.b67_emit_stmt.proofs.case.append_entries.Given as goal

abbrev pub invariant-entries : goal.invariant-entries
invariant-entries l = record {
  within : l.counter ≤ l.many;
  level : l.out.level ≡ l.fn.out.level;
  wide : size l.out.operators ≡ size l.fn.out.operators + 3 * l.counter;
  code : Emitted l.fn.out l.out (λ qs. EntriesAt qs (level_set l.fn.out) l.counter (size l.fn.out.operators) (size l.out.operators));
}
