use Rattle.std.proofs.Common.{◌≡◌, ◌+◌, ◌*◌, ◌≤◌, List, length}
use Rattle.algol_tree.specs.declared.tree.Named.{Named}
use Rattle.b67_segment.specs.Operators.{size}
use Rattle.b67_segment.specs.Building.{level_set}
use Rattle.b67_templates.specs.Emitting.{Emitted}
use Rattle.b67_emit_stmt.specs.Places.{Later, Place, EventsMadeAt}
use Rattle.b67_emit_stmt.proofs.events.append_events.Given as goal

abbrev pub invariant-events : goal.invariant-events
invariant-events l = record {
  within : l.counter ≤ l.many;
  level : l.out.level ≡ l.fn.out.level;
  wide : size l.out.operators ≡ size l.fn.out.operators + 5 * l.counter;
  code : (sc : Place) (later : Later) (ns : List Named) → length ns ≡ l.counter →
      Emitted l.fn.out l.out (λ qs. EventsMadeAt sc later qs (level_set l.fn.out) ns (size l.fn.out.operators) (size l.out.operators));
}
