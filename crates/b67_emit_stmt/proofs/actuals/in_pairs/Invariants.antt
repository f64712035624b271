use Rattle.std.proofs.Common.{◌≡◌, ◌++◌, drop}
use Rattle.algol_tree.specs.Image.{pairs}
use Rattle.b67_emitter.specs.Values.{meanings}
use Rattle.b67_emit_stmt.specs.Actuals.{images, cells_in_pairs}
use Rattle.b67_emit_stmt.proofs.actuals.in_pairs.Given as goal

-- those in the bounds that are done
abbrev pub invariant-pairs : goal.invariant-pairs
invariant-pairs l =
    images l.to.items ++ cells_in_pairs (meanings l.names) (pairs (drop l.pair-index l.pairs)) ≡ images l.fn.to.items ++ cells_in_pairs (meanings l.names) (pairs l.pairs)
