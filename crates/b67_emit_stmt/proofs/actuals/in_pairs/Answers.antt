use Rattle.std.proofs.Common.{List, refl}
use Rattle.algol_tree.specs.declared.tree.Pair.{Pair}
use Rattle.algol_tree.specs.Image.{expr, pairs}
use Rattle.b67_emitter.specs.Values.{meanings}
use Rattle.b67_emit_stmt.specs.Actuals.{images, cells_in_actual, cells_in_pairs}
use Rattle.b67_emit_stmt.proofs.Gathered.{next_part}
use Rattle.b67_emit_stmt.proofs.actuals.in_pairs.Goals as goal

pub pairs-preserved : goal.pairs-preserved
pairs-preserved c =
    let told = meanings c.args.names.now in
    let xs = c.args.pairs.now in
    next_part (λ (l : List Pair). cells_in_pairs told (pairs l)) (λ (p : Pair). cells_in_actual told (expr p.high)) (λ p l. refl) xs c.pairs.pair-index c.pair-item.result
    (images c.pairs.to.items) (images c.in_expr.new.to.items) (images c.args.to.now.items) (cells_in_pairs told (pairs xs)) c.pairs-test.true c.pair-item.is c.in_ok-in_expr.ensures c.pairs.invariant
