use Rattle.std.proofs.Common.{◌≡◌, ◌++◌, drop, length}
use Rattle.algol_tree.specs.Image.{exprs}
use Rattle.algol_names.specs.Found.{in_exprs}
use Rattle.algol_names.proofs.expressions.+expressions.Given as goal

abbrev pub invariant-add_in_exprs-expressions : goal.invariant-add_in_exprs-expressions
invariant-add_in_exprs-expressions l =
    l.names.items ++ in_exprs (exprs (drop l.e-index l.es)) (length l.outer) ≡ l.fn.names.items ++ in_exprs (exprs l.fn.es) (length l.outer)
