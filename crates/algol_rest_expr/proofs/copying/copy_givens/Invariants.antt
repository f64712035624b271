use Rattle.std.proofs.Common.{◌≡◌, take}
use Rattle.algol_rest_expr.proofs.copying.copy_givens.Given as goal

abbrev pub invariant-loop-given : goal.invariant-loop-given
invariant-loop-given l = l.copies.items ≡ take l.given-index l.from
