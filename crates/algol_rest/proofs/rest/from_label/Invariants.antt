use Rattle.std.proofs.Common.{◌≡◌, length}
use Rattle.algol_meaning.specs.Statements.{stmts_from}
use Rattle.algol_meaning.specs.SeenTree.{stmts}
use Rattle.algol_rest.proofs.rest.from_label.Given as goal

abbrev pub invariant-looking : goal.invariant-looking
invariant-looking l = stmts_from (stmts l.at) l.label ≡ stmts_from (stmts l.initial.at) l.label

abbrev pub decreases-looking : goal.decreases-looking
decreases-looking l = length l.at
