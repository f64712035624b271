use Rattle.std.proofs.Common.{◌≡◌}
use Rattle.algol_meaning.specs.Statements.{is_labelled}
use Rattle.algol_meaning.specs.SeenTree.{stmt}
use Rattle.algol_rest.specs.SeenStatement.{stmt_size}
use Rattle.algol_rest.proofs.rest.is_labelled.Given as goal

abbrev pub invariant-looking : goal.invariant-looking
invariant-looking l = is_labelled (stmt l.at) l.label ≡ is_labelled (stmt l.initial.at) l.label

abbrev pub decreases-looking : goal.decreases-looking
decreases-looking l = stmt_size (stmt l.at)
