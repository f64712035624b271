-- The plain trees of statements and declarations.
use Rattle.algol_tree.proofs.Images.{for_is, stmt_of_if, stmt_of_thru, stmt_of_until, stmt_of_while}

pub ruleset stmt_laws = (stmt_of_while, stmt_of_until, stmt_of_thru, for_is, stmt_of_if)
