use Rattle.std.proofs.Common.{drop}
use Rattle.algol_check.proofs.Arms.{Remains, RemainsDecls}
use Rattle.algol_check.proofs.checker.Checker.+statements.Given as goal

abbrev pub invariant-stmts-statements : goal.invariant-stmts-statements
invariant-stmts-statements l = Remains l.scopes l.initial.self l.self l.ss (drop l.s-index l.ss) l.listed

abbrev pub invariant-body-declarations : goal.invariant-body-declarations
invariant-body-declarations l = RemainsDecls l.scopes l.initial.self l.self l.ds (drop l.at l.ds)
