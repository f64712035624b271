use Rattle.std.proofs.Common.{Bool, drop}
use Rattle.algol_tree.specs.Image.{stmts}
use Rattle.algol_tree.specs.Blocks.{blocks_in_stmts}
use Rattle.algol_tree.specs.Sites.{sites_in_stmts}
use Rattle.algol_scope.proofs.Statements.{Heads}
use Rattle.algol_scope.proofs.Procedures.{Through}
use Rattle.algol_scope.proofs.resolver.Resolver.+statements.Given as goal

abbrev pub invariant-stmts-statements : goal.invariant-stmts-statements
invariant-stmts-statements l =
    (listed : Bool) →
    Heads l.fn.self l.self (λ blocks. sites_in_stmts blocks (stmts l.fn.ss) listed) (blocks_in_stmts (stmts l.fn.ss))
    (λ blocks. sites_in_stmts blocks (stmts (drop l.s-index l.ss)) listed) (blocks_in_stmts (stmts (drop l.s-index l.ss)))

abbrev pub invariant-decls-declarations : goal.invariant-decls-declarations
invariant-decls-declarations l = Through l.fn.self l.self l.fn.ds (drop l.at l.ds) (drop l.at l.ahead.items)
