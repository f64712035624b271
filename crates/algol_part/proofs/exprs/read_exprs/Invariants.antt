use Rattle.std.proofs.Common.{[], length}
use Rattle.algol_tree.specs.Due.{many}
use Rattle.algol_tree.specs.DueStmt.{wholes_in}
use Rattle.algol_tree.specs.Image as image
use Rattle.algol_part.proofs.Loops.{GoesOn}
use Rattle.algol_part.proofs.Firsts.{more_wholes}
use Rattle.algol_part.proofs.exprs.read_exprs.Given as goal

abbrev pub invariant-exprs : goal.invariant-exprs
invariant-exprs l = GoesOn wholes_in [] l.tokens more_wholes (many (image.exprs l.exprs.items)) l.rest

abbrev pub decreases-exprs : goal.decreases-exprs
decreases-exprs l = length l.rest
