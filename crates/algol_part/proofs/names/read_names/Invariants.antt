use Rattle.std.proofs.Common.{[], length}
use Rattle.algol_tree.specs.Due.{names}
use Rattle.algol_tree.specs.DueDecl.{names_in_list}
use Rattle.algol_part.proofs.Loops.{GoesOn}
use Rattle.algol_part.proofs.Firsts.{more_names}
use Rattle.algol_part.proofs.names.read_names.Given as goal

abbrev pub invariant-names : goal.invariant-names
invariant-names l = GoesOn names_in_list [] l.tokens more_names (names l.names.items) l.rest

abbrev pub decreases-names : goal.decreases-names
decreases-names l = length l.rest
