use Rattle.std.proofs.Common.{[], length}
use Rattle.algol_tree.specs.Due.{names}
use Rattle.algol_tree.specs.DueDecl.{files_in}
use Rattle.algol_part.proofs.Loops.{GoesOn}
use Rattle.algol_part.proofs.Firsts.{more_files}
use Rattle.algol_part.proofs.names.read_files.Given as goal

abbrev pub invariant-files : goal.invariant-files
invariant-files l = GoesOn files_in [] l.tokens more_files (names l.files.items) l.rest

abbrev pub decreases-files : goal.decreases-files
decreases-files l = length l.rest
