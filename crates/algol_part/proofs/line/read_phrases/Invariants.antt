use Rattle.std.proofs.Common.{[], length}
use Rattle.algol_tree.specs.Due as due
use Rattle.algol_part.specs.Phrases.{phrases_in}
use Rattle.algol_part.proofs.Loops.{GoesOn}
use Rattle.algol_part.proofs.Firsts.{more_phrases}
use Rattle.algol_part.proofs.line.read_phrases.Given as goal

abbrev pub invariant-phrases : goal.invariant-phrases
invariant-phrases l = GoesOn phrases_in [] l.tokens more_phrases (due.phrases l.phrases.items) l.rest

abbrev pub decreases-phrases : goal.decreases-phrases
decreases-phrases l = length l.rest
