use Rattle.std.proofs.Common.{[], ◌∷◌, length}
use Rattle.algol_tree.specs.Due as due
use Rattle.algol_part.specs.Phrases.{specs_in}
use Rattle.algol_part.proofs.Loops.{GoesOn}
use Rattle.algol_part.proofs.heading.read_specs.Given as goal

abbrev pub invariant-specs : goal.invariant-specs
invariant-specs l = GoesOn specs_in [] l.tokens (due.spec ∷ due.specs_more ∷ []) (due.specified l.specs.items) l.rest

abbrev pub decreases-specs : goal.decreases-specs
decreases-specs l = length l.rest
