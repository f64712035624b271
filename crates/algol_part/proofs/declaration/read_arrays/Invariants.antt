use Rattle.std.proofs.Common.{[], ◌∷◌, length}
use Rattle.algol_tree.specs.Due as due
use Rattle.algol_tree.specs.Image as image
use Rattle.algol_part.specs.Phrases.{arrays_in}
use Rattle.algol_part.proofs.Loops.{GoesOn}
use Rattle.algol_part.proofs.declaration.read_arrays.Given as goal

abbrev pub invariant-segments : goal.invariant-segments
invariant-segments l = GoesOn (arrays_in l.kind) (due.declared (image.decls l.fn.decls.items) ∷ []) l.tokens (arrays_in l.kind) (due.declared (image.decls l.decls.items)) l.rest

abbrev pub decreases-segments : goal.decreases-segments
decreases-segments l = length l.rest
