use Rattle.std.proofs.Common.{◌≡◌, drop}
use Rattle.algol_tree.specs.Image.{exprs}
use Rattle.algol_tree.specs.Sites.{inside_list}
use Rattle.algol_tree.specs.Surroundings.{Surroundings}
use Rattle.algol_sites.specs.Noting.{noted_in}
use Rattle.algol_sites.specs.Seeing.{TellsEach}
use Rattle.algol_sites.proofs.expression.expressions.Given as goal

abbrev pub invariant-expressions : goal.invariant-expressions
invariant-expressions l =
    (a : Surroundings) → TellsEach l.scopes a (exprs l.fn.es) →
    (noted_in l.faults.first (inside_list (exprs (drop l.e-index l.es)) a) ≡ noted_in l.initial.faults.first (inside_list (exprs l.fn.es) a)) ×
    TellsEach l.scopes a (exprs (drop l.e-index l.es))
