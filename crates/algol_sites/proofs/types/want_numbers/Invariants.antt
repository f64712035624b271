use Rattle.std.proofs.Common.{◌≡◌, drop}
use Rattle.algol_tree.specs.Accepted.{noted_all}
use Rattle.algol_tree.specs.Image.{exprs}
use Rattle.algol_tree.specs.Surroundings.{Surroundings}
use Rattle.algol_sites.specs.Noting.{mistyped_list}
use Rattle.algol_sites.specs.Seeing.{TellsEach}
use Rattle.algol_sites.proofs.types.want_numbers.Given as goal

abbrev pub invariant-expressions : goal.invariant-expressions
invariant-expressions l =
    (a : Surroundings) → TellsEach l.scopes a (exprs l.fn.es) →
    (noted_all l.faults.first (mistyped_list (exprs (drop l.e-index l.es)) a) ≡ noted_all l.initial.faults.first (mistyped_list (exprs l.fn.es) a)) ×
    TellsEach l.scopes a (exprs (drop l.e-index l.es))
