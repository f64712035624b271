use Rattle.std.proofs.Common.{[], ◌∷◌, refl}
use Rattle.algol_scope.specs.Noting.{at_name}
use Rattle.algol_scope.proofs.Visiting.{visits_walk}
use Rattle.algol_scope.proofs.resolver.Resolver.name.Goals as goal

pub returns : goal.returns
returns c = visits_walk c.args.self.now _ (λ a. at_name c.args.n.now a ∷ []) c.in_ok-name.ensures.walks refl refl
