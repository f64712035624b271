use Rattle.std.proofs.Common.{◌∷◌}
use Rattle.algol_tree.specs.Sites.{inside_actuals}
use Rattle.algol_tree.specs.Surroundings.{formals_at}
use Rattle.algol_tree.specs.Image.{exprs}
use Rattle.b67_list.proofs.Answered.{on_ok}
use Rattle.algol_scope.specs.Noting.{at_name}
use Rattle.std.proofs.Common.{refl}
use Rattle.algol_scope.proofs.Visiting.{visits_walk}
use Rattle.algol_scope.proofs.resolver.Resolver.call.Goals as goal

pub returns : goal.returns
returns c = on_ok c.call.result (λ w. visits_walk c.args.self.now _ (λ a. at_name c.args.c.now.name a ∷ inside_actuals (exprs c.args.c.now.actuals) (formals_at a c.args.c.now.name) a) w refl refl) c.call.ensures
