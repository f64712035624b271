use Rattle.algol_tree.specs.Sites.{inside_list}
use Rattle.algol_tree.specs.Image.{exprs}
use Rattle.std.proofs.Common.{refl}
use Rattle.b67_list.proofs.Answered.{on_ok}
use Rattle.algol_scope.proofs.Visiting.{visits_walk}
use Rattle.algol_scope.proofs.resolver.Resolver.list.Goals as goal

pub returns : goal.returns
returns c = on_ok c.list.result (λ w. visits_walk c.args.self.now _ (inside_list (exprs c.args.es.now)) w refl refl) c.list.ensures
