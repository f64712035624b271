use Rattle.algol_tree.specs.Sites.{sites}
use Rattle.algol_tree.specs.Image.{expr}
use Rattle.std.proofs.Common.{refl}
use Rattle.b67_list.proofs.Answered.{on_ok}
use Rattle.algol_scope.proofs.Visiting.{visits_walk}
use Rattle.algol_scope.proofs.resolver.Resolver.expr.Goals as goal

pub returns : goal.returns
returns c = on_ok c.expr.result (λ w. visits_walk c.args.self.now _ (sites (expr c.args.e.now)) w refl refl) c.expr.ensures
