use Rattle.std.proofs.Common.{◌∙◌, ap, sym}
use Rattle.algol_tree.specs.Accepted.{noted_all}
use Rattle.algol_tree.specs.Image.{expr}
use Rattle.algol_sites.specs.Noting.{mistyped_for}
use Rattle.algol_sites.proofs.types.want_if.Goals as goal

pub returns-in-None : goal.returns-in-None
returns-in-None c = λ a t. sym (ap (λ k. noted_all c.args.faults.now.first (mistyped_for k (expr c.args.e.now) a)) c.in-None.is)

pub returns-in-Some : goal.returns-in-Some
returns-in-Some c = λ a t. c.want.ensures a t ∙ sym (ap (λ k. noted_all c.args.faults.now.first (mistyped_for k (expr c.args.e.now) a)) c.in-Some.is)
