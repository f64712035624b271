use Rattle.std.proofs.Common.{◌∙◌, ap, length}
use Rattle.algol_tree.specs.Accepted.{noted_all}
use Rattle.algol_tree.specs.Image.{exprs}
use Rattle.algol_sites.specs.Expressing.{miscounted_subscripts}
use Rattle.algol_sites.specs.Noting.{mistyped_list}
use Rattle.algol_sites.proofs.expression.element.Goals as goal

pub returns : goal.returns
returns c = λ a t u.
    c.count_subscripts.ensures a t
    ∙ ap (λ o. noted_all o (miscounted_subscripts c.args.name.now (length c.args.subs.now) a))
    (c.want_numbers.ensures a u ∙ ap (λ o. noted_all o (mistyped_list (exprs c.args.subs.now) a)) (c.want_name.ensures a t))
