use Rattle.std.proofs.Common.{◌∙◌, ap, length}
use Rattle.algol_tree.specs.Image.{expr, exprs}
use Rattle.algol_tree.specs.Accepted.{noted_all}
use Rattle.algol_tree.specs.Surroundings.{class_of}
use Rattle.algol_tree.specs.Types.{element_type}
use Rattle.algol_sites.specs.Expressing.{miscounted_subscripts}
use Rattle.algol_sites.specs.Noting.{mistyped_for, mistyped_list}
use Rattle.algol_sites.proofs.Seen.{element_told}
use Rattle.algol_sites.proofs.statement.element_side.Goals as goal

pub returns : goal.returns
returns c = λ a n u w.
    let e = expr c.args.value.now in
    let es = exprs c.args.subs.now in
    c.count_subscripts.ensures a n
    ∙ ap (λ o. noted_all o (miscounted_subscripts c.args.name.now (length c.args.subs.now) a))
    (c.want_if.ensures a w
    ∙ ap (λ k. noted_all c.want_numbers.new.faults.first (mistyped_for k e a))
    (c.element_type.ensures ∙ element_told c.args.scopes.now a c.args.name.now n c.sort_at.result c.sort_at.ensures)
    ∙ ap (λ o. noted_all o (mistyped_for (element_type (class_of a c.args.name.now)) e a))
    (c.want_numbers.ensures a u ∙ ap (λ o. noted_all o (mistyped_list es a)) (c.want_name.ensures a n)))
