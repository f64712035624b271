use Rattle.std.proofs.Common.{◌∙◌, ap}
use Rattle.algol_tree.specs.Accepted.{noted_all}
use Rattle.algol_tree.specs.Image.{expr}
use Rattle.algol_sites.specs.Expressing.{misplaced_if}
use Rattle.algol_sites.specs.Noting.{mistyped_for}
use Rattle.algol_sites.proofs.Actuals.{actual_wanted}
use Rattle.algol_sites.proofs.expression.want_actual.Goals as goal

pub returns : goal.returns
returns c = λ a t.
    actual_wanted (expr c.args.e.now) c.args.formal a c.args.faults.now.first c.want_if.new.faults.first c.want_reference_if.new.faults.first
    (c.want_if.ensures a t ∙ ap (λ k. noted_all c.args.faults.now.first (mistyped_for k (expr c.args.e.now) a)) c.value_wanted.ensures)
    (c.want_reference_if.ensures a t ∙ ap (λ w. noted_all c.want_if.new.faults.first (misplaced_if w (expr c.args.e.now) a)) c.reference_wanted.ensures)
