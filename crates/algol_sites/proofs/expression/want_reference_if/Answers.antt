use Rattle.std.proofs.Common.{◌∙◌, ap, sym}
use Rattle.algol_tree.specs.Accepted.{noted_all}
use Rattle.algol_tree.specs.Image.{expr}
use Rattle.algol_sites.specs.Expressing.{misplaced_if}
use Rattle.algol_sites.proofs.expression.want_reference_if.Goals as goal

pub returns-in-None : goal.returns-in-None
returns-in-None c = λ a t. sym (ap (λ w. noted_all c.args.faults.now.first (misplaced_if w (expr c.args.e.now) a)) c.in-None.is)

pub returns-in-Some : goal.returns-in-Some
returns-in-Some c = λ a t.
    c.want_reference.ensures a t ∙ sym (ap (λ w. noted_all c.args.faults.now.first (misplaced_if w (expr c.args.e.now) a)) c.in-Some.is)
