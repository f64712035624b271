use Rattle.std.proofs.Common.{◌∙◌, ap, sym}
use Rattle.std.specs.Prelude.{option_copied}
use Rattle.algol_tree.specs.Accepted.{noted_all}
use Rattle.algol_tree.specs.Image.{expr}
use Rattle.algol_sites.proofs.Telling.{alone_told}
use Rattle.algol_sites.proofs.Actuals.{misplaced_none, misplaced_some}
use Rattle.algol_sites.proofs.expression.want_reference.Goals as goal

pub returns-in-None : goal.returns-in-None
returns-in-None c = λ a t.
    misplaced_none c.args.wanted (expr c.args.e.now) a c.args.faults.now.first _ c.first_spot.result (sym c.name_alone.ensures ∙ ap option_copied c.in-None.is)
    c.first_spot.ensures c.note.ensures

pub returns-in-Some : goal.returns-in-Some
returns-in-Some c = λ a t.
    let alone = sym c.name_alone.ensures ∙ ap option_copied c.in-Some.is in
    c.want_name.ensures a (alone_told c.args.scopes.now a (expr c.args.e.now) c.in-Some.name.now alone t)
    ∙ ap (noted_all c.args.faults.now.first) (sym (misplaced_some c.args.wanted (expr c.args.e.now) a c.in-Some.name.now alone))
