use Rattle.std.proofs.Common.{◌∙◌, ap}
use Rattle.algol_tree.specs.declared.refusal.Code.TheVariants as codes
use Rattle.algol_tree.specs.declared.tree.Kind.TheVariants as kinds
use Rattle.algol_tree.specs.Image.{expr}
use Rattle.algol_tree.specs.Accepted.{noted_all}
use Rattle.algol_sites.specs.Noting.{broken_if, mistyped}
use Rattle.algol_sites.specs.Wanting.{unfit}
use Rattle.algol_sites.specs.declared.wanted.Wanted.TheVariants as wanted
use Rattle.algol_sites.proofs.Seen.{truth_told}
use Rattle.algol_sites.proofs.statement.control.Goals as goal

pub returns : goal.returns
returns c = λ a v tx ts tl.
    c.want_name.ensures a v
    ∙ ap (λ o. noted_all o (unfit wanted.Simple codes.NotAssignable c.args.v.now a))
    (c.want-3.ensures a tl
    ∙ ap (λ o. noted_all o (mistyped kinds.Number (expr c.args.last.now) a))
    (c.want-2.ensures a ts
    ∙ ap (λ o. noted_all o (mistyped kinds.Number (expr c.args.step.now) a))
    (c.want.ensures a tx
    ∙ ap (λ o. noted_all o (mistyped kinds.Number (expr c.args.x.now) a))
    (c.note_if.ensures
    ∙ ap (λ b. noted_all c.args.faults.now.first (broken_if codes.WrongType b c.args.v.now.spot))
    (c.is_truth.ensures ∙ truth_told c.args.scopes.now a c.args.v.now v c.sort_at.result c.sort_at.ensures)))))
