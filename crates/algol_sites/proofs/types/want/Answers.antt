use Rattle.std.proofs.Common.{◌∙◌, ap}
use Rattle.algol_tree.specs.declared.refusal.Code.TheVariants as codes
use Rattle.algol_tree.specs.Accepted.{noted_all}
use Rattle.algol_tree.specs.Cells.{first_spot}
use Rattle.algol_tree.specs.Image.{expr}
use Rattle.algol_sites.specs.Noting.{broken_if, differs}
use Rattle.algol_sites.proofs.types.want.Goals as goal

pub returns : goal.returns
returns c = λ a t.
    c.want_type.ensures
    ∙ ap (λ k. noted_all c.args.faults.now.first (broken_if codes.WrongType (differs c.args.kind k) (first_spot (expr c.args.e.now)))) (c.type_of.ensures a t)
