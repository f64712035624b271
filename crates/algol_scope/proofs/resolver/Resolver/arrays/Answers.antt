use Rattle.std.proofs.Common.{◌∙◌, ap, length, refl, sym}
use Rattle.std.proofs.lemmas.List.{length-map}
use Rattle.algol_tree.specs.Image as image
use Rattle.b67_list.proofs.Answered.{on_ok}
use Rattle.algol_scope.proofs.Procedures.{declares_arrays}
use Rattle.algol_scope.proofs.resolver.Resolver.arrays.Goals as goal

pub returns : goal.returns
returns c =
    on_ok c.bounds.result
    (λ w later.
    declares_arrays c.args.self.now c.cells.new.self _ c.args.kind c.args.ns.now (image.pairs c.args.pairs.now) (length c.as_slice-subscripts.result.now) later
    (ap length (c.as_slice-subscripts.ensures.value ∙ c.items.ensures) ∙ sym (length-map c.args.pairs.now image.pair)) c.in_ok-cells.ensures w refl refl)
    c.bounds.ensures
