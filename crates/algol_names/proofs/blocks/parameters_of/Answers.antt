use Rattle.std.proofs.Common.{map, ap, ◌∙◌, refl}
use Rattle.algol_sorts.specs.Specified as said
use Rattle.algol_cells.specs.SeenScope.{parameter}
use Rattle.algol_names.proofs.Said.{parameter_pushed, parameters_step}
use Rattle.algol_names.proofs.blocks.parameters_of.Goals as goal

pub parameters-preserved : goal.parameters-preserved
parameters-preserved c =
    let h = c.args.h.now in
    let n = c.n-item.result in
    parameters_step h c.deref-n-items.result.now c.parameters.n-index n (map parameter c.parameters.all.items) (map parameter c.push.new.self.items) c.parameters-test.true c.n-item.is
    (parameter_pushed h n c.parameters.all.items c.push.new.self.items _ c.in_ok-push.ensures.items refl refl
    (c.sort.ensures ∙ c.in_ok-said.ensures c.bytes.result.now ∙ ap (said.parameter_in h) c.bytes.ensures))
    ∙ c.parameters.invariant
