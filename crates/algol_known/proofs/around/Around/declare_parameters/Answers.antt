use Rattle.std.proofs.Common.{◌∙◌}
use Rattle.algol_known.proofs.Extending.{admits_all, admits_back}
use Rattle.algol_known.proofs.around.Around.declare_parameters.Goals as goal

pub parameters-preserved : goal.parameters-preserved
parameters-preserved c =
    λ modes.
    admits_back c.args.self.now c.parameters.self c.declare_parameter.new.self c.args.h.now c.args.procedure c.as_slice-ns.result.now c.parameters.at
    c.index-ns-at.result c.index-ns-at-in-parameters.result c.bytes.result.now c.class_of_parameter-class.result c.entry-entry.result c.parameters-test.true
    c.parameters.auto.at (c.as_slice-ns.ensures.value ∙ c.items.ensures) c.bytes.ensures modes c.class_of_parameter-class.ensures c.entry-entry.ensures
    (c.parameters.invariant modes) c.in_ok-declare_parameter.ensures.known c.declare_parameter.ensures.outer c.declare_parameter.ensures.procedures
    c.declare_parameter.ensures.typed c.declare_parameter.ensures.declared

pub returns : goal.returns
returns c =
    λ modes.
    admits_all c.args.self.now c.parameters.self c.args.h.now c.as_slice-ns.result.now c.parameters.at c.parameters-test.false
    (c.as_slice-ns.ensures.value ∙ c.items.ensures) (c.parameters.invariant modes)
