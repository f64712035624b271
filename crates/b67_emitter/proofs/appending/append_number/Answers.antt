use Rattle.std.proofs.Common.{subst}
use Rattle.std.proofs.lemmas.Result.{on_ok_weaker}
use Rattle.b67_ops.specs.declared.Operator.{Operator}
use Rattle.b67_segment.specs.Operators.{size}
use Rattle.b67_segment.specs.Building.{level_set}
use Rattle.b67_templates.specs.Fragments.{Has}
use Rattle.b67_templates.specs.Emitting.{Emitted}
use Rattle.b67_emitter.proofs.Appends.{number_code}
use Rattle.b67_emitter.proofs.appending.append_number.Goals as goal

pub append_operator-requires-clause-fits : goal.append_operator-requires-clause-fits
append_operator-requires-clause-fits c = c.literal.ensures.fits (level_set c.args.out.now)

pub returns-clause-code : goal.returns-clause-code
returns-clause-code c =
    on_ok_weaker c.append_operator.result
    (number_code c.args.out.now c.append_operator.new.out (level_set c.args.out.now) c.literal.result c.args.value c.literal.ensures.pushes c.literal.ensures.whole)
    c.append_operator.ensures.code

pub returns-clause-shortest : goal.returns-clause-shortest
returns-clause-shortest c =
    let E : Operator → Type 0 =
    λ op. Emitted c.args.out.now c.append_operator.new.out
    (λ qs. Has qs (level_set c.args.out.now) (size c.args.out.now.operators) op (size c.append_operator.new.out.operators)) in
    on_ok_weaker c.append_operator.result (λ e. subst E c.literal.ensures.value e) c.append_operator.ensures.code
