use Rattle.std.proofs.Common.{refl, arith}
use Rattle.algol_tree.specs.Image.{program as plain}
use Rattle.b67_desk.proofs.Answering.{tried_answered}
use Rattle.b67_desk.proofs.tree.answer_trial.Goals as goal

pub run_report-requires : goal.run_report-requires
run_report-requires c =
    record { faithful = (plain c.args.checked.now.program, c.in_ok-code.ensures.faithful); processors = (omega arith, omega arith); budget = (omega arith, omega arith) }

pub returns : goal.returns
returns c =
    let tree = plain c.args.checked.now.program in
    tried_answered c.args.bytes tree c.in_ok-run_report.field-0 c.tell_trial.result ((c.in_ok-run_report.ensures tree c.in_ok-code.ensures.faithful).alone refl) c.tell_trial.ensures
