use Rattle.algol_tree.specs.Image.{program as plain}
use Rattle.b67_desk.proofs.Answering.{run_asks}
use Rattle.b67_desk.proofs.tree.ask_run.Goals as goal

pub returns : goal.returns
returns c =
    run_asks c.args.processors c.args.budget c.args.rule (plain c.args.checked.now.program) c.in_ok-code.code c.in_ok-code.ensures.faithful c.requires.some c.requires.budget
