use Rattle.std.proofs.Common.{Ok, refl}
use Rattle.b67_words.specs.declared.Words.TheVariants.{OnSource, Exec, Trial}
use Rattle.b67_desk.proofs.Answering.{command_is, source_asks, trial_asks}
use Rattle.b67_desk.proofs.top.ask_command.Goals as goal

pub returns-in-OnSource : goal.returns-in-OnSource
returns-in-OnSource g c =
    command_is c.args.command (OnSource c.in-OnSource.task) _ c.ask_source.result c.in-OnSource.is
    (source_asks (OnSource c.in-OnSource.task) _ c.ask_source.result tt c.ask_source.ensures)

pub returns-in-Exec : goal.returns-in-Exec
returns-in-Exec g c =
    command_is c.args.command (Exec c.in-Exec.budget) _ c.ask_code.result c.in-Exec.is (source_asks (Exec c.in-Exec.budget) _ c.ask_code.result tt c.ask_code.ensures)

pub returns-in_ok-ask_trial-in-Trial : goal.returns-in_ok-ask_trial-in-Trial
returns-in_ok-ask_trial-in-Trial g c =
    let a = c.in_ok-ask_trial-in-Trial.field-0 in
    command_is c.args.command (Trial c.in-Trial.n) _ (Ok a) c.in-Trial.is
    (trial_asks c.in-Trial.n _ a (record { left = refl; faults = refl }) c.in_ok-ask_trial-in-Trial.ensures)
