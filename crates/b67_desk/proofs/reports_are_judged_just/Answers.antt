use Rattle.b67_desk.proofs.JudgedJust.{runs_judged, replays_judged}
use Rattle.b67_desk.proofs.reports_are_judged_just.Goals as goal

pub returns-clause-runs : goal.returns-clause-runs
returns-clause-runs c = runs_judged

pub returns-clause-replays : goal.returns-clause-replays
returns-clause-replays c = replays_judged
