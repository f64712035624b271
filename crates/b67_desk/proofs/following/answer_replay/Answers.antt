use Rattle.std.specs.Prelude.{option_copied}
use Rattle.algol_tree.specs.Image.{program as plain}
use Rattle.b67_desk.specs.Answers.{Replays}
use Rattle.b67_desk.proofs.Followed.{told_answered, bad_answered, has_runs}
use Rattle.b67_desk.proofs.following.answer_replay.Goals as goal

pub returns-in-Told : goal.returns-in-Told
returns-in-Told c =
    told_answered (option_copied c.args.schedule) c.args.input (Replays c.args.budget (plain c.args.checked.now.program)) c.in-Told.given c.follow.result
    (rw c.in-Told.is at c.in_ok-given.ensures) c.follow.ensures

pub returns-in-Bad : goal.returns-in-Bad
returns-in-Bad c =
    bad_answered (option_copied c.args.schedule) c.args.input (Replays c.args.budget (plain c.args.checked.now.program)) c.in-Bad.answer (rw c.in-Bad.is at c.in_ok-given.ensures)

pub follow-requires-clause-runs : goal.follow-requires-clause-runs
follow-requires-clause-runs c = has_runs (option_copied c.args.schedule) c.in-Told.given (rw c.in-Told.is at c.in_ok-given.ensures)
