use Rattle.algol_tree.specs.Image.{program as plain}
use Rattle.b67_desk.proofs.Followed.{replayed_answered}
use Rattle.b67_desk.proofs.following.follow.Goals as goal

pub returns : goal.returns
returns c =
    let tree = plain c.args.checked.now.program in
    replayed_answered c.args.budget tree c.args.given.now c.in_ok-replay_report.field-0 c.tell.result (c.in_ok-replay_report.ensures.explained tree c.in_ok-code.ensures.faithful) c.tell.ensures
