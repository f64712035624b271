use Rattle.std.proofs.Common.{sym, subst}
use Rattle.algol_tree.specs.Image.{program as plain}
use Rattle.b67_segment.specs.declared.code.Code.{Code}
use Rattle.b67_faithful.specs.Faithful.{Faithful}
use Rattle.b67_desk.specs.Commanded.{IsPerformed}
use Rattle.b67_desk.specs.Consoling.{IsWholeSchedule}
use Rattle.b67_desk.proofs.Commanding.{replay_is}
use Rattle.b67_desk.proofs.consoling.replay_all.Goals as goal

pub replay_report-requires-clause-faithful : goal.replay_report-requires-clause-faithful
replay_report-requires-clause-faithful c =
    let tree = plain c.args.checked.now.program in (tree, subst (λ (k : Code). Faithful tree k) (sym c.in_ok-copy.ensures) c.requires.faithful)

pub returns : goal.returns
returns c =
    let tree = plain c.args.checked.now.program in
    let report = c.in_ok-replay_report.field-0 in
    replay_is tree c.args.code.now c.args.given.now report c.replay_of.result
    (c.in_ok-replay_report.ensures.explained tree (subst (λ (k : Code). Faithful tree k) (sym c.in_ok-copy.ensures) c.requires.faithful))
    (subst (λ (k : Code). IsWholeSchedule report.end → IsPerformed k c.args.given.now report) c.in_ok-copy.ensures c.in_ok-replay_report.ensures.whole)
    c.replay_of.ensures
