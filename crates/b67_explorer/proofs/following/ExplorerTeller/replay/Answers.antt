use Rattle.std.proofs.Common.{ℕ, subst}
use Rattle.b67_limits.specs.declared.TheConstants.{MOST_BUDGET}
use Rattle.b67_segment.specs.declared.code.Code.{Code}
use Rattle.b67_listing.specs.Listings.{ListingText}
use Rattle.b67_machine.specs.Replaying.{Replays}
use Rattle.b67_explain.specs.Telling.{IsReportOf}
use Rattle.b67_explorer.proofs.Followed as lemmas
use Rattle.b67_explorer.proofs.following.ExplorerTeller.replay.Goals as goal

pub returns : goal.returns
returns g c =
    let code = c.args.self.now.machine.code in
    let given = c.args.given.now in
    let m = c.replay-answer.new.self in
    let answer = c.replay-answer.result in
    let done = c.replay-answer.new.done in
    let lines = c.in_ok-lines.lines in
    let report = c.in_ok-report.report in
    let replays = subst (λ (k : Code). Replays k given MOST_BUDGET done m answer) c.restart.ensures.code c.replay-answer.ensures.replays in
    let listed = subst (λ (k : Code). ListingText k lines) c.code.ensures c.in_ok-lines.ensures in
    let is = subst (λ (n : ℕ). IsReportOf m answer lines n done report) c.in_ok-acts.ensures.acts.each c.in_ok-report.ensures.report in
    record {
      code = replays.0.same;
      explained = λ tree f.
          lemmas.is_replayed tree code f given m answer done replays lines report is c.runs-performed.ensures.valid listed c.outcome_of.result c.outcome_of.ensures.output
          c.outcome_of.ensures.end;
      followed =
          lemmas.followed c.requires.known.0 code c.requires.known.1 given m answer done c.requires.version replays lines report is c.outcome_of.result
          c.outcome_of.ensures.output c.outcome_of.ensures.end;
    }
