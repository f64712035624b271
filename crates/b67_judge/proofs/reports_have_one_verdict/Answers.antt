use Rattle.b67_judge.proofs.Once as once
use Rattle.b67_judge.proofs.reports_have_one_verdict.Goals as goal

pub returns : goal.returns
returns c = once.reports_have_one_verdict
