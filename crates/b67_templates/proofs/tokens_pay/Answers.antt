use Rattle.b67_templates.proofs.Paid.{tokens_pay as tokens_pay_lem}
use Rattle.b67_templates.proofs.tokens_pay.Goals as goal

pub returns : goal.returns
returns c = tokens_pay_lem
