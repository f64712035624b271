use Rattle.b67_asm.proofs.One.{one_code, not_both, one_refusal}
use Rattle.b67_asm.proofs.texts_have_one_code.Goals as goal

pub returns : goal.returns
returns c = record { one = one_code; apart = not_both; refused = one_refusal }
