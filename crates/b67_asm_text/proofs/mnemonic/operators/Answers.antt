use Rattle.std.proofs.Common.{arith}
use Rattle.b67_asm_text.proofs.Codes.{none_below, more_below, all_below}
use Rattle.b67_asm_text.proofs.mnemonic.operators.Goals as goal

pub codes-init : goal.codes-init
codes-init c = none_below c.new-kinds.result.items c.new-kinds.ensures.items

pub codes-preserved : goal.codes-preserved
codes-preserved c = more_below c.codes.kinds.items c.push_kind.new.kinds.items c.codes.code c.codes.invariant c.in_ok-push_kind.ensures

pub returns : goal.returns
returns c = all_below c.codes.kinds.items c.codes.code (omega arith) c.codes.invariant
