use Rattle.std.proofs.Common.{◌≡◌}
use Rattle.b67_asm_text.specs.Mnemonics.{operators_below}
use Rattle.b67_asm_text.proofs.mnemonic.operators.Given as goal

abbrev pub invariant-codes : goal.invariant-codes
invariant-codes l = l.kinds.items ≡ operators_below l.code
