use Rattle.std.proofs.Common.{◌≡◌, drop}
use Rattle.b67_asm_text.specs.Mnemonics.{named_among}
use Rattle.b67_asm_text.proofs.mnemonic.named_among.Given as goal

abbrev pub invariant-kinds : goal.invariant-kinds
invariant-kinds l = named_among l.name l.fn.kinds ≡ named_among l.name (drop l.kind-index l.fn.kinds)
