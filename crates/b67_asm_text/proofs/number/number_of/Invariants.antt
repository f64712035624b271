use Rattle.std.proofs.Common.{◌≡◌, ◌≤◌, drop}
use Rattle.b67_asm_text.specs.Numbers.{number_after}
use Rattle.b67_asm_text.specs.declared.number.TheConstants.{TOO_GREAT}
use Rattle.b67_asm_text.proofs.number.number_of.Given as goal

abbrev pub invariant-digits : goal.invariant-digits
invariant-digits l = record {
  rest : number_after l.number (drop l.digit-index l.fn.digits) ≡ number_after 0 l.fn.digits;
  most : l.number ≤ TOO_GREAT;
}
