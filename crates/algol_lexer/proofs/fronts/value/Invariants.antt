use Rattle.std.proofs.Common.{◌≡◌, ◌≤◌, drop}
use Rattle.b67_num.specs.Whole.{most}
use Rattle.algol_tree.specs.Spelling.{value_after, value_of}
use Rattle.algol_lexer.proofs.fronts.value.Given as goal

-- the value so far, and what it becomes with the digits that are left
abbrev pub invariant-loop-digit : goal.invariant-loop-digit
invariant-loop-digit l = record {
  whole : value_after l.value (drop l.digit-index l.digits) ≡ value_of l.digits;
  small : l.value ≤ most;
}
