use Rattle.std.proofs.Common.{◌≡◌, take}
use Rattle.b67_explain.proofs.report.copied.Given as goal

abbrev pub invariant-lines : goal.invariant-lines
invariant-lines l = l.copy.items ≡ take l.line-index l.lines
