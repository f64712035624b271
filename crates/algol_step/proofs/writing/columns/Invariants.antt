use Rattle.std.proofs.Common.{◌≡◌, drop}
use Rattle.algol_tree.specs.Spelling.{value_after, value_of}
use Rattle.algol_step.proofs.writing.columns.Given as goal

-- the number so far, and what it becomes with the digits that are left
abbrev pub invariant-reading : goal.invariant-reading
invariant-reading l = value_after l.columns (drop l.digit-index l.digits) ≡ value_of l.digits
