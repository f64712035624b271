use Rattle.std.proofs.Common.{◌≡◌, drop}
use Rattle.b67_ops.specs.Codes.{first_with}
use Rattle.b67_ops.proofs.table.first_with.Given as goal

abbrev pub invariant-rows : goal.invariant-rows
invariant-rows l = first_with l.code l.fn.rows ≡ first_with l.code (drop l.row-index l.fn.rows)
