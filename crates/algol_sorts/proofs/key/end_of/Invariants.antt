use Rattle.std.proofs.Common.{◌≡◌, drop}
use Rattle.algol_sorts.specs.Tables.{end_after, end_of}
use Rattle.algol_sorts.proofs.key.end_of.Given as goal

abbrev pub invariant-bytes : goal.invariant-bytes
invariant-bytes l = end_of l.fn.name ≡ end_after l.end (drop l.byte-index l.fn.name)
