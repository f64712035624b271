use Rattle.std.proofs.Common.{◌≡◌, drop}
use Rattle.algol_meaning.specs.Critical.{process_is_one_of}
use Rattle.algol_perform.proofs.starting.is_one_of.Given as goal

abbrev pub invariant-asking : goal.invariant-asking
invariant-asking l = process_is_one_of (drop l.n-index l.numbers) l.number ≡ process_is_one_of l.numbers l.number
