use Rattle.std.proofs.Common.{◌≡◌, ◌++◌, map, drop}
use Rattle.algol_known.proofs.Formals.{mode_in}
use Rattle.algol_known.proofs.formal.modes_by.Given as goal

abbrev pub invariant-params : goal.invariant-params
invariant-params l = l.found.items ++ map (mode_in l.fn.heading) (drop l.n-index l.n-items) ≡ map (mode_in l.fn.heading) l.fn.heading.params
