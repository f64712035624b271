use Rattle.std.proofs.Common.{◌≡◌, drop}
use Rattle.b67_reach.specs.Woken.{told_numbers}
use Rattle.b67_reach.proofs.states.number_all.Given as goal

abbrev pub invariant-telling : goal.invariant-telling
invariant-telling l =
    told_numbers (drop l.index l.fn.processes.items) (drop l.index l.fn.positions.items) l.numbers.items
    ≡ told_numbers l.fn.processes.items l.fn.positions.items l.initial.numbers.items
