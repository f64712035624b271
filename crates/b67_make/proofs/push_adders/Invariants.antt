use Rattle.std.proofs.Common.{◌≡◌, ◌++◌}
use Rattle.std.specs.List.{flat_map, range_with_len}
use Rattle.b67_make.specs.Made.{adder}
use Rattle.b67_make.proofs.push_adders.Given as goal

abbrev pub invariant-numbers : goal.invariant-numbers
invariant-numbers l = l.text.items ≡ l.initial.text.items ++ flat_map adder (range_with_len l.first l.before)
