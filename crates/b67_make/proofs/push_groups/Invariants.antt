use Rattle.std.proofs.Common.{◌≡◌, ◌++◌}
use Rattle.std.specs.List.{flat_map, range_with_len}
use Rattle.b67_make.specs.Made.{group}
use Rattle.b67_make.proofs.push_groups.Given as goal

abbrev pub invariant-groups : goal.invariant-groups
invariant-groups l = l.text.items ≡ l.initial.text.items ++ flat_map (group l.n) (range_with_len 0 l.g)
