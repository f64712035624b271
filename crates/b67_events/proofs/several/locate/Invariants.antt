use Rattle.std.proofs.Common.{◌≡◌, ◌+◌, ◌≤◌, ◌++◌, map, drop, length, vec_capacity}
use Rattle.b67_events.specs.Events.{position_number_of, position_of}
use Rattle.b67_events.proofs.several.locate.Given as goal

abbrev pub invariant-locating : goal.invariant-locating
invariant-locating l = record {
  positions : l.positions.items ++ map (λ p. position_number_of (position_of l.at l.lists.items p)) (drop l.index l.processes.items)
      ≡ l.initial.positions.items ++ map (λ p. position_number_of (position_of l.at l.lists.items p)) l.processes.items;
  space : length l.positions.items + length (drop l.index l.processes.items) ≤ vec_capacity l.positions;
  room : vec_capacity l.initial.positions ≤ vec_capacity l.positions;
}
