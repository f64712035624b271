use Rattle.std.proofs.Common.{◌≡◌, ◌≤◌, map, take}
use Rattle.std.specs.Prelude.{vec_capacity}
use Rattle.b67_plant.proofs.running.note_acts.Given as goal

abbrev pub invariant-processors : goal.invariant-processors
invariant-processors g l = record {
  each : l.counts.items ≡ map (λ post. post.seat.count) (take l.post-index l.posts);
  room : vec_capacity l.initial.counts ≤ vec_capacity l.counts;
}
