use Rattle.std.proofs.Common.{◌≡◌, ◌+◌, ◌≤◌, false, All, length, map, replicate}
use Rattle.std.specs.Prelude.{vec_capacity}
use Rattle.b67_plant.specs.Places.{in_order}
use Rattle.b67_plant.proofs.making.fill_posts.Given as goal

-- what is left is the shares of those benches that have no place yet
abbrev pub invariant-posts : goal.invariant-posts
invariant-posts g l = record {
  acts : l.acts.parts ≡ length l.benches.items;
  no_acts : l.acts.amount ≡ 0;
  leaves : l.leaves.parts ≡ length l.benches.items;
  no_leaves : l.leaves.amount ≡ 0;
  all : length l.posts.items + length l.benches.items ≡ length l.fn.benches.items;
  free : All (λ bench. bench.ahead.is_there ≡ false) l.benches.items;
  seats : All (λ post. (post.seat.count ≡ 0) × (post.seat.left ≡ 0) × (post.seat.ahead.is_there ≡ false)) l.posts.items;
  places : map (λ post. post.seat.mark.place) l.posts.items ≡ in_order (length l.posts.items);
  named : l.tally.name ≡ g.N.Named.tally;
  numbers : l.tally.numbers ≡ replicate (length l.posts.items) 0;
  room : length l.fn.benches.items ≤ vec_capacity l.posts;
}

abbrev pub decreases-posts : goal.decreases-posts
decreases-posts g l = length l.benches.items
