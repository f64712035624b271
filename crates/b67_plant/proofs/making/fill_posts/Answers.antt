use Rattle.std.proofs.Common.{◌≡◌, false, ℕ, suc, List, [], ◌∷◌, ◌++◌, All, Some, sym, ap, subst, length, length-append, map, replicate, ◌∙◌, arith}
use Rattle.std.proofs.lemmas.List.{length-replicate}
use Rattle.std.proofs.lemmas.List.Elements.{All-push, All-pop}
use Rattle.b67_plant.specs.Places.{in_order}
use Rattle.b67_plant.proofs.Seats.{place_added, one_more_zero}
use Rattle.b67_plant.proofs.making.fill_posts.Goals as goal

pub posts-preserved : goal.posts-preserved
posts-preserved g c =
    let posts = c.posts.posts.items in
    let left = c.pop.new.self.items in
    let bench = c.in-Some.bench in
    let of_benches = c.in-Some.ensures.items in
    let fewer = ap length of_benches ∙ length-append left (bench ∷ []) in
    let free = All-pop (λ bench. bench.ahead.is_there ≡ false) c.posts.benches.items left (Some bench) of_benches c.posts.invariant.free in
    let is = rw (c.unwrap.ensures) at c.push.ensures.items in
    let longer : length c.push.new.self.items ≡ suc (length posts) = omega (arith, ap length is, length-append posts (c.post.result ∷ [])) in
    let many : length c.posts.tally.numbers ≡ length posts = ap length c.posts.invariant.numbers ∙ length-replicate (length posts) 0 in
    let here : c.post.result.seat.mark.place ≡ length posts = ap (λ mark. mark.place) c.post.ensures.mark ∙ c.mark-mark.ensures.mark.0 ∙ many in
    record {
      acts = omega (arith, c.split_off.ensures.parts_left, c.posts.invariant.acts, fewer);
      no_acts = omega (arith, c.split_off.ensures.amount_left, c.posts.invariant.no_acts);
      leaves = omega (arith, c.split_off-in-Some.ensures.parts_left, c.posts.invariant.leaves, fewer);
      no_leaves = omega (arith, c.split_off-in-Some.ensures.amount_left, c.posts.invariant.no_leaves);
      all = omega (arith, ap length is, length-append posts (c.post.result ∷ []), c.posts.invariant.all, fewer);
      free = free.0;
      seats =
          subst (All (λ post. (post.seat.count ≡ 0) × (post.seat.left ≡ 0) × (post.seat.ahead.is_there ≡ false))) (sym is)
          (All-push (λ post. (post.seat.count ≡ 0) × (post.seat.left ≡ 0) × (post.seat.ahead.is_there ≡ false)) posts c.post.result c.posts.invariant.seats
          (c.post.ensures.numbers.0, c.post.ensures.numbers.1, ap (λ ahead. ahead.is_there) c.post.ensures.ahead ∙ free.1));
      places =
          subst (λ posts. map (λ post. post.seat.mark.place) posts ≡ in_order (length posts)) (sym is)
          (place_added (λ post. post.seat.mark.place) posts c.post.result c.posts.invariant.places here);
      named = c.mark-mark.ensures.name.0 ∙ c.posts.invariant.named;
      numbers =
          c.mark-mark.ensures.numbers ∙ ap (λ (ns : List ℕ). ns ++ 0 ∷ []) c.posts.invariant.numbers ∙ one_more_zero (length posts)
          ∙ ap (λ (n : ℕ). replicate n 0) (sym longer);
      room = omega (arith, c.posts.invariant.room, c.push.ensures.capacity);
    }
