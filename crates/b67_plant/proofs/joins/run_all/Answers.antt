use Rattle.std.proofs.Common.{◌≡◌, length, rules, sym, ap, ◌∙◌, arith}
use Rattle.b67_plant.specs.Places.{in_order}
use Rattle.b67_plant.proofs.Seats.{place_at, same_of_each}
use Rattle.b67_plant.proofs.joins.run_all.Goals as goal

pub for_each_mut-requires-clause-accepts : goal.for_each_mut-requires-clause-accepts
for_each_mut-requires-clause-accepts g c κs within =
    let b = c.type_bounds in
    λ i p inside same. (
      (
        record { shared = b.sync-R.shared },
        inside,
        c.requires.processors.0,
        c.requires.processors.1,
        ap (λ post. post.seat.mark.place) same ∙ place_at (λ post. post.seat.mark.place) c.args.posts.now (length c.args.posts.now) i p.now c.requires.places inside,
      ),
      (
        search rules,
        search rules,
        search rules,
        search rules,
        record { shared = b.sync-N.shared },
        record { shared = b.sync-L.shared },
        record { shared = b.sync-G.shared },
        record { shared = b.sync-R.shared },
      ),
    )

pub returns-clause-places : goal.returns-clause-places
returns-clause-places g c =
    let old = c.args.posts.now in
    let new = c.for_each_mut.new.s in
    let as_many : length new ≡ length old = omega (arith, c.for_each_mut.auto.s) in
    same_of_each (λ post. post.seat.mark.place) old new as_many
    (λ k d within.
    let changed = (c.for_each_mut.ensures k d within).1 in
    ap (λ post. post.seat.mark.place) (sym changed.left) ∙ changed.call.1 ∙ ap (λ post. post.seat.mark.place) changed.argument_is)
    ∙ c.requires.places ∙ ap in_order (sym as_many)
