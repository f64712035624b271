use Rattle.std.specs.Prelude.{length, map, replicate}
use Rattle.std.specs.List.{sum_by}
use Rattle.std.proofs.Common.{◌≡◌, ℕ, List, All, sym, ap, subst, ◌∙◌, ◌<◌, arith}
use Rattle.std.proofs.lemmas.List.{with_items_is}
use Rattle.b67_schedule.specs.Schedules.{entries, ScheduleModel}
use Rattle.b67_stands.specs.Running.{Running}
use Rattle.b67_stands.specs.Shared.{Shared, begin}
use Rattle.b67_plant.specs.Places.{in_order}
use Rattle.b67_plant.proofs.Made.{each_made, all_made, by_processors, shared_as}
use Rattle.b67_plant.proofs.running.run_named.Goals as goal

pub run_all-floor-requires-clause-processors : goal.run_all-floor-requires-clause-processors
run_all-floor-requires-clause-processors g c =
    let all = ap length c.as_mut_slice.ensures.value ∙ c.in_ok-plant.ensures.posts in
    λ a b. (all ∙ c.requires.processors.0, omega (arith, all, c.requires.processors.2))

pub run_all-floor-requires-clause-places : goal.run_all-floor-requires-clause-places
run_all-floor-requires-clause-places g c =
    let value = c.as_mut_slice.ensures.value in
    λ a b.
    ap (map (λ post. post.seat.mark.place)) value ∙ c.in_ok-plant.ensures.places ∙ sym (ap in_order (ap length value ∙ c.in_ok-plant.ensures.posts))

-- nobody has made an act
pub run_all-floor-requires-clause-shared : goal.run_all-floor-requires-clause-shared
run_all-floor-requires-clause-shared g c =
    let none = c.in_ok-plant.ensures.tally.1 ∙ ap (λ (n : ℕ). replicate n 0) c.requires.processors.0 in
    λ a b.
    subst (λ (acts : List ℕ). Shared g.N.Named.code g.N.Named.budget g.N.Named.pick g.N.Named.processors acts c.in_ok-plant.plant) (sym none)
    (begin c.in_ok-plant.ensures.first)

pub gather-requires-clause-each : goal.gather-requires-clause-each
gather-requires-clause-each g c =
    let is = with_items_is c.new.new.posts c.run_all-floor.new.posts (c.run_all-floor.ensures.posts ∙ c.as_mut_slice.ensures.len) in
    subst (All (λ post. 0 < post.seat.left)) (sym is) c.run_all-floor.ensures.left

pub gather-requires-clause-places : goal.gather-requires-clause-places
gather-requires-clause-places g c =
    let is = with_items_is c.new.new.posts c.run_all-floor.new.posts (c.run_all-floor.ensures.posts ∙ c.as_mut_slice.ensures.len) in
    subst (λ posts. map (λ post. post.seat.mark.place) posts ≡ in_order (length posts)) (sym is) c.run_all-floor.ensures.places

pub gather-requires-clause-tally : goal.gather-requires-clause-tally
gather-requires-clause-tally g c =
    let is = with_items_is c.new.new.posts c.run_all-floor.new.posts (c.run_all-floor.ensures.posts ∙ c.as_mut_slice.ensures.len) in
    let all = ap length is ∙ c.run_all-floor.ensures.posts ∙ ap length c.as_mut_slice.ensures.value ∙ c.in_ok-plant.ensures.posts in
    let made =
    each_made g.N.Named.code g.N.Named.budget g.N.Named.pick g.N.Named.processors c.into_parts-plant.result.1.numbers c.into_parts-plant.result.0
    c.into_parts-plant.ensures.shared in
    (c.into_parts-plant.ensures.tally, made ∙ sym c.requires.processors.0 ∙ sym all)

pub gather-requires-clause-book : goal.gather-requires-clause-book
gather-requires-clause-book g c =
    all_made g.N.Named.code g.N.Named.budget g.N.Named.pick g.N.Named.processors c.into_parts-plant.result.1.numbers c.into_parts-plant.result.0
    c.into_parts-plant.ensures.shared

pub returns-clause-ran : goal.returns-clause-ran
returns-clause-ran g c =
    let after = c.run_all-floor.new.posts in
    let is = with_items_is c.new.new.posts after (c.run_all-floor.ensures.posts ∙ c.as_mut_slice.ensures.len) in
    let each = c.run_all-floor.ensures.posts ∙ ap length c.as_mut_slice.ensures.value ∙ c.in_ok-plant.ensures.posts in
    let own = c.note_acts.ensures.each ∙ ap (map (λ post. post.seat.count)) c.as_slice.ensures.value ∙ c.gather.ensures.own in
    let shared =
    shared_as g.N.Named.code g.N.Named.budget g.N.Named.pick g.N.Named.processors c.args.processors c.into_parts-plant.result.1.numbers c.note_acts.new.counts.items
    c.into_parts-plant.result.0 c.gather.new.plant c.requires.processors.0 own c.gather.ensures.same c.into_parts-plant.ensures.shared in
    record {
      has_run = record {
        plant = c.gather.new.plant;
        stands = c.left_by.ensures.stands;
        machine_is = sym c.left_by.ensures.parts.0;
        schedule_is = sym c.left_by.ensures.parts.1;
        answered = c.left_by.ensures.answered;
      };
      shared = shared;
      books =
          by_processors g.N.Named.code g.N.Named.budget g.N.Named.pick c.args.processors (λ post. post.seat.left) after c.note_acts.new.counts.items c.gather.new.plant
          shared each c.run_all-floor.ensures.left
          (ap (sum_by (λ post. post.seat.left)) (sym is) ∙ c.gather.ensures.leaves ∙ ap (λ (s : Running). s.leaves) (sym c.gather.ensures.same));
    }

pub returns-clause-all : goal.returns-clause-all
returns-clause-all g c =
    let own = c.note_acts.ensures.each ∙ ap (map (λ post. post.seat.count)) c.as_slice.ensures.value ∙ c.gather.ensures.own in
    all_made g.N.Named.code g.N.Named.budget g.N.Named.pick c.args.processors c.note_acts.new.counts.items c.gather.new.plant
    (shared_as g.N.Named.code g.N.Named.budget g.N.Named.pick g.N.Named.processors c.args.processors c.into_parts-plant.result.1.numbers c.note_acts.new.counts.items
    c.into_parts-plant.result.0 c.gather.new.plant c.requires.processors.0 own c.gather.ensures.same c.into_parts-plant.ensures.shared)
    ∙ c.left_by.ensures.stands.acts ∙ ap (λ (s : ScheduleModel). length (entries s.runs)) (sym c.left_by.ensures.parts.1)
