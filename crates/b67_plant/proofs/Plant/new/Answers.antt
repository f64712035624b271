use Rattle.std.proofs.Common.{refl, sym, ap, subst, ◌∙◌}
use Rattle.b67_segment.specs.declared.code.Code.{Code}
use Rattle.b67_table.specs.Sound.{Sound}
use Rattle.b67_table.specs.Valid.{IsValid}
use Rattle.b67_table.specs.Beginning.{first_image}
use Rattle.b67_stands.proofs.Firsts.{first_stands}
use Rattle.b67_plant.proofs.Plant.new.Goals as goal

pub invariant_of-plant : goal.invariant_of-plant
invariant_of-plant g c =
    let rooms = c.in_ok-rooms.rooms in
    let is = c.in_ok-rooms.ensures in
    let valid : IsValid c.args.machine.code first_image = c.first_image_is_valid.ensures c.args.machine.code c.requires.segments in
    let stands = first_stands g.N.Named.code g.N.Named.budget
    (record {
      machine = c.args.machine;
      waiting = rooms.ready.waiting;
      takes = rooms.ready.takes;
      out = rooms.out.items;
      schedule = rooms.schedule;
      spent = 0;
      acts = c.open-acts.result.0.total;
      leaves = c.open-leaves.result.0.total;
    })
    (subst (λ (k : Code). IsValid k first_image) c.requires.code valid)
    (record {
      fresh = c.requires.fresh;
      same = c.requires.code;
      waiting = is.queue.0;
      takes = is.queue.1;
      out = is.out;
      schedule = is.schedule.0;
      letters = is.schedule.1;
      spent = refl;
      acts = c.open-acts.ensures.total;
      leaves = c.open-leaves.ensures.total;
    }) in (
      stands,
      subst Sound c.requires.code c.requires.sound,
      c.requires.budget.0,
      c.requires.budget.2,
      λ n takes. ap (λ r. g.P.Rule.pick r n takes) is.rule ∙ c.requires.rule n takes,
      is.room,
      is.schedule.2,
      is.notes,
      sym c.requires.fresh.lacked,
      sym c.open-leaves.ensures.total,
      λ e. cc,
    )
