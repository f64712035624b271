use Rattle.std.proofs.Common.{rules, ◌≡◌, ◌∙◌, true}
use Rattle.algol_meaning.specs.World.{instance_at}
use Rattle.algol_world.specs.SeenWorld.{world_of}
use Rattle.algol_instances.specs.SeenInstance.{named_cell}
use Rattle.algol_lean.proofs.GivenBack.{shed_none, shed_more, shed_smaller, shed_is}
use Rattle.algol_lean.proofs.shedding.shed.Goals as goal

pub shedding-smaller : goal.shedding-smaller
shedding-smaller c =
    shed_smaller (world_of c.shedding.world) c.args.number c.shedding.at (named_cell c.in-Some.c.now) c.in-Some.ensures.cell (world_of c.give_back.new.world)
    c.is_array-array.result c.is_array-array.ensures c.give_back.ensures.empty

pub shedding-preserved : goal.shedding-preserved
shedding-preserved c = (
  shed_more (world_of c.shedding.world) c.args.number c.shedding.at (named_cell c.in-Some.c.now) c.in-Some.ensures.cell (world_of c.give_back.new.world)
      c.is_array-array.result c.is_array-array.ensures c.give_back.ensures.empty
      ∙ c.shedding.invariant.0,
  c.give_back.ensures.same ∙ c.shedding.invariant.1,
)

pub returns-clause-shed : goal.returns-clause-shed
returns-clause-shed c =
    let left : (instance_at (world_of c.args.world.now) c.args.number).left ≡ true = search rules in
    shed_is (world_of c.args.world.now) (world_of c.shedding.world) c.args.number left
    (shed_none (world_of c.shedding.world) c.args.number c.shedding.at c.in_default.ensures.cell ∙ c.shedding.invariant.0)
