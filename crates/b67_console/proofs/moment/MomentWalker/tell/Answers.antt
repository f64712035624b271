use Rattle.algol_cells.specs.SeenScope.{scoped}
use Rattle.algol_world.specs.SeenWorld.{world_of}
use Rattle.b67_console.proofs.Together.{told_here}
use Rattle.b67_console.proofs.moment.MomentWalker.tell.Goals as goal

pub returns : goal.returns
returns g c =
    let here = c.args.self.now in
    told_here (scoped here.world.scopes) (world_of here.world) here.machine here.done here.spent c.len.result c.args.command.now c.of.result c.new-text.result.items c.push_answer.new.text.items
    c.requires.stands c.len.ensures c.of.ensures c.in_ok-push_answer.ensures c.new-text.ensures.items
