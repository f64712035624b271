use Rattle.algol_tree.specs.Image.{program}
use Rattle.algol_cells.specs.SeenScope.{scoped}
use Rattle.algol_world.specs.SeenWorld.{world_of}
use Rattle.b67_schedule.specs.Schedules.{entries}
use Rattle.b67_console.proofs.Leads.{positions_so}
use Rattle.b67_console.proofs.leading.positions_of.Goals as goal

pub returns : goal.returns
returns c = λ after legal.
    positions_so (program c.args.checked.now.program) (entries c.args.runs.now) after (world_of c.note_all-noted.new.world) (world_of c.in_ok-world.world) (scoped c.in_ok-world.world.scopes)
    c.args.commands.now c.new-notes.result.items c.note_all-noted.new.notes.items c.as_slice.result.now c.in_ok-all.all c.in_ok-at.at.items legal c.in_ok-world.ensures.scopes c.in_ok-world.ensures.beside
    c.new-notes.ensures.items c.as_slice.ensures.value c.in_ok-all.ensures.goes c.in_ok-at.ensures
