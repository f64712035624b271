use Rattle.std.proofs.Common.{ap, sym, ◌∙◌, subst, List, map}
use Rattle.algol_tree.specs.Image.{program}
use Rattle.algol_cells.specs.SeenScope.{scoped}
use Rattle.algol_world.specs.SeenWorld.{world_of}
use Rattle.b67_schedule.specs.Schedules.{entries}
use Rattle.b67_race.specs.Races.{Race, AreRaces}
use Rattle.b67_race.specs.Noted as noted
use Rattle.b67_races.specs.Told.{race_of}
use Rattle.b67_races.proofs.Schedules.{all_so}
use Rattle.b67_races.proofs.telling.races.Goals as goal

pub returns : goal.returns
returns c = λ after legal.
    all_so (program c.args.checked.now.program) (entries c.args.schedule.now.runs) (world_of c.go_all-went.new.world) after c.go_all-went.new.walk (map race_of c.in_ok-all.all.items) legal
    (λ ds s. subst (λ (rs : List Race). AreRaces ds rs) (sym (c.in_ok-all.ensures ∙ ap (map noted.race_of) c.as_slice.ensures.value)) (c.races_of-found.ensures ds s))
    (scoped c.in_ok-world.world.scopes) (world_of c.in_ok-world.world) c.begin-walk.result c.in_ok-went.field-0 c.in_ok-world.ensures.scopes c.in_ok-world.ensures.beside
    c.begin-walk.ensures c.in_ok-went.ensures.goes
