use Rattle.std.proofs.Common.{◌≡◌, ◌+◌, ◌∷◌, ◌++◌, List, [], length, map, ap, sym, ◌∙◌, Some}
use Rattle.algol_meaning.specs.World.{World, Part}
use Rattle.algol_meaning.specs.Rest as rest
use Rattle.algol_meaning.specs.Critical.{newest_first, first_on_path, referred_by, referred_by_task}
use Rattle.algol_cells.specs.SeenCell.{cell}
use Rattle.algol_cells.specs.SeenScope.{scoped}
use Rattle.algol_cells.specs.declared.cell.Cell.{Cell}
use Rattle.algol_cells.specs.declared.scope.Scopes.{Scopes}
use Rattle.algol_world.specs.SeenWorld as views
use Rattle.algol_world.specs.SeenWorld.{world_of}
use Rattle.algol_world.specs.Going.{going}
use Rattle.algol_perform.specs.Making.{with_instance_of, with_process_of}
use Rattle.algol_perform.proofs.Fresh.{processes_count}
use Rattle.algol_perform.proofs.Starts.{starts_so}
use Rattle.algol_perform.proofs.starting.perform_start.Goals as goal

pub returns-clause-performed : goal.returns-clause-performed
returns-clause-performed c =
    let sc = scoped c.args.world.now.scopes in
    let w = world_of c.args.world.now in
    let p = c.args.process in
    let number = c.len-number.result + 1 in
    let part = c.in_ok-part.part in
    let critical = c.first_on_path-critical.result in
    let task = views.task c.args.task in
    let with_instance = with_instance_of sc w c.args.block c.args.parent number (map cell c.args.given.items) in
    let same = c.in_ok-add_instance.ensures.same in
    let grown =
    c.in_ok-add_process.ensures.added
    ∙ ap (λ (v : World). with_process_of v (views.part (scoped c.add_instance.new.world.scopes) part) (Some critical) task) c.in_ok-add_instance.ensures.added
    ∙ ap (λ (s : Scopes). with_process_of with_instance (views.part (scoped s) part) (Some critical) task) same
    ∙ ap (λ (x : Part). with_process_of with_instance x (Some critical) task) c.in_ok-part.ensures in
    let went =
    c.in_ok-goes.ensures.went
    ∙ ap (λ (s : Scopes). going (scoped s) (world_of c.add_process.new.world) p rest.done) (c.in_ok-add_process.ensures.same ∙ same)
    ∙ ap (λ (v : World). going sc v p rest.done) grown in
    let count : c.len-number.result ≡ length w.processes =
    c.len-number.ensures ∙ c.items.result.now.ok.0 ∙ ap length c.items.ensures ∙ sym (processes_count sc c.args.world.now.processes) in
    let depends =
    c.first_on_path-critical.ensures
    ∙ ap (first_on_path w (newest_first 1 w.instances []) p)
    (c.deref-2.ensures.value ∙ c.in_ok-wanted.ensures
    ∙ ap (λ (cells : List Cell). c.args.parent ∷ referred_by (map cell cells) ++ referred_by_task task) c.deref.ensures.value) in
    starts_so sc w p c.args.block c.args.parent c.len-number.result critical c.args.given c.args.task (world_of c.goes.new.self) c.of.result
    c.requires.acts went (c.of.ensures ∙ c.new.ensures.items) count depends
