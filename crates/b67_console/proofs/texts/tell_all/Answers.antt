use Rattle.std.proofs.Common.{ap, sym, ◌∙◌, subst, ℕ, ◌≤◌, List, length}
use Rattle.algol_tree.specs.Image.{program}
use Rattle.algol_tree.specs.Scopes.{scopes_of}
use Rattle.algol_cells.specs.SeenScope.{scoped}
use Rattle.algol_world.specs.SeenWorld.{world_of}
use Rattle.algol_world.proofs.Processes.{if_ok}
use Rattle.b67_schedule.specs.Giving.{given_entries}
use Rattle.b67_schedule.specs.Schedules.{entries}
use Rattle.b67_console.proofs.Together.{stands_first, may_first, are_told}
use Rattle.b67_console.proofs.Whole.{few_entries}
use Rattle.b67_console.proofs.texts.tell_all.Goals as goal

pub answers_of-told-requires-clause-stands : goal.answers_of-told-requires-clause-stands
answers_of-told-requires-clause-stands c =
    stands_first (scoped c.in_ok-world.world.scopes) (scopes_of (program c.args.checked.now.program)) (world_of c.in_ok-world.world) c.args.machine c.in_ok-done.done
    c.in_ok-world.ensures.scopes c.in_ok-world.ensures.beside c.in_ok-done.ensures.empty.0 c.in_ok-done.ensures.empty.1 c.requires.sound c.requires.fresh

pub answers_of-told-requires-clause-none : goal.answers_of-told-requires-clause-none
answers_of-told-requires-clause-none c = ap entries c.in_ok-done.ensures.empty.0

pub answers_of-told-requires-clause-goes : goal.answers_of-told-requires-clause-goes
answers_of-told-requires-clause-goes c =
    may_first (program c.args.checked.now.program) (scoped c.in_ok-world.world.scopes) c.args.machine.code c.in_ok-done.done.room (entries c.runs_of.result.now) (given_entries c.args.given.now)
    c.requires.legal.0 c.in_ok-world.ensures.scopes c.runs_of.ensures c.requires.goes c.requires.legal.1 (c.in_ok-done.ensures.room ∙ c.len.ensures)

pub answers_of-told-requires-clause-few : goal.answers_of-told-requires-clause-few
answers_of-told-requires-clause-few c =
    few_entries c.runs_go_through_alike.ensures c.args.machine.code (entries c.runs_of.result.now) (given_entries c.args.given.now) c.runs_of.ensures c.requires.goes

pub answers_of-told-requires-clause-within : goal.answers_of-told-requires-clause-within
answers_of-told-requires-clause-within c = λ place here e.
    subst (λ (xs : List ℕ). here ≤ length xs) (sym c.runs_of.ensures) (c.requires.within place here e)

pub returns : goal.returns
returns c =
    if_ok c.answers_of-told.result (λ texts told.
    are_told (program c.args.checked.now.program) (scoped c.in_ok-world.world.scopes) c.args.machine.code (entries c.runs_of.result.now) (given_entries c.args.given.now)
    c.args.commands.now c.args.at.now texts.items c.in_ok-world.ensures.scopes c.runs_of.ensures told) c.answers_of-told.ensures
