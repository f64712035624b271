use Rattle.std.proofs.Common.{sym, ◌∙◌}
use Rattle.algol_cells.specs.SeenScope.{scoped}
use Rattle.algol_world.specs.SeenActed.{acted_choice}
use Rattle.algol_world.specs.SeenWorld.{world_of}
use Rattle.algol_run.proofs.Steps.{ends_so, goes_so}
use Rattle.algol_run.proofs.stepping.step_in_place.Goals as goal

-- the world has an end
pub returns-then-has_end-clause-stepped : goal.returns-then-has_end-clause-stepped
returns-then-has_end-clause-stepped c =
    ends_so
    (scoped c.args.world.now.scopes)
    (world_of c.args.world.now)
    c.args.process
    (acted_choice c.in_ok-acted.acted (world_of c.act.new.world))
    c.in_ok-acted.ensures.acted
    (sym c.goes.ensures ∙ c.if-not-goes.false)
    (sym c.if-has_end.true ∙ c.has_end.ensures)

-- it goes on
pub returns-else-has_end-clause-stepped : goal.returns-else-has_end-clause-stepped
returns-else-has_end-clause-stepped c =
    goes_so
    (scoped c.args.world.now.scopes)
    (world_of c.args.world.now)
    c.args.process
    (acted_choice c.in_ok-acted.acted (world_of c.act.new.world))
    c.in_ok-acted.ensures.acted
    (sym c.goes.ensures ∙ c.if-not-goes.false)
    (sym c.if-has_end.false ∙ c.has_end.ensures)
