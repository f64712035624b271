use Rattle.std.proofs.Common.{arith, ap, ◌∙◌}
use Rattle.algol_cells.specs.SeenScope.{scoped}
use Rattle.algol_run.specs.Stepping.{is_going}
use Rattle.algol_world.specs.SeenWorld.{world_of}
use Rattle.b67_judge.proofs.Beside.{goes_by, goes_more, goes_no_more}
use Rattle.b67_judge.proofs.walking.go_on.Goals as goal

pub returns-in-NotAble-clause-went : goal.returns-in-NotAble-clause-went
returns-in-NotAble-clause-went c = λ w b.
    goes_no_more (scoped c.args.world.now.scopes) (scoped c.going.world.scopes) w (world_of c.going.world) (world_of c.step_lean.new.world) c.going.went c.args.process
    c.in_ok-step_lean.field-0 (ap scoped c.going.invariant.2) (c.going.invariant.0 w b) (λ v d. c.in_ok-step_lean.ensures.beside v d) c.args.times (ap is_going c.in-NotAble.is)

pub going-preserved-in-Went : goal.going-preserved-in-Went
going-preserved-in-Went c = (
  λ w b.
      goes_more (scoped c.args.world.now.scopes) (scoped c.going.world.scopes) w (world_of c.going.world) (world_of c.step_lean.new.world) c.going.went c.args.process
      c.in_ok-step_lean.field-0 (ap scoped c.going.invariant.2) (c.going.invariant.0 w b) (λ v d. c.in_ok-step_lean.ensures.beside v d) (goes_by c.in_ok-step_lean.field-0 c.in-Went.is),
  omega arith,
  c.in_ok-step_lean.ensures.same ∙ c.going.invariant.2,
)

pub going-preserved-in-Went-2 : goal.going-preserved-in-Went-2
going-preserved-in-Went-2 c = (
  λ w b.
      goes_more (scoped c.args.world.now.scopes) (scoped c.going.world.scopes) w (world_of c.going.world) (world_of c.step_lean.new.world) c.going.went c.args.process
      c.in_ok-step_lean.field-0 (ap scoped c.going.invariant.2) (c.going.invariant.0 w b) (λ v d. c.in_ok-step_lean.ensures.beside v d) (goes_by c.in_ok-step_lean.field-0 c.in-Went.is),
  omega arith,
  c.in_ok-step_lean.ensures.same ∙ c.going.invariant.2,
)
