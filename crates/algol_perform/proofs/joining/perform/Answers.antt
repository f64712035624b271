use Rattle.std.proofs.Common.{◌≡◌, sym, subst, IfOk}
use Rattle.algol_cells.specs.SeenScope.{scoped}
use Rattle.algol_world.specs.SeenWorld.{world_of}
use Rattle.algol_world.specs.SeenActed.{acted_choice}
use Rattle.algol_perform.specs.Performing.{performed}
use Rattle.algol_perform.proofs.joining.perform.Goals as goal

pub returns-in-Goes-clause-performed : goal.returns-in-Goes-clause-performed
returns-in-Goes-clause-performed c =
    subst (λ e. IfOk c.perform_goes.result (λ a. acted_choice a (world_of c.perform_goes.new.world)
    ≡ performed (scoped c.args.world.now.scopes) (world_of c.args.world.now) c.args.process e))
    (sym c.in-Goes.is) c.perform_goes.ensures.performed

pub returns-in-Goes-clause-same : goal.returns-in-Goes-clause-same
returns-in-Goes-clause-same c = c.perform_goes.ensures.same

pub returns-in-Stores-clause-performed : goal.returns-in-Stores-clause-performed
returns-in-Stores-clause-performed c =
    subst (λ e. IfOk c.perform_store.result (λ a. acted_choice a (world_of c.perform_store.new.world)
    ≡ performed (scoped c.args.world.now.scopes) (world_of c.args.world.now) c.args.process e))
    (sym c.in-Stores.is) c.perform_store.ensures.performed

pub returns-in-Stores-clause-same : goal.returns-in-Stores-clause-same
returns-in-Stores-clause-same c = c.perform_store.ensures.same

pub returns-in-StoresElement-clause-performed : goal.returns-in-StoresElement-clause-performed
returns-in-StoresElement-clause-performed c =
    subst (λ e. IfOk c.perform_store_element.result (λ a. acted_choice a (world_of c.perform_store_element.new.world)
    ≡ performed (scoped c.args.world.now.scopes) (world_of c.args.world.now) c.args.process e))
    (sym c.in-StoresElement.is) c.perform_store_element.ensures.performed

pub returns-in-StoresElement-clause-same : goal.returns-in-StoresElement-clause-same
returns-in-StoresElement-clause-same c = c.perform_store_element.ensures.same

pub returns-in-Evaluates-clause-performed : goal.returns-in-Evaluates-clause-performed
returns-in-Evaluates-clause-performed c =
    subst (λ e. IfOk c.perform_evaluation.result (λ a. acted_choice a (world_of c.perform_evaluation.new.world)
    ≡ performed (scoped c.args.world.now.scopes) (world_of c.args.world.now) c.args.process e))
    (sym c.in-Evaluates.is) c.perform_evaluation.ensures.performed

pub returns-in-Evaluates-clause-same : goal.returns-in-Evaluates-clause-same
returns-in-Evaluates-clause-same c = c.perform_evaluation.ensures.same

pub returns-in-EntersProcedure-clause-performed : goal.returns-in-EntersProcedure-clause-performed
returns-in-EntersProcedure-clause-performed c =
    subst (λ e. IfOk c.perform_enter.result (λ a. acted_choice a (world_of c.perform_enter.new.world)
    ≡ performed (scoped c.args.world.now.scopes) (world_of c.args.world.now) c.args.process e))
    (sym c.in-EntersProcedure.is) c.perform_enter.ensures.performed

pub returns-in-EntersProcedure-clause-same : goal.returns-in-EntersProcedure-clause-same
returns-in-EntersProcedure-clause-same c = c.perform_enter.ensures.same

pub returns-in-EntersBlock-clause-performed : goal.returns-in-EntersBlock-clause-performed
returns-in-EntersBlock-clause-performed c =
    subst (λ e. IfOk c.perform_block.result (λ a. acted_choice a (world_of c.perform_block.new.world)
    ≡ performed (scoped c.args.world.now.scopes) (world_of c.args.world.now) c.args.process e))
    (sym c.in-EntersBlock.is) c.perform_block.ensures.performed

pub returns-in-EntersBlock-clause-same : goal.returns-in-EntersBlock-clause-same
returns-in-EntersBlock-clause-same c = c.perform_block.ensures.same

pub returns-in-Leaves-clause-performed : goal.returns-in-Leaves-clause-performed
returns-in-Leaves-clause-performed c =
    subst (λ e. IfOk c.perform_leaving.result (λ a. acted_choice a (world_of c.perform_leaving.new.world)
    ≡ performed (scoped c.args.world.now.scopes) (world_of c.args.world.now) c.args.process e))
    (sym c.in-Leaves.is) c.perform_leaving.ensures.performed

pub returns-in-Leaves-clause-same : goal.returns-in-Leaves-clause-same
returns-in-Leaves-clause-same c = c.perform_leaving.ensures.same

pub returns-in-Starts-clause-performed : goal.returns-in-Starts-clause-performed
returns-in-Starts-clause-performed c =
    subst (λ e. IfOk c.perform_start.result (λ a. acted_choice a (world_of c.perform_start.new.world)
    ≡ performed (scoped c.args.world.now.scopes) (world_of c.args.world.now) c.args.process e))
    (sym c.in-Starts.is) c.perform_start.ensures.performed

pub returns-in-Starts-clause-same : goal.returns-in-Starts-clause-same
returns-in-Starts-clause-same c = c.perform_start.ensures.same

pub returns-in-Acts-clause-performed : goal.returns-in-Acts-clause-performed
returns-in-Acts-clause-performed c =
    subst (λ e. IfOk c.perform_act.result (λ a. acted_choice a (world_of c.perform_act.new.world)
    ≡ performed (scoped c.args.world.now.scopes) (world_of c.args.world.now) c.args.process e))
    (sym c.in-Acts.is) c.perform_act.ensures.performed

pub returns-in-Acts-clause-same : goal.returns-in-Acts-clause-same
returns-in-Acts-clause-same c = c.perform_act.ensures.same

pub returns-in-Writes-clause-performed : goal.returns-in-Writes-clause-performed
returns-in-Writes-clause-performed c =
    subst (λ e. IfOk c.perform_line.result (λ a. acted_choice a (world_of c.perform_line.new.world)
    ≡ performed (scoped c.args.world.now.scopes) (world_of c.args.world.now) c.args.process e))
    (sym c.in-Writes.is) c.perform_line.ensures.performed

pub returns-in-Writes-clause-same : goal.returns-in-Writes-clause-same
returns-in-Writes-clause-same c = c.perform_line.ensures.same

pub returns-in-MakesArrays-clause-performed : goal.returns-in-MakesArrays-clause-performed
returns-in-MakesArrays-clause-performed c =
    subst (λ e. IfOk c.perform_arrays.result (λ a. acted_choice a (world_of c.perform_arrays.new.world)
    ≡ performed (scoped c.args.world.now.scopes) (world_of c.args.world.now) c.args.process e))
    (sym c.in-MakesArrays.is) c.perform_arrays.ensures.performed

pub returns-in-MakesArrays-clause-same : goal.returns-in-MakesArrays-clause-same
returns-in-MakesArrays-clause-same c = c.perform_arrays.ensures.same

pub returns-in-Fixes-clause-performed : goal.returns-in-Fixes-clause-performed
returns-in-Fixes-clause-performed c =
    subst (λ e. IfOk c.perform_fix.result (λ a. acted_choice a (world_of c.perform_fix.new.world)
    ≡ performed (scoped c.args.world.now.scopes) (world_of c.args.world.now) c.args.process e))
    (sym c.in-Fixes.is) c.perform_fix.ensures.performed

pub returns-in-Fixes-clause-same : goal.returns-in-Fixes-clause-same
returns-in-Fixes-clause-same c = c.perform_fix.ensures.same

pub returns-in-Waits-clause-performed : goal.returns-in-Waits-clause-performed
returns-in-Waits-clause-performed c =
    subst (λ e. IfOk c.perform_wait.result (λ a. acted_choice a (world_of c.perform_wait.new.world)
    ≡ performed (scoped c.args.world.now.scopes) (world_of c.args.world.now) c.args.process e))
    (sym c.in-Waits.is) c.perform_wait.ensures.performed

pub returns-in-Waits-clause-same : goal.returns-in-Waits-clause-same
returns-in-Waits-clause-same c = c.perform_wait.ensures.same

pub returns-in-Wakes-clause-performed : goal.returns-in-Wakes-clause-performed
returns-in-Wakes-clause-performed c =
    subst (λ e. IfOk c.perform_waking.result (λ a. acted_choice a (world_of c.perform_waking.new.world)
    ≡ performed (scoped c.args.world.now.scopes) (world_of c.args.world.now) c.args.process e))
    (sym c.in-Wakes.is) c.perform_waking.ensures.performed

pub returns-in-Wakes-clause-same : goal.returns-in-Wakes-clause-same
returns-in-Wakes-clause-same c = c.perform_waking.ensures.same
