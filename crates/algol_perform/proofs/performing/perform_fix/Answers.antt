use Rattle.std.proofs.Common.{◌≡◌, subst, IfOk}
use Rattle.algol_cells.specs.SeenScope.{scoped}
use Rattle.algol_world.specs.SeenWorld.{world_of}
use Rattle.algol_world.specs.SeenActed.{acted_choice}
use Rattle.algol_perform.proofs.Effects.{fixes}
use Rattle.algol_perform.proofs.performing.perform_fix.Goals as goal

pub returns-clause-performed : goal.returns-clause-performed
returns-clause-performed c =
    subst (λ x. IfOk c.fix.result (λ a. acted_choice a (world_of c.fix.new.self) ≡ x))
    (fixes (scoped c.args.world.now.scopes) (world_of c.args.world.now) c.args.process c.args.r) c.fix.ensures.acted
