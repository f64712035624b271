-- What the entry of a procedure makes of a world, as the definitions choose it.
use Rattle.std.proofs.Common.{◌≡◌, refl, ℕ, false, List, [], ◌∷◌, map}
use Rattle.std.specs.declared.vec.Vec.{Vec}
use Rattle.std.specs.declared.alloc.Global.{Global}
use Rattle.algol_tree.specs.Scopes.{Scopes}
use Rattle.algol_meaning.specs.World as world
use Rattle.algol_meaning.specs.World.{World, Part, process_at, with_process}
use Rattle.algol_meaning.specs.Rest as rest
use Rattle.b67_deeds.specs.declared.Letter.TheVariants as actions
use Rattle.algol_cells.specs.SeenCell as seen
use Rattle.algol_cells.specs.declared.cell.Cell.{Cell}
use Rattle.algol_world.specs.Going.{action_chosen, part_opening, resumed}
use Rattle.algol_world.specs.Leaving.{is_nil}
use Rattle.algol_effect.specs.declared.effect.Effect.TheVariants as effects
use Rattle.algol_perform.specs.Going.{instance_in}
use Rattle.algol_perform.specs.Making.{with_instance_of, part_of_purpose}
use Rattle.algol_perform.specs.Performing.{performed, performed_by}

module _ (sc : Scopes) (w : World) (p : ℕ) where
  pub enters_procedure :
      (j parent : ℕ) (cells : Vec Cell Global) → is_nil ((process_at w p).todo) ≡ false
      → action_chosen actions.Enter (part_opening sc (with_instance_of sc w j parent p (map seen.cell cells.items)) p (part_of_purpose sc w j world.procedure))
      ≡ performed sc w p (effects.EntersProcedure j parent cells)
  enters_procedure j parent cells has = under ((process_at w p).todo) has
    where
      under :
          (parts : List Part) → is_nil parts ≡ false
          → action_chosen
          actions.Enter
          (with_process (with_instance_of sc w j parent p (map seen.cell cells.items)) p
          (record (process_at w p) { todo = part_of_purpose sc w j world.procedure ∷ resumed sc parts rest.entered }))
          ≡ performed_by sc w p (process_at w p) parts (effects.EntersProcedure j parent cells)
      under [] h = cc
      under (part ∷ outer) h = refl

  pub enters_block :
      (j : ℕ) → is_nil ((process_at w p).todo) ≡ false
      → action_chosen actions.Enter (part_opening sc (with_instance_of sc w j (instance_in ((process_at w p).todo)) p []) p (part_of_purpose sc w j world.block))
      ≡ performed sc w p (effects.EntersBlock j)
  enters_block j has = under ((process_at w p).todo) has
    where
      under :
          (parts : List Part) → is_nil parts ≡ false
          → action_chosen
          actions.Enter
          (with_process (with_instance_of sc w j (instance_in parts) p []) p
          (record (process_at w p) { todo = part_of_purpose sc w j world.block ∷ resumed sc parts rest.entered }))
          ≡ performed_by sc w p (process_at w p) parts (effects.EntersBlock j)
      under [] h = cc
      under (part ∷ outer) h = refl

pub ruleset entry_laws = enters_procedure

pub ruleset block_laws = enters_block
