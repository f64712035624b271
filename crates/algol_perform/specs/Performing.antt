-- What an effect makes of a world, by the number of the process: its innermost part is the one that acts.
use Rattle.std.specs.Prelude.{ℕ, List, [], ◌∷◌}
use Rattle.algol_tree.specs.Scopes.{Scopes}
use Rattle.algol_meaning.specs.World.{World, Part, Process, process_at}
use Rattle.b67_deeds.specs.declared.Letter.TheVariants as actions
use Rattle.algol_meaning.specs.Choice.{Choice}
use Rattle.algol_world.specs.Going.{action_chosen}
use Rattle.algol_effect.specs.Effects.{choice_by}
use Rattle.algol_effect.specs.declared.effect.Effect.{Effect}

module _ (sc : Scopes) (w : World) (p : ℕ) where
  -- a process without parts has no choice
  abbrev pub performed_by : Process → List Part → Effect → Choice
  performed_by q [] e = action_chosen actions.Fault w
  performed_by q (part ∷ outer) e = choice_by sc w p q part outer e

  abbrev pub performed : Effect → Choice
  performed e = performed_by (process_at w p) ((process_at w p).todo) e
