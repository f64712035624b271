-- The effects that refer to a name of the text, and the one that does nothing.
use Rattle.std.proofs.Common.{◌≡◌, refl, ℕ, List, [], ◌∷◌}
use Rattle.std.specs.Borrow.{Bor}
use Rattle.algol_tree.specs.Scopes.{Scopes}
use Rattle.algol_tree.specs.declared.tree.Named.{Named}
use Rattle.algol_meaning.specs.World.{World, Part, process_at}
use Rattle.b67_deeds.specs.declared.Letter.TheVariants as actions
use Rattle.algol_world.specs.Going.{action_chosen}
use Rattle.algol_effect.specs.declared.effect.Effect.TheVariants as effects
use Rattle.algol_perform.specs.Going.{going_by, going_to, making_by, making}
use Rattle.algol_perform.specs.Performing.{performed, performed_by}

module _ (sc : Scopes) (w : World) (p : ℕ) where
  pub does_nothing : action_chosen actions.Fault w ≡ performed sc w p effects.Nothing
  does_nothing = under ((process_at w p).todo)
    where
      under : (parts : List Part) → action_chosen actions.Fault w ≡ performed_by sc w p (process_at w p) parts effects.Nothing
      under [] = refl
      under (part ∷ outer) = refl

  pub goes_to_name : (n : Bor Named) (i : ℕ) → going_to sc w p n.now i ≡ performed sc w p (effects.GoesTo n i)
  goes_to_name n i = under ((process_at w p).todo)
    where
      under : (parts : List Part) → going_by sc w p (process_at w p) parts n.now i ≡ performed_by sc w p (process_at w p) parts (effects.GoesTo n i)
      under [] = refl
      under (part ∷ outer) = refl

  pub makes_named : (n : Bor Named) → making sc w p n.now ≡ performed sc w p (effects.MakesEvent n)
  makes_named n = under ((process_at w p).todo)
    where
      under : (parts : List Part) → making_by sc w p (process_at w p) parts n.now ≡ performed_by sc w p (process_at w p) parts (effects.MakesEvent n)
      under [] = refl
      under (part ∷ outer) = refl

pub ruleset join_laws = (does_nothing, goes_to_name, makes_named)
