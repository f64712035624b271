-- What the actions do to a world, as the code first decides it and then does it.
use Rattle.std.specs.Prelude.{ℕ, List, [], ◌∷◌, ◌++◌, map, Option, Some, None}
use Rattle.algol_tree.specs.Scopes.{Scopes, use_of}
use Rattle.algol_tree.specs.declared.tree.Named.{Named}
use Rattle.algol_meaning.specs.Value as plain
use Rattle.algol_meaning.specs.Value.{simple}
use Rattle.algol_meaning.specs.World as world
use Rattle.algol_meaning.specs.Rest as rest
use Rattle.algol_meaning.specs.Asks as asks
use Rattle.algol_meaning.specs.Events.{event_at}
use Rattle.b67_deeds.specs.Deeds.{acts, tests, deed}
use Rattle.b67_deeds.specs.declared.EventTest.TheVariants as test
use Rattle.b67_deeds.specs.declared.Letter.TheVariants as actions
use Rattle.algol_meaning.specs.Choice as choices
use Rattle.algol_meaning.specs.Choice.{Choice}
use Rattle.algol_cells.specs.SeenScope.{scoped}
use Rattle.algol_cells.specs.SeenValue.{value}
use Rattle.algol_cells.specs.SeenCell as seen
use Rattle.algol_cells.specs.SeenCell.{reference}
use Rattle.algol_rest_expr.specs.SeenExpression.{rest_answered}
use Rattle.algol_instances.specs.SeenInstance.{named_cells}
use Rattle.algol_world.specs.SeenWorld as views
use Rattle.algol_world.specs.SeenWorld.{world_of, process_of}
use Rattle.algol_world.specs.declared.world.World.{World}
use Rattle.algol_world.specs.declared.world.Part.{Part}
use Rattle.algol_effect.specs.declared.effect.Effect.{Effect}
use Rattle.algol_effect.specs.declared.effect.Effect.TheVariants as effects

-- what a name means in an instance
abbrev pub here_in : Scopes → world.World → ℕ → Named → plain.Reference
here_in sc w at n = record { instance = world.ancestor w ((use_of sc n).up) at; name = n.name }

-- the parts around the innermost one
abbrev pub outer_of : List world.Part → List world.Part
outer_of [] = []
outer_of (part ∷ outer) = outer

-- what names of events lead to
abbrev pub followed_in : Scopes → world.World → ℕ → List Named → List plain.Reference
followed_in sc w at ns = map (λ n. world.followed w (here_in sc w at n)) ns

module _ (sc : Scopes) (w : world.World) (p : ℕ) (q : world.Process) (part : world.Part) (outer : List world.Part) where
  -- the choice that an effect stands for
  abbrev pub choice_by : Effect → Choice
  choice_by effects.Nothing = choices.chosen sc w p q part outer actions.Fault w
  choice_by (effects.Goes a x) = choices.goes sc w p q part outer a w (rest_answered x)
  choice_by (effects.Stores r v) = choices.goes sc w p q part outer actions.Store (world.set_cell w (reference r) (simple (value v))) rest.done
  choice_by (effects.StoresElement r ks v) = choices.stored sc w p q part outer (rest.element_of (reference r) ks) (value v)
  choice_by (effects.Evaluates inner) = choices.opens sc w p q part outer w (views.part sc inner)
  choice_by (effects.EntersProcedure j parent cells) = choices.entered_procedure sc w p q part outer j parent (map seen.cell cells.items)
  choice_by (effects.EntersBlock j) = choices.entered_block sc w p q part outer j
  choice_by (effects.Leaves x) = choices.left_choice sc w p q part outer (rest_answered x)
  choice_by (effects.GoesTo n i) = choices.goes_to sc w p q part outer n.now i
  choice_by (effects.Starts j parent cells task) = choices.starts sc w p q part outer j parent (map seen.cell cells.items) (views.task task)
  choice_by (effects.Acts act r) = choices.deed_does sc w p q part outer (acts act) (reference r) (deed (acts act) p (event_at w (reference r)))
  choice_by (effects.Fixes r) = choices.deed_does sc w p q part outer (tests test.Fix) (reference r) (deed (tests test.Fix) p (event_at w (reference r)))
  choice_by (effects.Waits rs) = choices.waits_here sc w p q part outer (map reference rs)
  choice_by (effects.Wakes v) =
      choices.chosen sc w p q part outer actions.Woke
      (world.with_process w p (record q { todo = choices.answered sc w p q part outer (rest.value (value v)) ∷ outer; woken = 0 }))
  choice_by (effects.Writes l) = choices.goes sc w p q part outer actions.Line (record w { output = w.output ++ l ∷ [] }) rest.done
  choice_by (effects.MakesArrays cells) = choices.goes sc w p q part outer actions.MakeArrays (world.add_cells w part.instance (named_cells cells.items)) rest.done
  choice_by (effects.MakesEvent n) = choices.made_event sc w p q part outer n.now
  choice_by (effects.Fails kind) = choices.fails sc w p q part outer kind

-- what is chosen for this part, which is the innermost of that process, where its head asks for that
abbrev pub asked_choice : World → ℕ → Part → asks.Ask → Choice
asked_choice w p part a =
    choices.choice_of (scoped w.scopes) (world_of w) p (process_of w p) (views.part (scoped w.scopes) part) (outer_of ((process_of w p).todo)) a

-- .. where it has this effect
abbrev pub effect_choice : World → ℕ → Part → Effect → Choice
effect_choice w p part e =
    choice_by (scoped w.scopes) (world_of w) p (process_of w p) (views.part (scoped w.scopes) part) (outer_of ((process_of w p).todo)) e

-- what a parameter holds for an actual
abbrev pub given_cell_in : World → ℕ → Part → rest.Given → plain.Cell
given_cell_in w p part g =
    choices.given_cell (scoped w.scopes) (world_of w) p (process_of w p) (views.part (scoped w.scopes) part) (outer_of ((process_of w p).todo)) g

abbrev pub given_cells_in : World → ℕ → Part → List rest.Given → List plain.Cell
given_cells_in w p part gs =
    choices.given_cells (scoped w.scopes) (world_of w) p (process_of w p) (views.part (scoped w.scopes) part) (outer_of ((process_of w p).todo)) gs

-- the task of a process that is started
abbrev pub task_in : Scopes → world.World → ℕ → Option Named → Option plain.Reference
task_in sc w at None = None
task_in sc w at (Some n) = Some (here_in sc w at n)
