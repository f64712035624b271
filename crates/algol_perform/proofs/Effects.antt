-- What the world's changes make of a world, as the definitions choose it.
use Rattle.std.proofs.Common.{◌≡◌, refl, ℕ, false, List, [], ◌∷◌, ◌++◌, map}
use Rattle.b67_num.specs.declared.FaultKind.{FaultKind}
use Rattle.std.specs.declared.vec.Vec.{Vec}
use Rattle.std.specs.declared.alloc.Global.{Global}
use Rattle.algol_tree.specs.Scopes.{Scopes}
use Rattle.algol_meaning.specs.Value as plain
use Rattle.algol_meaning.specs.World as world
use Rattle.algol_meaning.specs.World.{World, Part, process_at, set_cell, array_in, cell_at}
use Rattle.algol_meaning.specs.Rest as rest
use Rattle.algol_meaning.specs.Events.{event_at}
use Rattle.b67_deeds.specs.declared.EventAct.{EventAct}
use Rattle.b67_deeds.specs.declared.EventTest.TheVariants as test
use Rattle.b67_deeds.specs.Deeds as deeds
use Rattle.b67_deeds.specs.Deeds.{deed}
use Rattle.b67_deeds.specs.declared.Letter.{Letter}
use Rattle.b67_deeds.specs.declared.Letter.TheVariants as actions
use Rattle.algol_meaning.specs.Arrays.{with_element}
use Rattle.algol_cells.specs.SeenValue.{value}
use Rattle.algol_cells.specs.SeenCell.{reference}
use Rattle.algol_rest_expr.specs.SeenExpression.{rest_answered}
use Rattle.algol_cells.specs.declared.cell.Reference.{Reference}
use Rattle.algol_cells.specs.declared.value.Value.{Value}
use Rattle.algol_rest_expr.specs.declared.part.Answer.{Answer}
use Rattle.algol_world.specs.SeenWorld as views
use Rattle.algol_world.specs.Going.{action_chosen, going, part_opening, resumed, waking, waiting_for, does_of, does_by}
use Rattle.algol_world.specs.Leaving.{is_nil, failing, leaves_by, leaves_of}
use Rattle.algol_instances.specs.SeenInstance.{named_cells}
use Rattle.algol_instances.specs.declared.instance.NamedCell.{NamedCell}
use Rattle.algol_world.specs.declared.world.Part as code
use Rattle.algol_effect.specs.declared.effect.Effect.TheVariants as effects
use Rattle.algol_perform.specs.Going.{instance_in}
use Rattle.algol_perform.specs.Performing.{performed, performed_by}

module _ (sc : Scopes) (w : World) (p : ℕ) where
  pub goes : (x : Letter) (a : Answer) → is_nil ((process_at w p).todo) ≡ false → action_chosen x (going sc w p (rest_answered a)) ≡ performed sc w p (effects.Goes x a)
  goes x a has = under ((process_at w p).todo) has
    where
      under : (parts : List Part) → is_nil parts ≡ false → action_chosen x (world.with_process w p (record (process_at w p) { todo = resumed sc parts (rest_answered a) })) ≡ performed_by sc w p (process_at w p) parts (effects.Goes x a)
      under [] h = cc
      under (part ∷ outer) h = refl

  pub stores : (r : Reference) (v : Value) → is_nil ((process_at w p).todo) ≡ false → action_chosen actions.Store (going sc (set_cell w (reference r) (plain.simple (value v))) p rest.done) ≡ performed sc w p (effects.Stores r v)
  stores r v has = under ((process_at w p).todo) has
    where
      after : World
      after = set_cell w (reference r) (plain.simple (value v))

      under : (parts : List Part) → is_nil parts ≡ false → action_chosen actions.Store (world.with_process (set_cell w (reference r) (plain.simple (value v))) p (record (process_at w p) { todo = resumed sc parts rest.done })) ≡ performed_by sc w p (process_at w p) parts (effects.Stores r v)
      under [] h = cc
      under (part ∷ outer) h = refl

  pub stores_element :
      (r : Reference) (ks : List ℕ) (v : Value) → is_nil ((process_at w p).todo) ≡ false
      → action_chosen actions.ElementStore (going sc (set_cell w (reference r) (plain.array (with_element (array_in (cell_at w (reference r))) ks (value v)))) p rest.done)
      ≡ performed sc w p (effects.StoresElement r ks v)
  stores_element r ks v has = under ((process_at w p).todo) has
    where
      under : (parts : List Part) → is_nil parts ≡ false → action_chosen actions.ElementStore (world.with_process (set_cell w (reference r) (plain.array (with_element (array_in (cell_at w (reference r))) ks (value v)))) p (record (process_at w p) { todo = resumed sc parts rest.done })) ≡ performed_by sc w p (process_at w p) parts (effects.StoresElement r ks v)
      under [] h = cc
      under (part ∷ outer) h = refl

  pub evaluates :
      (inner : code.Part) → is_nil ((process_at w p).todo) ≡ false
      → action_chosen actions.Enter (part_opening sc w p (views.part sc inner)) ≡ performed sc w p (effects.Evaluates inner)
  evaluates inner has = under ((process_at w p).todo) has
    where
      under : (parts : List Part) → is_nil parts ≡ false → action_chosen actions.Enter (world.with_process w p (record (process_at w p) { todo = views.part sc inner ∷ resumed sc parts rest.entered })) ≡ performed_by sc w p (process_at w p) parts (effects.Evaluates inner)
      under [] h = cc
      under (part ∷ outer) h = refl

  pub leaves : (a : Answer) → leaves_by sc w p (rest_answered a) ≡ performed sc w p (effects.Leaves a)
  leaves a = under ((process_at w p).todo)
    where
      under : (parts : List Part) → leaves_of sc w p (process_at w p) parts (rest_answered a) ≡ performed_by sc w p (process_at w p) parts (effects.Leaves a)
      under [] = refl
      under (part ∷ outer) = refl

  pub acts : (x : EventAct) (r : Reference) → does_by sc w p (deeds.acts x) (reference r) ≡ performed sc w p (effects.Acts x r)
  acts x r = under ((process_at w p).todo)
    where
      under :
          (parts : List Part)
          → does_of sc w p (process_at w p) parts (deeds.acts x) (reference r) (deed (deeds.acts x) p (event_at w (reference r)))
          ≡ performed_by sc w p (process_at w p) parts (effects.Acts x r)
      under [] = refl
      under (part ∷ outer) = refl

  pub fixes : (r : Reference) → does_by sc w p (deeds.tests test.Fix) (reference r) ≡ performed sc w p (effects.Fixes r)
  fixes r = under ((process_at w p).todo)
    where
      under :
          (parts : List Part)
          → does_of sc w p (process_at w p) parts (deeds.tests test.Fix) (reference r) (deed (deeds.tests test.Fix) p (event_at w (reference r)))
          ≡ performed_by sc w p (process_at w p) parts (effects.Fixes r)
      under [] = refl
      under (part ∷ outer) = refl

  pub waits :
      (rs : List Reference) → is_nil ((process_at w p).todo) ≡ false
      → action_chosen actions.WaitAny (waiting_for w p (map reference rs)) ≡ performed sc w p (effects.Waits rs)
  waits rs has = under ((process_at w p).todo) has
    where
      under : (parts : List Part) → is_nil parts ≡ false → action_chosen actions.WaitAny (waiting_for w p (map reference rs)) ≡ performed_by sc w p (process_at w p) parts (effects.Waits rs)
      under [] h = cc
      under (part ∷ outer) h = refl

  pub wakes :
      (v : Value) → is_nil ((process_at w p).todo) ≡ false
      → action_chosen actions.Woke (waking sc w p (rest.value (value v))) ≡ performed sc w p (effects.Wakes v)
  wakes v has = under ((process_at w p).todo) has
    where
      under : (parts : List Part) → is_nil parts ≡ false → action_chosen actions.Woke (world.with_process w p (record (process_at w p) { todo = resumed sc parts (rest.value (value v)); woken = 0 })) ≡ performed_by sc w p (process_at w p) parts (effects.Wakes v)
      under [] h = cc
      under (part ∷ outer) h = refl

  pub writes : (l : List ℕ) → is_nil ((process_at w p).todo) ≡ false → action_chosen actions.Line (going sc (record w { output = w.output ++ l ∷ [] }) p rest.done) ≡ performed sc w p (effects.Writes l)
  writes l has = under ((process_at w p).todo) has
    where
      under : (parts : List Part) → is_nil parts ≡ false → action_chosen actions.Line (world.with_process (record w { output = w.output ++ l ∷ [] }) p (record (process_at w p) { todo = resumed sc parts rest.done })) ≡ performed_by sc w p (process_at w p) parts (effects.Writes l)
      under [] h = cc
      under (part ∷ outer) h = refl

  pub makes_arrays :
      (cells : Vec NamedCell Global) → is_nil ((process_at w p).todo) ≡ false
      → action_chosen actions.MakeArrays (going sc (world.add_cells w (instance_in ((process_at w p).todo)) (named_cells cells.items)) p rest.done)
      ≡ performed sc w p (effects.MakesArrays cells)
  makes_arrays cells has = under ((process_at w p).todo) has
    where
      under : (parts : List Part) → is_nil parts ≡ false → action_chosen actions.MakeArrays (world.with_process (world.add_cells w (instance_in parts) (named_cells cells.items)) p (record (process_at w p) { todo = resumed sc parts rest.done })) ≡ performed_by sc w p (process_at w p) parts (effects.MakesArrays cells)
      under [] h = cc
      under (part ∷ outer) h = refl

  pub fails : (kind : FaultKind) → is_nil ((process_at w p).todo) ≡ false → action_chosen actions.Fault (failing w p kind) ≡ performed sc w p (effects.Fails kind)
  fails kind has = under ((process_at w p).todo) has
    where
      under : (parts : List Part) → is_nil parts ≡ false → action_chosen actions.Fault (failing w p kind) ≡ performed_by sc w p (process_at w p) parts (effects.Fails kind)
      under [] h = cc
      under (part ∷ outer) h = refl
