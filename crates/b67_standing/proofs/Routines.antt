-- The code of an actual: it gives its value, or, where the selector asks for it, the place of its element.
use Rattle.std.proofs.Common.{◌≡◌, refl, ℕ, ◌≤◌, arith, Bool, true, false, List, [], ◌∷◌}
use Rattle.algol_tree.specs.declared.tree.Kind.{Kind}
use Rattle.algol_tree.specs.Plain as tree
use Rattle.algol_tree.specs.Plain.{PExpr}
use Rattle.algol_tree.specs.Scopes.{Scopes}
use Rattle.algol_meaning.specs.Rest as rests
use Rattle.algol_meaning.specs.Rest.{Half, val, busy, Rest}
use Rattle.algol_meaning.specs.Settle.{settle, settle_actual_place}
use Rattle.algol_meaning.specs.Asks.{evaluated_of, located_of}
use Rattle.b67_ops.specs.declared.Operator.TheVariants as ops
use Rattle.b67_ops.specs.declared.PlainKind.TheVariants as kinds
use Rattle.b67_segment.specs.Operators.{Placed}
use Rattle.b67_templates.specs.Contexts as yielding
use Rattle.b67_templates.specs.Contexts.{Context}
use Rattle.b67_templates.specs.Fragments.{Has, stop}
use Rattle.b67_templates.specs.Cells.{Actual, has_place}
use Rattle.b67_templates.specs.Code.{in_routine, ElementAt, RoutineBy}
use Rattle.b67_templates.specs.Depths.{depth}
use Rattle.b67_standing.specs.Stepping.{held_at, Slot, operand, descriptor, true_stays, true_goes, there, first}
use Rattle.b67_standing.specs.Standing.{selected, Shows, ComesTo}
use Rattle.b67_standing.specs.Laws.{RoutinesGiveValues, RoutinesGivePlaces}
use Rattle.b67_standing.proofs.Asking.{leaves_asks, aims_asks}
use Rattle.b67_standing.proofs.Settling.{settle_at}
use Rattle.b67_standing.proofs.Rests.{after_rest, stays_here, heads_ask, value_at}
use Rattle.b67_standing.proofs.Elements.{AfterPlace, element_at}

module _ (sc : Scopes) (context : Context) (ps : List Placed) (level most : ℕ) where
  abbrev Coming : Rest → ℕ → List Slot → Type 0
  Coming = ComesTo sc context ps level most

  -- the value is given
  pub evaluated_stands : (kind : Kind) (x : Half) (pc : ℕ) (slots : List Slot) (m over : ℕ) → context.yields ≡ yielding.value kind →
      Shows sc context ps level most kind x pc slots [] m → Has ps level m (ops.Plain kinds.Retn) over → Coming (evaluated_of x) pc slots
  evaluated_stands kind (val v) pc slots m over yields s back =
      after_rest sc context ps level most (value_at sc context ps level most pc slots v [] m s.0 s.1)
      (stays_here sc context ps level most m (operand v ∷ []) (rests.giving v) (leaves_asks (rests.value v)) (kind, over, yields, s.2, back, refl))
  evaluated_stands kind (busy h) pc slots m over yields s back =
      stays_here sc context ps level most pc slots (rests.evaluating h) (heads_ask sc context ps level most kind h pc slots [] m s) (kind, m, over, yields, s, back)

  -- .. the place
  pub located : (kind : Kind) (m over : ℕ) → context.yields ≡ yielding.element kind → Has ps level m (ops.Plain kinds.Retn) over →
      AfterPlace sc context ps level most kind [] m located_of
  located kind m over yields back = record {
    found = λ p found.
        stays_here sc context ps level most m (descriptor (held_at p kind) ∷ []) (rests.giving_place p) (leaves_asks (rests.place p)) (kind, over, yields, found, back, refl);
    stands = λ x pc slots s.
        stays_here sc context ps level most pc slots (rests.locating x) (aims_asks sc context ps level most kind x pc slots [] m s) (kind, m, over, yields, s, back);
  }

  element_given : (kind : Kind) (e : PExpr) (from m over : ℕ) → ElementAt sc context ps level kind e from m → context.yields ≡ yielding.element kind →
      Has ps level m (ops.Plain kinds.Retn) over → depth e ≤ most → Coming (located_of (settle_actual_place sc e)) from []
  element_given kind (tree.variable (tree.subscripted n (tree.more i is))) from m over h yields back room =
      element_at sc context ps level most n h.0 h.1 kind i is from h.2 m [] located_of (located kind m over yields back)
      (record { is_array = h.3; kind_is = h.4; index = h.6 }) h.5 (omega (arith, room))
  element_given kind _ from m over h yields back room = absurd h

module _ (sc : Scopes) (context : Context) (ps : List Placed) (level most : ℕ) (a : Actual) (at : ℕ) (room : depth a.expr ≤ most) where
  value_by : (b : Bool) → RoutineBy sc context ps level b a at →
      ComesTo sc (in_routine (yielding.value a.kind) context) ps level most (evaluated_of (settle sc a.expr)) at (selected b false)
  value_by false h =
      let inner = in_routine (yielding.value a.kind) context in
      let d = settle_at sc inner ps level most a.kind a.expr at h.0 h.0 h.2 stop [] (omega (arith, room)) in
      after_rest sc inner ps level most d.leads (evaluated_stands sc inner ps level most a.kind (settle sc a.expr) d.at d.with_slots h.0 h.1 refl d.shows h.3)
  value_by true h =
      let inner = in_routine (yielding.value a.kind) context in
      let d = settle_at sc inner ps level most a.kind a.expr h.0 h.2 h.2 h.7 stop [] (omega (arith, room)) in
      after_rest sc inner ps level most (first (true_stays h.6) d.leads)
      (evaluated_stands sc inner ps level most a.kind (settle sc a.expr) d.at d.with_slots h.2 h.3 refl d.shows h.8)

  place_by : (b : Bool) → b ≡ true → RoutineBy sc context ps level b a at →
      ComesTo sc (in_routine (yielding.element a.kind) context) ps level most (located_of (settle_actual_place sc a.expr)) at (selected true true)
  place_by true e h =
      let inner = in_routine (yielding.element a.kind) context in
      after_rest sc inner ps level most (first (true_goes h.6) there) (element_given sc inner ps level most a.kind a.expr h.1 h.4 h.5 h.9 refl h.10 room)
  place_by false e h = cc

pub routines_give_values : RoutinesGiveValues
routines_give_values sc context ps level most a at h room = value_by sc context ps level most a at room (has_place a.expr) h

pub routines_give_places : RoutinesGivePlaces
routines_give_places sc context ps level most a at h room placed = place_by sc context ps level most a at room (has_place a.expr) placed h
