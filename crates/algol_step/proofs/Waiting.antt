-- A wait for several events, by the woken number and by what has happened.
use Rattle.std.proofs.Common.{◌≡◌, refl, ℕ, zero, suc, ◌+◌, ◌<◌, List, [], ◌∷◌, ◌++◌, length, map, take, get_or, pos, ap, sym, ◌∙◌, arith, Option, Some, None}
use Rattle.std.proofs.lemmas.List.{map-append, take_more}
use Rattle.algol_tree.specs.Scopes.{Scopes}
use Rattle.algol_tree.specs.declared.tree.EventName.{EventName}
use Rattle.algol_meaning.specs.Value as plain
use Rattle.algol_meaning.specs.World as world
use Rattle.algol_meaning.specs.World.{World, Process, Part}
use Rattle.algol_meaning.specs.Rest as rest
use Rattle.algol_meaning.specs.Events.{first_happened}
use Rattle.algol_meaning.specs.Choice as choices
use Rattle.algol_meaning.specs.Choice.{Choice}
use Rattle.b67_deeds.specs.declared.Letter.TheVariants as actions
use Rattle.algol_cells.specs.SeenCell as cells
use Rattle.algol_cells.specs.SeenValue.{value}
use Rattle.algol_cells.specs.declared.value.Value.{Value}
use Rattle.algol_cells.specs.declared.cell.Reference as code
use Rattle.algol_rest_expr.specs.SeenExpression.{event_names_of}
use Rattle.algol_effect.specs.Effects.{choice_by, here_in, followed_in}
use Rattle.algol_effect.specs.declared.effect.Effect.TheVariants as effects

module _ (sc : Scopes) (w : World) (p : ℕ) (q : Process) (part : Part) (outer : List Part) where
  -- it was released
  pub wakes_so :
      (rs : List plain.Reference) (n : ℕ) (v : Value) → n ≡ q.woken → 0 < n → value v ≡ plain.number (pos n)
      → choices.wakes_or_waits sc w p q part outer q.woken rs ≡ choice_by sc w p q part outer (effects.Wakes v)
  wakes_so rs n v e more told = ap (λ (k : ℕ). choices.wakes_or_waits sc w p q part outer k rs) (sym e) ∙ by n more told
    where
      by : (k : ℕ) → 0 < k → value v ≡ plain.number (pos k) → choices.wakes_or_waits sc w p q part outer k rs ≡ choice_by sc w p q part outer (effects.Wakes v)
      by zero more told = absurd (omega (arith, more))
      by (suc k) more told =
          ap
          (λ (x : plain.Value). choices.chosen sc w p q part outer actions.Woke
          (world.with_process w p (record q { todo = choices.answered sc w p q part outer (rest.value x) ∷ outer; woken = 0 })))
          (sym told)

  -- it was not, and none has happened
  pub waits_so :
      (rs : List plain.Reference) (cs : List code.Reference) → q.woken ≡ 0 → map cells.reference cs ≡ rs → first_happened w (map cells.reference cs) ≡ None
      → choices.wakes_or_waits sc w p q part outer q.woken rs ≡ choice_by sc w p q part outer (effects.Waits cs)
  waits_so rs cs none is e =
      ap (λ (k : ℕ). choices.wakes_or_waits sc w p q part outer k rs) none
      ∙ ap (λ (xs : List plain.Reference). choices.waits_for_any sc w p q part outer xs (first_happened w xs)) (sym is)
      ∙ ap (choices.waits_for_any sc w p q part outer (map cells.reference cs)) e

  -- .. one has
  pub goes_so :
      (rs : List plain.Reference) (cs : List code.Reference) (n : ℕ) (v : Value) → q.woken ≡ 0 → map cells.reference cs ≡ rs
      → first_happened w (map cells.reference cs) ≡ Some n → value v ≡ plain.number (pos n)
      → choices.wakes_or_waits sc w p q part outer q.woken rs ≡ choices.goes sc w p q part outer actions.WaitAny w (rest.value (value v))
  goes_so rs cs n v none is e told =
      ap (λ (k : ℕ). choices.wakes_or_waits sc w p q part outer k rs) none
      ∙ ap (λ (xs : List plain.Reference). choices.waits_for_any sc w p q part outer xs (first_happened w xs)) (sym is)
      ∙ ap (choices.waits_for_any sc w p q part outer (map cells.reference cs)) e
      ∙ ap (λ (x : plain.Value). choices.goes sc w p q part outer actions.WaitAny w (rest.value x)) (sym told)

pub ruleset waiting = (wakes_so, waits_so, goes_so)

-- ---- names that are followed

module _ (sc : Scopes) (w : World) (at : ℕ) where
  appended : (es : List EventName) (e : EventName) → followed_in sc w at (event_names_of (es ++ e ∷ [])) ≡ followed_in sc w at (event_names_of es) ++ world.followed w (here_in sc w at e.name) ∷ []
  appended [] e = refl
  appended (x ∷ es) e = ap (λ (rs : List plain.Reference). world.followed w (here_in sc w at x.name) ∷ rs) (appended es e)

  -- one more
  pub followed_more :
      (es : List EventName) (i : ℕ) (e : EventName) (rs : List code.Reference) (r h : code.Reference) → i < length es → e ≡ get_or es i e
      → cells.reference r ≡ world.followed w (cells.reference h) → cells.reference h ≡ here_in sc w at e.name
      → map cells.reference rs ≡ followed_in sc w at (event_names_of (take i es))
      → map cells.reference (rs ++ r ∷ []) ≡ followed_in sc w at (event_names_of (take (i + 1) es))
  followed_more es i e rs r h less is led there inv =
      let before = followed_in sc w at (event_names_of (take i es)) in
      map-append cells.reference rs (r ∷ [])
      ∙ ap (λ (xs : List plain.Reference). xs ++ cells.reference r ∷ []) inv
      ∙ ap (λ (x : plain.Reference). before ++ x ∷ []) (led ∙ ap (world.followed w) there)
      ∙ sym (appended (take i es) e)
      ∙ ap (λ (f : EventName). followed_in sc w at (event_names_of (take i es ++ f ∷ []))) is
      ∙ ap (λ (xs : List EventName). followed_in sc w at (event_names_of xs)) (sym (take_more es i e less))
