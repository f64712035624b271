-- A task's event that is not open.
use Rattle.std.proofs.Common.{◌≡◌, refl, ap, ◌∙◌, ℕ, Bool, true, false, cond, ◌||◌, List, [], ◌∷◌, Option, Some, None}
use Rattle.b67_word.specs.declared.Place.{Place}
use Rattle.b67_deeds.specs.Events.{caused}
use Rattle.b67_events.specs.Events.{Event, Events, same_place, event_at, is_open, state_of, waiters_at, event_changed, with_state, withdrawn, unlisted}
use Rattle.b67_table.specs.Writes.{told_positions}
use Rattle.b67_operators.specs.Leaves.{task_caused, task_waiters, task_numbers}

first_false : (a b : Bool) → (a || b) ≡ false → a ≡ false
first_false true b e = cc
first_false false b e = refl

second_false : (a b : Bool) → (a || b) ≡ false → b ≡ false
second_false true b e = cc
second_false false b e = e

none_caused : (at : Place) (es : List Event) → is_open at es ≡ false → event_changed at (with_state caused) es ≡ es
none_caused at [] e = refl
none_caused at (x ∷ es) e =
    ap (λ (b : Bool). cond b (with_state caused x) x ∷ event_changed at (with_state caused) es) (first_false (same_place x.place at) (is_open at es) e)
    ∙ ap (λ (z : List Event). x ∷ z) (none_caused at es (second_false (same_place x.place at) (is_open at es) e))

none_there : (at : Place) (es : List Event) → is_open at es ≡ false → event_at at es ≡ None
none_there at [] e = refl
none_there at (x ∷ es) e =
    ap (λ (b : Bool). cond b (Some x) (event_at at es)) (first_false (same_place x.place at) (is_open at es) e)
    ∙ none_there at es (second_false (same_place x.place at) (is_open at es) e)

none_waits : (at : Place) (es : List Event) → is_open at es ≡ false → waiters_at at es ≡ []
none_waits at es e = ap (λ (o : Option Event). (state_of o).waiters) (none_there at es e)

module _ (task : Option Place) (at : Place) (t : task ≡ Some at) where
  pub not_caused : (k : Events) → is_open at k.events ≡ false → task_caused task k ≡ k
  not_caused k e =
      ap (λ (o : Option Place). task_caused o k) t
      ∙ ap (λ (ps : List ℕ). record k { events = withdrawn ps (event_changed at (with_state caused) k.events); lists = unlisted ps k.lists }) (none_waits at k.events e)
      ∙ ap (λ (es : List Event). record k { events = es }) (none_caused at k.events e)

  pub nobody_waits : (es : List Event) → is_open at es ≡ false → task_waiters task es ≡ []
  nobody_waits es e = ap (λ (o : Option Place). task_waiters o es) t ∙ none_waits at es e

  pub none_told : (k : Events) (numbers : List ℕ) → is_open at k.events ≡ false → task_numbers task k numbers ≡ numbers
  none_told k numbers e =
      ap (λ (o : Option Place). task_numbers o k numbers) t
      ∙ ap (λ (ps : List ℕ). told_positions at k.lists ps numbers) (none_waits at k.events e)
