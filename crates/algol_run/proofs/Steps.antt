-- A process that is able goes where process 1 lives and no fault is kept; what it leaves has an end or goes on.
use Rattle.std.proofs.Common.{◌≡◌, refl, ℕ, zero, suc, ◌&&◌, ◌||◌, not, if◌then◌else◌, Bool, true, false, List, [], ◌∷◌, ap, sym, ◌∙◌, Option, Some, None, slice_get}
use Rattle.algol_tree.specs.Scopes.{Scopes}
use Rattle.algol_meaning.specs.World as world
use Rattle.algol_meaning.specs.World.{World, WorldFault, State, Process, Part, is_able, lives, process_at, or_no_process}
use Rattle.algol_meaning.specs.Asks.{ask}
use Rattle.b67_deeds.specs.declared.Letter.TheVariants as actions
use Rattle.algol_meaning.specs.Choice.{Choice, choice, choice_in, choice_of}
use Rattle.algol_meaning.specs.Run.{End, some_able, some_lives, all_waiting, end_by, end_of, finished, goes_on, may_go}
use Rattle.algol_world.specs.Going.{action_chosen}
use Rattle.algol_world.specs.Leaving.{is_nil}
use Rattle.algol_effect.specs.Effects.{outer_of, choice_by}
use Rattle.algol_effect.specs.declared.effect.Effect.{Effect}
use Rattle.algol_perform.specs.Performing.{performed, performed_by}
use Rattle.algol_run.specs.Stepping.{ended, not_able, went, chosen_by, step_by, step_of, is_kept, is_over}

-- ---- a process that is able is one of some

some_able_at : (qs : List Process) (k : ℕ) → is_able ((or_no_process (slice_get qs k)).state) ≡ true → some_able qs ≡ true
some_able_at [] zero e = cc
some_able_at [] (suc k) e = cc
some_able_at (q ∷ qs) zero e = ap (λ (b : Bool). b || some_able qs) e
some_able_at (q ∷ qs) (suc k) e = by (is_able q.state) (some_able_at qs k e)
  where
    by : (b : Bool) → some_able qs ≡ true → (b || some_able qs) ≡ true
    by true h = refl
    by false h = h

able_is_some : (w : World) (p : ℕ) → is_able ((process_at w p).state) ≡ true → some_able w.processes ≡ true
able_is_some w zero e = cc
able_is_some w (suc k) e = some_able_at w.processes k e

able_state : (s : State) (b : Bool) → (is_able s && b) ≡ true → s ≡ world.able
able_state world.able b e = refl
able_state (world.waits_for r) b e = cc
able_state (world.waits_any rs) b e = cc
able_state (world.procures r) b e = cc
able_state world.ended b e = cc

pub goes_able : (w : World) (p : ℕ) → (is_able ((process_at w p).state) && not (is_over w)) ≡ true → (process_at w p).state ≡ world.able
goes_able w p e = able_state ((process_at w p).state) (not (is_over w)) e

-- ---- the end of a world, by what the code tests

none_waits : (living able : Bool) → able ≡ true → (if living && not able then Some all_waiting else None) ≡ None
none_waits true true e = refl
none_waits false true e = refl
none_waits living false e = cc

no_end : (w : World) (p : ℕ) → is_able ((process_at w p).state) ≡ true → is_over w ≡ false → end_of w ≡ None
unfolding end_of
no_end w p able over = by (lives ((process_at w 1).state)) w.fault over
  where
    by :
        (living : Bool) (kept : Option WorldFault) → (not living || is_kept kept) ≡ false
        → (if living then end_by kept w.processes else Some finished) ≡ None
    by false kept e = cc
    by true (Some f) e = cc
    by true None e = none_waits (some_lives w.processes) (some_able w.processes) (able_is_some w p able)

has_end : (w : World) → is_over w ≡ true → is_kept (end_of w) ≡ true
unfolding end_of
has_end w over = by (lives ((process_at w 1).state)) w.fault over
  where
    by :
        (living : Bool) (kept : Option WorldFault) → (not living || is_kept kept) ≡ true
        → is_kept (if living then end_by kept w.processes else Some finished) ≡ true
    by false kept e = refl
    by true (Some f) e = refl
    by true None e = cc

-- ---- what ends a world

waiting_kept : (waits : Bool) → is_kept (if waits then Some all_waiting else None) ≡ waits
waiting_kept true = refl
waiting_kept false = refl

pub ends_over : (w : World) → is_over w ≡ true → true ≡ is_kept (end_of w)
ends_over w over = sym (has_end w over)

pub ends_able : (w : World) (p : ℕ) → is_able ((process_at w p).state) ≡ true → is_over w ≡ false → false ≡ is_kept (end_of w)
ends_able w p able over = sym (ap (λ (o : Option End). is_kept o) (no_end w p able over))

pub ends_waiting : (w : World) → is_over w ≡ false → (some_lives w.processes && not (some_able w.processes)) ≡ is_kept (end_of w)
unfolding end_of
ends_waiting w over = by (lives ((process_at w 1).state)) w.fault over
  where
    by :
        (living : Bool) (kept : Option WorldFault) → (not living || is_kept kept) ≡ false
        → (some_lives w.processes && not (some_able w.processes)) ≡ is_kept (if living then end_by kept w.processes else Some finished)
    by false kept e = cc
    by true (Some f) e = cc
    by true None e = sym (waiting_kept (some_lives w.processes && not (some_able w.processes)))

-- ---- steps

-- a process may go where it is able, process 1 lives and no fault is kept
may_so : (w : World) (p : ℕ) → (is_able ((process_at w p).state) && not (is_over w)) ≡ may_go w p
unfolding may_go
may_so w p = by (is_able ((process_at w p).state)) (is_over w) (no_end w p) (has_end w)
  where
    over : (o : Option End) (able : Bool) → is_kept o ≡ true → false ≡ goes_on o able
    over (Some e) able k = refl
    over None able k = cc

    none : (o : Option End) (able : Bool) → o ≡ None → able ≡ goes_on o able
    none (Some e) able k = cc
    none None able k = refl

    unable : (o : Option End) → false ≡ goes_on o false
    unable None = refl
    unable (Some e) = refl

    by :
        (able past : Bool) → (able ≡ true → past ≡ false → end_of w ≡ None) → (past ≡ true → is_kept (end_of w) ≡ true)
        → (able && not past) ≡ goes_on (end_of w) able
    by false past f h = unable (end_of w)
    by true true f h = over (end_of w) true (h refl)
    by true false f h = none (end_of w) true (f refl refl)

module _ (sc : Scopes) (w : World) (p : ℕ) where
  pub stays_so : (is_able ((process_at w p).state) && not (is_over w)) ≡ false → not_able ≡ step_of sc w p
  stays_so stays = sym (ap (λ (may : Bool). step_by may (choice sc w p)) (sym (may_so w p) ∙ stays))

  module _ (c : Choice) (same : c ≡ choice sc w p) (goes : (is_able ((process_at w p).state) && not (is_over w)) ≡ true) where
    gone : step_by true c ≡ step_of sc w p
    gone = ap (step_by true) same ∙ sym (ap (λ (may : Bool). step_by may (choice sc w p)) (sym (may_so w p) ∙ goes))

    pub ends_so : true ≡ is_kept (end_of c.world) → ended c ≡ step_of sc w p
    ends_so kept = by (end_of c.world) kept ∙ gone
      where
        by : (o : Option End) → true ≡ is_kept o → ended c ≡ chosen_by o c
        by (Some e) k = refl
        by None k = cc

    pub goes_so : false ≡ is_kept (end_of c.world) → went c ≡ step_of sc w p
    goes_so lives = by (end_of c.world) lives ∙ gone
      where
        by : (o : Option End) → false ≡ is_kept o → went c ≡ chosen_by o c
        by (Some e) k = cc
        by None k = refl

-- ---- the action of a process

pub has_part : (parts : List Part) (x : Part) → Some x ≡ slice_get parts 0 → is_nil parts ≡ false
has_part [] x e = cc
has_part (y ∷ parts) x e = refl

module _ (sc : Scopes) (w : World) (p : ℕ) where
  pub stuck_so : None ≡ slice_get ((process_at w p).todo) 0 → action_chosen actions.Fault w ≡ choice sc w p
  unfolding choice
  stuck_so e = under ((process_at w p).todo) e
    where
      under : (parts : List Part) → None ≡ slice_get parts 0 → action_chosen actions.Fault w ≡ choice_in sc w p (process_at w p) parts
      under [] e = refl
      under (y ∷ parts) e = cc

  pub acts_so :
      (x : Part) (e : Effect) → Some x ≡ slice_get ((process_at w p).todo) 0
      → choice_of sc w p (process_at w p) x (outer_of ((process_at w p).todo)) (ask x.rest)
      ≡ choice_by sc w p (process_at w p) x (outer_of ((process_at w p).todo)) e
      → performed sc w p e ≡ choice sc w p
  unfolding choice
  acts_so x effect first same = under ((process_at w p).todo) first same
    where
      under :
          (parts : List Part) → Some x ≡ slice_get parts 0
          → choice_of sc w p (process_at w p) x (outer_of parts) (ask x.rest) ≡ choice_by sc w p (process_at w p) x (outer_of parts) effect
          → performed_by sc w p (process_at w p) parts effect ≡ choice_in sc w p (process_at w p) parts
      under [] first same = cc
      under (y ∷ outer) first same =
          let is : x ≡ y = cc in
          ap (λ (z : Part). choice_by sc w p (process_at w p) z outer effect) (sym is)
          ∙ sym same
          ∙ ap (λ (z : Part). choice_of sc w p (process_at w p) z outer (ask z.rest)) is

pub ruleset step_laws = (goes_able, stays_so)

pub ruleset end_laws = (ends_over, ends_able, ends_waiting)

pub ruleset act_laws = (stuck_so, acts_so, has_part)
