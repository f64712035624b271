-- A process that starts another leaves the others alone: on the newest instance of another process nobody depends who did not.
use Rattle.std.proofs.Common.{◌≡◌, ◌≢◌, inl, refl, sym, ap, ◌∙◌, subst, ℕ, ◌+◌, List, [], ◌∷◌, ◌++◌, length, Option, Some, true, false}
use Rattle.b67_list.proofs.Numbers.{number_different}
use Rattle.b67_pictures.proofs.Prelude.{◌&&◌, ◌||◌, slice_get, numbered, set_numbered, Scopes, is_this, some_depends, own_instances, Instance, Process, lives, World, or_no_instance, stack_forth, IsOk, Home, IsInSkeleton, stack_of, skeleton, IsOnPath, IsStanding, IsWholeInstance, place, numbered_before, HasFacts, facts_of, KeepsArrays, keeps_same, StandOn, Layout, AreLaid, LeavesAlone, started_world, started_layout, rows_before}
use Rattle.std.specs.Prelude.{Bool}
use Rattle.algol_standing.proofs.Lists.{some_same}
use Rattle.algol_standing.proofs.Standing.{home_stands}
use Rattle.b67_scenes.proofs.Unseen.{newest_alone}
use Rattle.b67_pictures.proofs.Alone.{IsAfter, free_still, dependent_but, stands_on}

-- who does not depend on it, with one more who does not
pub none_depends : (qs : List Process) (new : Process) (i c : ℕ) → new.critical ≡ Some c → c ≢ i → some_depends qs i ≡ false → some_depends (qs ++ new ∷ []) i ≡ false
none_depends [] new i c critical other free =
    ap (λ (o : Option ℕ). (lives new.state && is_this o i) || false) critical ∙ ap (λ (b : Bool). (lives new.state && b) || false) (number_different c i other) ∙ by (lives new.state)
  where
    by : (b : Bool) → ((b && false) || false) ≡ false
    by true = refl
    by false = refl
none_depends (q ∷ qs) new i c critical other free = by (lives q.state && is_this q.critical i) free (none_depends qs new i c critical other)
  where
    by : (b : Bool) → (b || some_depends qs i) ≡ false → (some_depends qs i ≡ false → some_depends (qs ++ new ∷ []) i ≡ false) → (b || some_depends (qs ++ new ∷ []) i) ≡ false
    by true e again = e
    by false e again = again e

-- Process p starts one, whose critical instance is on the path of its newest instance.
pub record StartsIn (w : World) : Type 0 where
  pub p : ℕ
  pub q : Process
  pub onward : Process
  pub at : numbered w.processes p ≡ Some q
  pub critical_is : onward.critical ≡ q.critical
  pub alive : lives onward.state ≡ true → lives q.state ≡ true
  pub top : ℕ
  pub older : List ℕ
  pub own : own_instances q.todo ≡ top ∷ older
  pub made : Instance
  pub new : Process
  pub critical_in : ℕ
  pub critical : new.critical ≡ Some critical_in
  pub path : IsOnPath w top critical_in

module _ (sc : Scopes) (w : World) (lay : Layout) (ok : IsOk sc IsWholeInstance w) (starts : StartsIn w) where
  open starts use {p, q, onward as q', at, critical_is, alive, top, own, made, new, critical_in as c, critical, path}

  facts : HasFacts w
  facts = facts_of sc w ok

  abbrev w' : World
  w' = started_world w p q' made new

  abbrev top_stands : IsStanding w top
  top_stands = record { number = p; stack = stack_of q; is = stack_forth w p q at; inside = subst (λ (xs : List ℕ). IsInSkeleton xs top) (sym own) (inl refl) }

  -- the newest of another process, on whom nobody depends, is not the critical one of the new process
  is_other : (k : ℕ) (o : Process) (i : ℕ) (rest : List ℕ) → k ≢ p → numbered w.processes k ≡ Some o → own_instances o.todo ≡ i ∷ rest → some_depends w.processes i ≡ false → c ≢ i
  is_other k o i rest apart is newest free same =
      let top_is : top ≡ i = newest_alone sc w k o i rest ok is newest free top (subst (λ (x : ℕ). IsOnPath w top x) same path) in
      let stands : IsStanding w i = record { number = k; stack = stack_of o; is = stack_forth w k o is; inside = subst (λ (xs : List ℕ). IsInSkeleton xs i) (sym newest) (inl refl) } in
      let f = home_stands (skeleton w) ok.sound.skeleton_ok i stands in
      let g = home_stands (skeleton w) ok.sound.skeleton_ok top top_stands in
      let home : f.0 ≡ g.0 = some_same f.1 (ap (λ (x : ℕ). slice_get (skeleton w).homes x) (sym top_is) ∙ g.1) in
      apart (sym f.2 ∙ ap (λ (h : Home). h.process) home ∙ g.2)

  -- what stands keeps all that it has
  keeps : (j : ℕ) → IsStanding w j → IsStanding w' j → KeepsArrays sc w w' lay (started_layout w lay) j
  keeps j st later =
      let x = facts.there j st in
      keeps_same sc w w' lay (started_layout w lay) j
      (ap or_no_instance (numbered_before w.instances (made ∷ []) j x.0 x.1) ∙ sym (ap or_no_instance x.1))
      (rows_before w lay j x.0 x.1)

  module _ (after : IsAfter sc w (started_world w p q' made new) p) where
    pub all_stand_on : StandOn sc w (started_world w p q' made new) lay (started_layout w lay)
    all_stand_on = stands_on sc w w' lay (started_layout w lay) p facts after keeps (λ j f e. numbered_before lay.places (place (length w.processes + 1) 0 ∷ []) j f e)

    pub left_alone : AreLaid w lay → (k : ℕ) → k ≢ p → LeavesAlone sc w (started_world w p q' made new) lay (started_layout w lay) k
    left_alone laid k apart =
        record {
          laid = laid;
          on = all_stand_on;
          depends = λ i o rest is newest free.
              none_depends (set_numbered w.processes p q') new i c critical (is_other k o i rest apart is newest free)
              (free_still w.processes (set_numbered w.processes p q') i (dependent_but w.processes p q q' at critical_is alive) free);
          lows = λ i x is mine stands low.
              after.lows i (facts.stands i x is stands) (λ same. apart (sym mine ∙ ap (λ (y : Instance). y.process) (sym (ap or_no_instance is)) ∙ same)) low;
        }
