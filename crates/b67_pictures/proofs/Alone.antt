-- An action of a process leaves the other processes alone.
use Rattle.std.proofs.Common.{◌≡◌, ◌≢◌, refl, sym, ap, ◌∙◌, subst, ℕ, zero, suc, List, [], ◌∷◌, Some, Bool, true, false}
use Rattle.b67_list.proofs.Numbers.{none_some}
use Rattle.b67_pictures.proofs.Prelude.{◌&&◌, ◌||◌, slice_get, slice_set, numbered, set_numbered, Scopes, choice, is_this, some_depends, Instance, Process, lives, World, instance_at, or_no_instance, IsLow, IsStanding, IsOnPath, Place, HasFacts, KeepsArrays, StandOn, Layout, AreLaid, LeavesAlone, CanClimb, MayAct}
use Rattle.b67_frames.proofs.ChoicePaths.{choice_paths}
use Rattle.b67_scenes.proofs.Paths.{can_climb}

-- ---- who depends on an instance

-- the processes have the critical instances that they had, and live only where they did
abbrev pub AreAsDependent : List Process → List Process → Type 0
AreAsDependent [] [] = Unit {0}
AreAsDependent (q ∷ qs) (r ∷ rs) = (r.critical ≡ q.critical) × (lives r.state ≡ true → lives q.state ≡ true) × AreAsDependent qs rs
AreAsDependent _ _ = ⊥

pub dependent_self : (qs : List Process) → AreAsDependent qs qs
dependent_self [] = tt
dependent_self (q ∷ qs) = (refl, (λ e. e), dependent_self qs)

dependent_set : (qs : List Process) (k : ℕ) (q q' : Process) → slice_get qs k ≡ Some q → q'.critical ≡ q.critical → (lives q'.state ≡ true → lives q.state ≡ true) → AreAsDependent qs (slice_set qs k q')
dependent_set [] k q q' at critical alive = tt
dependent_set (r ∷ qs) zero q q' at critical alive =
    subst (λ (o : Process). AreAsDependent (o ∷ qs) (q' ∷ qs)) (sym (let same : r ≡ q = cc in same)) (critical, alive, dependent_self qs)
dependent_set (r ∷ qs) (suc k) q q' at critical alive = (refl, (λ e. e), dependent_set qs k q q' at critical alive)

-- where another process is in the place of one
pub dependent_but : (qs : List Process) (p : ℕ) (q q' : Process) → numbered qs p ≡ Some q → q'.critical ≡ q.critical → (lives q'.state ≡ true → lives q.state ≡ true) → AreAsDependent qs (set_numbered qs p q')
dependent_but qs zero q q' at critical alive = none_some at
dependent_but qs (suc k) q q' at critical alive = dependent_set qs k q q' at critical alive

-- who does not live, or has another critical instance, does not depend
not_dependent : (q r : Process) (i : ℕ) → r.critical ≡ q.critical → (lives r.state ≡ true → lives q.state ≡ true) → (lives q.state && is_this q.critical i) ≡ false → (lives r.state && is_this r.critical i) ≡ false
not_dependent q r i critical alive free =
    ap (λ c. lives r.state && is_this c i) critical ∙ by_state (lives r.state) (lives q.state) (is_this q.critical i) alive free
  where
    by_state : (b c d : Bool) → (b ≡ true → c ≡ true) → (c && d) ≡ false → (b && d) ≡ false
    by_state false c d alive free = refl
    by_state true c d alive free = ap (λ x. x && d) (sym (alive refl)) ∙ free

both_false : (a b : Bool) → (a || b) ≡ false → (a ≡ false) × (b ≡ false)
both_false false b e = (refl, e)
both_false true b e = cc

-- so on whom nobody depended, nobody depends
pub free_still : (qs rs : List Process) (i : ℕ) → AreAsDependent qs rs → some_depends qs i ≡ false → some_depends rs i ≡ false
free_still [] [] i are free = refl
free_still [] (r ∷ rs) i are free = absurd are
free_still (q ∷ qs) [] i are free = absurd are
free_still (q ∷ qs) (r ∷ rs) i are free =
    let both = both_false (lives q.state && is_this q.critical i) (some_depends qs i) free in
    ap (λ b. b || some_depends rs i) (not_dependent q r i are.0 are.1 both.0) ∙ free_still qs rs i are.2 both.1

-- ---- the world after an action

-- What an action of process p leaves of a world: names lead somewhere in it, the paths from who stands on are the same, and others come to no more.
pub record IsAfter (sc : Scopes) (w w' : World) (p : ℕ) : Type 0 where
  pub climb : CanClimb sc w'
  pub paths : (a b : ℕ) → IsStanding w a → IsStanding w' a → IsOnPath w a b → IsOnPath w' a b
  pub lows : (i : ℕ) → IsStanding w i → ((instance_at w i).process ≡ p → ⊥) → IsLow sc w i → IsLow sc w' i

-- so it is with the world of the choice
pub after_choice : (sc : Scopes) (w w' : World) (p : ℕ) (q : Process) → HasFacts w → MayAct sc w p → numbered w.processes p ≡ Some q → (choice sc w p).world ≡ w' → IsAfter sc w w' p
after_choice sc w w' p q facts may at same =
    let climb : CanClimb sc ((choice sc w p).world) = can_climb sc ((choice sc w p).world) may.ok in
    record {
      climb = subst (λ v. CanClimb sc v) same climb;
      paths = λ a b st later path.
          subst (λ v. IsOnPath v a b) same (choice_paths sc w p q at facts climb.facts a b st (subst (λ v. IsStanding v a) (sym same) later) path);
      lows = λ i st other low. subst (λ v. IsLow sc v i) same (may.others i st other low);
    }

-- ---- the other processes

-- What stands keeps its arrays and events, and frames stay where they are: so what stands before and after stands on.
module _ (sc : Scopes) (w w' : World) (lay lay' : Layout) (p : ℕ) (facts : HasFacts w) (after : IsAfter sc w w' p) (keeps : (j : ℕ) → IsStanding w j → IsStanding w' j → KeepsArrays sc w w' lay lay' j)
    (places : (j : ℕ) (f : Place) → numbered lay.places j ≡ Some f → numbered lay'.places j ≡ Some f) where
  pub stands_on : StandOn sc w w' lay lay'
  stands_on = record { before = facts; after = after.climb.facts; keeps = keeps; places = places; paths = after.paths }

  -- and each other process is left alone
  pub leaves_alone : AreLaid w lay → AreAsDependent w.processes w'.processes → (r : ℕ) → r ≢ p → LeavesAlone sc w w' lay lay' r
  leaves_alone laid dependent r apart =
      record {
        laid = laid;
        on = stands_on;
        depends = λ i q older is newest free. free_still w.processes w'.processes i dependent free;
        lows = λ i x is own stands low.
            after.lows i (facts.stands i x is stands) (λ same. apart (sym own ∙ ap (λ (y : Instance). y.process) (sym (ap or_no_instance is)) ∙ same)) low;
      }
