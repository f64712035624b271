-- A process whose parts stay: at most its state changes, to able, and its woken number.
use Rattle.std.proofs.Common.{arith, ◌≡◌, ◌⊎◌, ℕ, true, refl, sym, ap, ◌∙◌, subst}
use Rattle.algol_tree.specs.Scopes.{Scopes}
use Rattle.algol_meaning.specs.Value.{Reference}
use Rattle.algol_meaning.specs.World.{Process, able, lives, World}
use Rattle.algol_meaning.specs.Critical.{own_instances}
use Rattle.algol_standing.specs.Worlds.{newest_own, IsOnPath, IsOwn, IsAmongParts, IsAwaited, IsFew, PartsAreGiven, HasHead, ProcessOk}
use Rattle.algol_standing.proofs.Alike.{ProcessAlike}

pub record Unmoved (x y : Process) : Type 0 where
  pub todo : y.todo ≡ x.todo
  pub critical : y.critical ≡ x.critical
  pub task : y.task ≡ x.task
  pub state : (y.state ≡ x.state) ⊎ ((y.state ≡ able) × (lives x.state ≡ true))
  pub few : IsFew x.woken x.state → IsFew y.woken y.state

pub unmoved_self : (x : Process) → Unmoved x x
unmoved_self x = record { todo = refl; critical = refl; task = refl; state = ◌⊎◌.inl refl; few = λ f. f }

pub unmoved_lives : (x y : Process) → Unmoved x y → lives y.state ≡ lives x.state
unmoved_lives x y f = by f.state
  where
    by : (y.state ≡ x.state) ⊎ ((y.state ≡ able) × (lives x.state ≡ true)) → lives y.state ≡ lives x.state
    by (◌⊎◌.inl e) = ap lives e
    by (◌⊎◌.inr e) = ap lives e.0 ∙ sym e.1

-- once more made able
pub unmoved_able : (x y : Process) → lives x.state ≡ true → Unmoved x y → Unmoved x (record y { state = able })
unmoved_able x y live f = record { todo = f.todo; critical = f.critical; task = f.task; state = ◌⊎◌.inr (refl, live); few = λ h. ((f.few h).0, omega (arith)) }

pub unmoved_alike : (x y : Process) → Unmoved x y → ProcessAlike x y
unmoved_alike x y f =
    record {
      own = ap own_instances f.todo;
      owned = λ i n. subst (λ ps. IsOwn ps i) f.todo n;
      critical = f.critical;
      task = f.task;
      lives = unmoved_lives x y f;
    }

pub unmoved_ok : (sc : Scopes) (Whole : World → ℕ → Type 0) (w : World) (x y : Process) → Unmoved x y → ProcessOk sc Whole w x → ProcessOk sc Whole w y
unmoved_ok sc Whole w x y f k =
    record {
      parts = λ part n. k.parts part (subst (λ ps. IsAmongParts ps part) f.todo n);
      heads = λ live. subst (λ ps. HasHead ps) (sym f.todo) (k.heads (sym (unmoved_lives x y f) ∙ live));
      gives = subst (λ ps. PartsAreGiven ps) (sym f.todo) k.gives;
      awaited = λ r n. by r n f.state;
      few = f.few k.few;
    }
  where
    by : (r : Reference) → IsAwaited y.state r → (y.state ≡ x.state) ⊎ ((y.state ≡ able) × (lives x.state ≡ true)) → IsOnPath w (newest_own y.todo) r.instance
    by r n (◌⊎◌.inl e) = subst (λ ps. IsOnPath w (newest_own ps) r.instance) (sym f.todo) (k.awaited r (subst (λ s. IsAwaited s r) e n))
    by r n (◌⊎◌.inr e) = absurd (subst (λ s. IsAwaited s r) e.0 n)
