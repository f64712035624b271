-- What is noted of a schedule that was followed.
use Rattle.std.proofs.Common.{◌≡◌, sym, ap, subst, ◌∙◌, ℕ, List, ◌∷◌, reverse, inl, inr}
use Rattle.std.specs.Prelude.{◌⊎◌}
use Rattle.b67_segment.specs.declared.code.Code.{Code}
use Rattle.b67_report.specs.declared.EndWords.{EndWords}
use Rattle.b67_report.specs.declared.EndWords.TheVariants as ends
use Rattle.b67_told.specs.declared.Outcome.{Outcome}
use Rattle.b67_teller.specs.Following.{IsOutcomeEnd, IsLong, Followed, FollowsOnly, HasOutcome}
use Rattle.b67_teller.proofs.Leading.{ended_only, stopped_only, own_end}

-- who follows a schedule that has an outcome comes to that
pub only_one : (code : Code) (schedule : List ℕ) (o : Outcome) → HasOutcome code schedule o → FollowsOnly code schedule o
only_one code schedule o (inl x) =
    subst (λ (z : List ℕ). FollowsOnly code z o) (sym x.order)
    (subst (λ (y : Outcome). FollowsOnly code (reverse x.history) y) (sym x.is) (ended_only code x.history x.image x.end x.leads x.ended))
only_one code schedule o (inr x) =
    subst (λ (z : List ℕ). FollowsOnly code z o) (sym x.order)
    (subst (λ (y : Outcome). FollowsOnly code (reverse (x.process ∷ x.history)) y) (sym x.is)
    (stopped_only code x.history x.process x.image x.quiet x.leads x.may x.stops))

-- which is the run's own, or the stack limit
pub own_outcome : (code : Code) (schedule : List ℕ) (o : Outcome) → HasOutcome code schedule o → IsOutcomeEnd o.end
own_outcome code schedule o (inl x) = subst (λ (y : Outcome). IsOutcomeEnd y.end) (sym x.is) (own_end x.end)
own_outcome code schedule o (inr x) = subst (λ (y : Outcome). IsOutcomeEnd y.end) (sym x.is) tt

pub long_run : (code : Code) (schedule : List ℕ) (x o : Outcome) → HasOutcome code schedule o → Followed code schedule x → x.end ≡ ends.BudgetSpent → IsLong code schedule
long_run code schedule x o has f spent = by (only_one code schedule o has x f)
  where
    by : (x ≡ o) ⊎ ((x.end ≡ ends.BudgetSpent) × IsLong code schedule) → IsLong code schedule
    by (inl same) = absurd (subst (λ (e : EndWords). IsOutcomeEnd e) (ap (λ (y : Outcome). y.end) (sym same) ∙ spent) (own_outcome code schedule o has))
    by (inr long) = long.1

pub same_one : (code : Code) (schedule : List ℕ) (x o : Outcome) → HasOutcome code schedule o → Followed code schedule x → (x.end ≡ ends.BudgetSpent → ⊥) → x ≡ o
same_one code schedule x o has f other = by (only_one code schedule o has x f)
  where
    by : (x ≡ o) ⊎ ((x.end ≡ ends.BudgetSpent) × IsLong code schedule) → x ≡ o
    by (inl same) = same
    by (inr long) = absurd (other long.0)
