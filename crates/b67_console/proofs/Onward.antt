-- The world goes on with the machine.
use Rattle.std.proofs.Common.{arith, ◌≡◌, ap, sym, ◌∙◌, ◌⊎◌, inl, inr, ℕ, suc, ◌+◌, ◌-◌, ◌<◌, ◌≤◌, List, ◌++◌, replicate, Option, Some, append_assoc}
use Rattle.std.proofs.lemmas.Bool.{cases_lt}
use Rattle.algol_tree.specs.Scopes.{Scopes}
use Rattle.algol_meaning.specs.World.{World}
use Rattle.algol_meaning.specs.Run.{run_from, start}
use Rattle.algol_meaning.proofs.Cited.{no_world, run_none, stays_none}
use Rattle.b67_judge.specs.Walked.{GoesAsFar}
use Rattle.b67_judge.proofs.Steps.{run_append}
use Rattle.b67_list.proofs.Numbers.{replicate_parts}
use Rattle.b67_console.specs.Moments.{WorldAfter}

-- ---- the world

module _ (sc : Scopes) (now later : World) (p n times : ℕ) (done more : List ℕ) (after : World) (few : n ≤ times)
    (legal : run_from sc (done ++ (replicate times p ++ more)) (Some (start sc)) ≡ Some after) (w : WorldAfter sc done now)
    (g : GoesAsFar sc w.world n times p later) where
  from_here : run_from sc (replicate times p ++ more) (Some w.world) ≡ Some after
  from_here =
      sym (run_append sc done (replicate times p ++ more) (Some (start sc)) ∙ ap (λ (o : Option World). run_from sc (replicate times p ++ more) o) w.legal) ∙ legal

  -- fewer can't be all
  not_fewer : n < times → ⊥
  not_fewer less =
      no_world
      (sym (ap (λ (k : ℕ). run_from sc (replicate k p ++ more) (Some w.world)) parts
      ∙ ap (λ (xs : List ℕ). run_from sc (xs ++ more) (Some w.world)) (replicate_parts n (suc (times - n - 1)) p)
      ∙ ap (λ (xs : List ℕ). run_from sc xs (Some w.world)) (append_assoc (replicate n p) (replicate (suc (times - n - 1)) p) more)
      ∙ run_append sc (replicate n p) (replicate (suc (times - n - 1)) p ++ more) (Some w.world)
      ∙ ap (λ (o : Option World). run_from sc (replicate (suc (times - n - 1)) p ++ more) o) g.goes.went
      ∙ ap (λ (o : Option World). run_from sc (replicate (times - n - 1) p ++ more) o) (stays_none sc g.goes.after p (g.stays less))
      ∙ run_none sc (replicate (times - n - 1) p ++ more)) ∙ from_here)
    where
      parts : times ≡ n + suc (times - n - 1)
      parts = omega (arith, less)

  all_of : (n < times) ⊎ (times ≤ n) → n ≡ times
  all_of (inl less) = absurd (not_fewer less)
  all_of (inr le) = omega (arith, few, le)

  pub world_goes : WorldAfter sc (done ++ replicate times p) later
  world_goes =
      record {
        world = g.goes.after;
        legal =
            run_append sc done (replicate times p) (Some (start sc)) ∙ ap (λ (o : Option World). run_from sc (replicate times p) o) w.legal
            ∙ ap (λ (k : ℕ). run_from sc (replicate k p) (Some w.world)) (sym (all_of (cases_lt n times))) ∙ g.goes.went;
        beside = g.goes.beside;
      }
