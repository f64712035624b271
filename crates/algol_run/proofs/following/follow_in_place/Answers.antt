use Rattle.std.proofs.Common.{arith, ◌≡◌, ◌⊎◌, inl, inr, ◌+◌, ℕ, Some, ap, ◌∙◌}
use Rattle.algol_meaning.specs.World.{World}
use Rattle.algol_world.specs.SeenWorld.{world_of}
use Rattle.algol_run.specs.Stepping.{told_step}
use Rattle.algol_world.specs.declared.acted.Acted.{Acted}
use Rattle.algol_run.specs.declared.stepping.Stepped.{Stepped}
use Rattle.algol_run.specs.declared.stepping.Stepped.TheVariants.{Went, Ended}
use Rattle.algol_run.proofs.Entries.{entered, entry_more}
use Rattle.algol_run.proofs.following.follow_in_place.Goals as goal

pub returns-in-NotAble-clause-most : goal.returns-in-NotAble-clause-most
returns-in-NotAble-clause-most c = λ less.
    let u = world_of c.step_in_place.new.world in
    entry_more c.args.world.now.scopes c.going.world.scopes c.args.schedule.now c.going.went c.going.process-index (world_of c.args.world.now)
    (world_of c.going.world) (told_step c.in_ok-step_in_place.field-0 u) c.going.invariant.3 c.going.invariant.1 c.going-test.true c.going.invariant.0
    c.in_ok-step_in_place.ensures.stepped
    ∙ ap (λ (s : Stepped). entered (told_step s u)) c.in-NotAble.is

-- a step that goes is told with the world after it, whether that has an end or not
gone_on : (s : Stepped) (u : World) → ((a : Acted) × (s ≡ Went a)) ⊎ ((a : Acted) × (s ≡ Ended a)) → entered (told_step s u) ≡ Some u
gone_on s u (inl (a, is)) = ap (λ (s : Stepped). entered (told_step s u)) is
gone_on s u (inr (a, is)) = ap (λ (s : Stepped). entered (told_step s u)) is

pub going-preserved : goal.going-preserved
going-preserved c =
    let u = world_of c.step_in_place.new.world in
    let at = c.going.invariant.1 in
    let less = c.going-test.true in (
      entry_more c.args.world.now.scopes c.going.world.scopes c.args.schedule.now c.going.went c.going.process-index (world_of c.args.world.now)
          (world_of c.going.world) (told_step c.in_ok-step_in_place.field-0 u) c.going.invariant.3 at less c.going.invariant.0 c.in_ok-step_in_place.ensures.stepped
          ∙ gone_on c.in_ok-step_in_place.field-0 u c.in-Went.is,
      ap (λ (n : ℕ). n + 1) at,
      omega (arith, at, less),
      c.step_in_place.ensures.same ∙ c.going.invariant.3,
    )
