use Rattle.std.proofs.Common.{arith, rules, ◌≡◌, sym, ap, ◌∙◌, subst, ℕ, ◌+◌, length, drop}
use Rattle.algol_cells.specs.SeenScope.{scoped}
use Rattle.algol_world.specs.SeenWorld.{world_of}
use Rattle.b67_schedule.specs.declared.Run.{Run}
use Rattle.b67_schedule.specs.Schedules.{entries}
use Rattle.b67_judge.specs.Walked.{WalksBeside}
use Rattle.b67_judge.specs.declared.walking.Walked.TheVariants.{Stopped}
use Rattle.b67_judge.proofs.Beside.{StandsBeside, walk_beside, stops_beside, count_more, count_within, count_below}
use Rattle.b67_judge.proofs.walking.walk.Goals as goal

pub returns-then-went-run-clause-walked : goal.returns-then-went-run-clause-walked
returns-then-went-run-clause-walked c = λ w b.
    let none : Run = record { process = 0; times = 0 } in
    let items = c.runs-run-items.result.now in
    let counted : c.from-before.result ≡ c.in_ok-went.went = search rules in
    subst (λ (k : ℕ). WalksBeside (scoped c.args.world.now.scopes) (entries c.args.schedule.now.runs) w (world_of c.go_on.new.world) (Stopped (c.runs.before + k + 1))) (sym counted)
    (stops_beside (scoped c.args.world.now.scopes) (scoped c.runs.world.scopes) c.args.schedule.now.runs items c.runs.run-index none w (world_of c.runs.world)
    (world_of c.go_on.new.world) c.runs.before c.in_ok-went.went c.runs-run-items.ensures.value c.runs-test.true (ap scoped c.runs.invariant.1) (c.runs.invariant.0 w b)
    c.in_ok-went.ensures.went c.if-went-run.true)

pub runs-preserved : goal.runs-preserved
runs-preserved c =
    let none : Run = record { process = 0; times = 0 } in
    let items = c.runs-run-items.result.now in
    let counted : c.from-before.result ≡ c.in_ok-went.went = search rules in (
      λ w b.
          subst (λ (k : ℕ). StandsBeside (scoped c.args.world.now.scopes) (entries c.args.schedule.now.runs) w (world_of c.go_on.new.world) (c.runs.before + k)
          (entries (drop (c.runs.run-index + 1) c.args.schedule.now.runs))) (sym counted)
          (walk_beside (scoped c.args.world.now.scopes) (scoped c.runs.world.scopes) c.args.schedule.now.runs items c.runs.run-index none w (world_of c.runs.world)
          (world_of c.go_on.new.world) c.runs.before c.in_ok-went.went c.runs-run-items.ensures.value c.runs-test.true (ap scoped c.runs.invariant.1) (c.runs.invariant.0 w b)
          c.in_ok-went.ensures.went c.in_ok-went.ensures.within c.if-went-run.false),
      c.in_ok-went.ensures.same ∙ c.runs.invariant.1,
      subst (λ (k : ℕ). c.runs.before + k + length (entries (drop (c.runs.run-index + 1) c.args.schedule.now.runs)) ≡ length (entries c.args.schedule.now.runs)) (sym counted)
          (count_more c.args.schedule.now.runs items c.runs.run-index none c.runs.before c.in_ok-went.went (length (entries c.args.schedule.now.runs)) c.runs-run-items.ensures.value
          c.runs-test.true c.runs.invariant.2 c.in_ok-went.ensures.within c.if-went-run.false),
    )

pub overflow_add-before : goal.overflow_add-before
overflow_add-before c =
    let none : Run = record { process = 0; times = 0 } in
    let within = count_within c.args.schedule.now.runs c.runs-run-items.result.now c.runs.run-index none c.runs.before c.in_ok-went.went (length (entries c.args.schedule.now.runs))
    c.runs-run-items.ensures.value c.runs-test.true c.runs.invariant.2 c.in_ok-went.ensures.within in
    omega (arith, within, c.from-before.ensures, c.len-most.ensures)

pub overflow_add-result : goal.overflow_add-result
overflow_add-result c =
    let none : Run = record { process = 0; times = 0 } in
    let below = count_below c.args.schedule.now.runs c.runs-run-items.result.now c.runs.run-index none c.runs.before c.in_ok-went.went (length (entries c.args.schedule.now.runs))
    c.runs-run-items.ensures.value c.runs-test.true c.runs.invariant.2 c.if-went-run.true in
    omega (arith, below, c.from-before.ensures, c.len-most.ensures)
