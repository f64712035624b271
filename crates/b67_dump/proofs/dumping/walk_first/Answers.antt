use Rattle.std.proofs.Common.{rules, arith, ◌≡◌, sym, ap, ◌∙◌, subst, ℕ, ◌+◌, ◌-◌, drop, take}
use Rattle.std.proofs.lemmas.List.{drop_all}
use Rattle.algol_cells.specs.SeenScope.{scoped}
use Rattle.algol_world.specs.SeenWorld.{world_of}
use Rattle.b67_schedule.specs.declared.Run.{Run}
use Rattle.b67_schedule.specs.Schedules.{entries}
use Rattle.b67_judge.specs.Walked.{WalksBeside}
use Rattle.b67_judge.specs.declared.walking.Walked.TheVariants.{Stopped}
use Rattle.b67_dump.proofs.Walks.{FirstBeside, first_beside, first_more, first_stops, first_whole}
use Rattle.b67_dump.proofs.dumping.walk_first.Goals as goal

pub runs-init : goal.runs-init
runs-init c = record {
  walks = λ w b. first_beside (scoped c.args.world.now.scopes) c.args.most c.args.runs.now w (world_of c.args.world.now) b;
  same = search rules;
  within = omega arith;
}

pub returns-then-went-times-clause-walked : goal.returns-then-went-times-clause-walked
returns-then-went-times-clause-walked c = λ w b.
    let none : Run = record { process = 0; times = 0 } in
    let counted : c.from.result ≡ c.in_ok-went.went = search rules in
    subst (λ (k : ℕ). WalksBeside (scoped c.args.world.now.scopes) (take c.args.most (entries c.args.runs.now)) w (world_of c.go_on.new.world) (Stopped (c.args.most - c.runs.left + k + 1))) (sym counted)
    (first_stops (scoped c.args.world.now.scopes) (scoped c.runs.world.scopes) c.args.most c.args.runs.now c.runs.run-index none w (world_of c.runs.world) (world_of c.go_on.new.world)
    c.runs.left c.lesser-times.result c.in_ok-went.went c.runs-test.true (ap scoped c.runs.invariant.same) c.runs.invariant.within (c.runs.invariant.walks w b)
    c.lesser-times.ensures c.in_ok-went.ensures.went c.if-went-times.true)

pub runs-preserved : goal.runs-preserved
runs-preserved c =
    let none : Run = record { process = 0; times = 0 } in
    let counted : c.from-left.result ≡ c.lesser-times.result = search rules in
    record {
      walks = λ w b.
          subst (λ (k : ℕ). FirstBeside (scoped c.args.world.now.scopes) c.args.most c.args.runs.now w (world_of c.go_on.new.world) (c.runs.left - k) (drop (c.runs.run-index + 1) c.args.runs.now)) (sym counted)
          (first_more (scoped c.args.world.now.scopes) (scoped c.runs.world.scopes) c.args.most c.args.runs.now c.runs.run-index none w (world_of c.runs.world) (world_of c.go_on.new.world)
          c.runs.left c.lesser-times.result c.in_ok-went.went c.runs-test.true (ap scoped c.runs.invariant.same) c.runs.invariant.within (c.runs.invariant.walks w b)
          c.lesser-times.ensures c.in_ok-went.ensures.went c.in_ok-went.ensures.within c.if-went-times.false);
      same = c.in_ok-went.ensures.same ∙ c.runs.invariant.same;
      within = omega arith;
    }

pub returns-clause-walked : goal.returns-clause-walked
returns-clause-walked c = λ w b.
    first_whole (scoped c.args.world.now.scopes) c.args.most c.args.runs.now w (world_of c.runs.world) c.runs.left (drop c.runs.run-index c.args.runs.now)
    (drop_all c.runs.run-index c.args.runs.now c.runs-test.false) (c.runs.invariant.walks w b)
