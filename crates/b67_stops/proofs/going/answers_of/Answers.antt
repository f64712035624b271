use Rattle.std.proofs.Common.{arith, ◌≡◌, subst, ap, ℕ, ◌+◌, List, [], drop, drop_of_length-le}
use Rattle.b67_schedule.specs.declared.Run.{Run}
use Rattle.b67_schedule.specs.Schedules.{entries}
use Rattle.b67_schedule.proofs.Cited.{entries_drop}
use Rattle.b67_stops.specs.Answering.{IsAt}
use Rattle.b67_stops.proofs.Onward.{ends}
use Rattle.b67_stops.proofs.going.answers_of.Goals as goal

pub go_run-requires-clause-here : goal.go_run-requires-clause-here
go_run-requires-clause-here g c =
    let w = g.W.Walker in
    let v = c.runs.walker in
    let none : Run = record { process = 0; times = 0 } in
    let rest = entries (drop (c.runs.run-index + 1) c.args.runs.now) in (
      entries c.args.runs.now,
      rest,
      subst (λ (xs : List ℕ). IsAt (w.stands v) (w.goes v) (w.answers v) (w.done v) (entries c.args.runs.now) xs c.args.commands.now c.args.at.now c.runs.stop.k c.runs.stop.next c.runs.texts.items)
          (entries_drop c.args.runs.now c.runs.run-index none c.runs-test.true) c.runs.invariant.0,
    )

pub runs-preserved : goal.runs-preserved
runs-preserved g c =
    let w = g.W.Walker in
    let v = c.runs.walker in
    let none : Run = record { process = 0; times = 0 } in
    let rest = entries (drop (c.runs.run-index + 1) c.args.runs.now) in (
      c.in_ok-go_run.ensures.there (entries c.args.runs.now) rest
          (subst (λ (xs : List ℕ). IsAt (w.stands v) (w.goes v) (w.answers v) (w.done v) (entries c.args.runs.now) xs c.args.commands.now c.args.at.now c.runs.stop.k c.runs.stop.next c.runs.texts.items)
          (entries_drop c.args.runs.now c.runs.run-index none c.runs-test.true) c.runs.invariant.0),
      λ h k t x. c.runs.invariant.1 h k t (c.in_ok-go_run.ensures.back h k t x),
    )

pub returns : goal.returns
returns g c =
    let w = g.W.Walker in
    let v = c.runs.walker in
    let left = entries (drop c.runs.run-index c.args.runs.now) in
    let none : left ≡ [] = ap entries (drop_of_length-le c.args.runs.now (omega (arith, c.runs-test.false))) in
    ends (w.stands v) (w.goes v) (w.answers v) (w.answers c.args.walker.now) (w.done v) (entries c.args.runs.now) left c.args.commands.now c.args.at.now c.runs.stop.k c.runs.stop.next c.runs.texts.items
    none c.requires.within c.runs.invariant.1 c.runs.invariant.0
