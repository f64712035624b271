use Rattle.std.proofs.Common.{arith, ◌≡◌, subst, ℕ, ◌+◌, ◌++◌, replicate}
use Rattle.b67_stops.specs.Answering.{IsAt}
use Rattle.b67_stops.proofs.Onward.{may_go, within, goes_on, stops}
use Rattle.b67_stops.proofs.going.go_run.Goals as goal

pub overflow_sub-stop : goal.overflow_sub-stop
overflow_sub-stop g c =
    let h = c.requires.here in
    let now = c.stops.invariant.0 h.0 h.1 h.2 in omega (arith, now.above)

pub go-requires-clause-stands : goal.go-requires-clause-stands
go-requires-clause-stands g c =
    let h = c.requires.here in
    let now = c.stops.invariant.0 h.0 h.1 h.2 in now.stands

pub go-requires-clause-goes : goal.go-requires-clause-goes
go-requires-clause-goes g c =
    let h = c.requires.here in
    let w = g.W.Walker in
    let v = c.stops.walker in
    may_go (w.stands v) (w.stands v) (w.goes v) (w.goes v) (w.answers v) (w.answers v) (w.done v) (w.done v) h.0 h.1 c.args.run.now.process c.stops.left c.lesser-times.result c.args.commands.now c.args.at.now
    c.stops.stop.k c.stops.stop.next c.stops.texts.items (c.stops.invariant.0 h.0 h.1 h.2) c.lesser-times.ensures

pub tell_here-requires-clause-texts : goal.tell_here-requires-clause-texts
tell_here-requires-clause-texts g c =
    let h = c.requires.here in
    let now = c.stops.invariant.0 h.0 h.1 h.2 in now.places

pub next_stop-stop-requires : goal.next_stop-stop-requires
next_stop-stop-requires g c =
    let h = c.requires.here in
    let w = g.W.Walker in
    let v = c.stops.walker in
    let u = c.go.new.self in
    omega (
      arith,
      c.from.ensures,
      within (w.stands v) (w.stands u) (w.goes v) (w.goes u) (w.answers v) (w.answers u) (w.done v) (w.done u) h.0 h.1 c.args.run.now.process c.stops.left c.lesser-times.result
          c.args.commands.now c.args.at.now c.stops.stop.k c.stops.stop.next c.stops.texts.items (c.stops.invariant.0 h.0 h.1 h.2) c.lesser-times.ensures c.in_ok-go.ensures.stands
          c.in_ok-go.ensures.goes c.in_ok-go.ensures.kept c.in_ok-go.ensures.done,
    )

pub stops-smaller-then-stop : goal.stops-smaller-then-stop
stops-smaller-then-stop g c =
    let h = c.requires.here in
    let now = c.stops.invariant.0 h.0 h.1 h.2 in omega (arith, now.above, c.lesser-times.ensures, c.stops-test.true)

pub stops-smaller : goal.stops-smaller
stops-smaller g c =
    let h = c.requires.here in
    let now = c.stops.invariant.0 h.0 h.1 h.2 in omega (arith, now.above, c.lesser-times.ensures, c.stops-test.true)

pub stops-preserved-then-stop : goal.stops-preserved-then-stop
stops-preserved-then-stop g c =
    let w = g.W.Walker in
    let v = c.stops.walker in
    let u = c.go.new.self in (
      λ given rest s.
          stops (w.stands v) (w.stands u) (w.goes v) (w.goes u) (w.answers v) (w.answers u) (w.done v) (w.done u) given rest c.args.run.now.process c.stops.left c.lesser-times.result
          c.args.commands.now c.args.at.now c.stops.stop.k c.stops.stop.next c.stops.texts.items (c.stops.invariant.0 given rest s) c.lesser-times.ensures c.in_ok-go.ensures.stands
          c.in_ok-go.ensures.goes c.in_ok-go.ensures.kept c.in_ok-go.ensures.done c.tell_here.new.texts.items (c.stops.stop.k + c.from.result) c.next_stop-stop.result
          (omega (arith, c.from.ensures)) (omega (arith, c.if-stop.true)) c.in_ok-tell_here.ensures c.next_stop-stop.ensures,
      λ h k t x. c.stops.invariant.1 h k t (c.in_ok-go.ensures.back h k t x),
    )

pub stops-preserved : goal.stops-preserved
stops-preserved g c =
    let w = g.W.Walker in
    let v = c.stops.walker in
    let u = c.go.new.self in (
      λ given rest s.
          goes_on (w.stands v) (w.stands u) (w.goes v) (w.goes u) (w.answers v) (w.answers u) (w.done v) (w.done u) given rest c.args.run.now.process c.stops.left c.lesser-times.result
          c.args.commands.now c.args.at.now c.stops.stop.k c.stops.stop.next c.stops.texts.items (c.stops.invariant.0 given rest s) c.lesser-times.ensures c.in_ok-go.ensures.stands
          c.in_ok-go.ensures.goes c.in_ok-go.ensures.kept c.in_ok-go.ensures.done (c.stops.stop.k + c.from.result) (omega (arith, c.from.ensures)) c.if-stop.false,
      λ h k t x. c.stops.invariant.1 h k t (c.in_ok-go.ensures.back h k t x),
    )

pub returns-clause-there : goal.returns-clause-there
returns-clause-there g c = λ given left s.
    let w = g.W.Walker in
    let v = c.stops.walker in
    let none : c.stops.left ≡ 0 = omega (arith, c.stops-test.false) in
    subst (λ (n : ℕ). IsAt (w.stands v) (w.goes v) (w.answers v) (w.done v) given (replicate n c.args.run.now.process ++ left) c.args.commands.now c.args.at.now c.stops.stop.k c.stops.stop.next c.stops.texts.items)
    none (c.stops.invariant.0 given left s)
