use Rattle.std.specs.Prelude.{IfErr}
use Rattle.std.proofs.Common.{◌≡◌, sym, ap, subst, ◌∙◌, inr, ℕ, suc, ◌-◌, List, [], ◌∷◌, ◌++◌, Option, Result, Ok, Err, arith}
use Rattle.b67_exec.specs.declared.Stopped.{Stopped}
use Rattle.b67_exec.specs.Turning.{Turned}
use Rattle.b67_exec.proofs.Running.{begins, ends, spent, stops_there, lacks_there, goes_there, counts_small, told_none}
use Rattle.b67_exec.proofs.exec.Goals as goal

if_err : {A E : Type 0} (r : Result A E) (X : Type 0) → X → IfErr r (λ e. X)
if_err (Ok a) X x = tt
if_err (Err e) X x = x

pub turns-init : goal.turns-init
turns-init g c = (
  begins c.args.machine.now c.args.budget c.put.new.self.waiting c.requires.fresh
      (c.put.ensures.waiting ∙ ap (λ (xs : List ℕ). xs ++ 1 ∷ []) c.in_ok-ready.ensures.empty.0),
  c.put.ensures.rule ∙ c.in_ok-ready.ensures.rule,
  omega (arith, c.put.ensures.room, c.in_ok-ready.ensures.room),
)

pub returns-in-Some-clause-ran : goal.returns-in-Some-clause-ran
returns-in-Some-clause-ran g c =
    ends c.args.machine.now.code c.args.budget c.turns.left c.turns.machine c.turns.ready.waiting c.turns.invariant.0 c.in-Some.why (sym c.end_of.ensures ∙ c.in-Some.is)

pub returns-then-left-eq0-clause-ran : goal.returns-then-left-eq0-clause-ran
returns-then-left-eq0-clause-ran g c =
    spent c.args.machine.now.code c.args.budget c.turns.left c.turns.machine c.turns.ready.waiting c.turns.invariant.0
    (told_none _ (sym c.end_of.ensures ∙ c.in_default.is)) c.if-left-eq0.true

pub turn-requires-clause-counts : goal.turn-requires-clause-counts
turn-requires-clause-counts g c = λ p.
    let few = counts_small c.args.machine.now.code c.args.budget c.turns.left c.turns.machine c.turns.ready.waiting c.turns.invariant.0 p in
    omega (arith, few, c.ranges.budget.fits)

pub returns-in_err-why-clause-lacks : goal.returns-in_err-why-clause-lacks
returns-in_err-why-clause-lacks g c =
    let some : c.turns.left ≡ suc (c.turns.left - 1) = omega (arith, c.if-left-eq0.false) in
    if_err c.from_residual-in_err-why.result _
    (inr (lacks_there c.args.machine.now.code c.args.budget c.turns.left c.turns.machine c.turns.ready.waiting c.turns.invariant.0
    (told_none _ (sym c.end_of.ensures ∙ c.in_default.is)) c.turn.new.machine c.turn.new.ready.waiting (c.turns.left - 1) some c.in_err-why.ensures.turned))

pub returns-in-Some-2-clause-ran : goal.returns-in-Some-2-clause-ran
returns-in-Some-2-clause-ran g c =
    let some : c.turns.left ≡ suc (c.turns.left - 1) = omega (arith, c.if-left-eq0.false) in
    stops_there c.args.machine.now.code c.args.budget c.turns.left c.turns.machine c.turns.ready.waiting c.turns.invariant.0
    (told_none _ (sym c.end_of.ensures ∙ c.in_default.is)) c.turn.new.machine c.turn.new.ready.waiting (c.turns.left - 1) some c.in-Some-2.why
    (subst (λ (o : Option Stopped). Turned c.turns.machine c.turns.ready.waiting (Ok o) c.turn.new.machine c.turn.new.ready.waiting) c.in-Some-2.is
    c.in_ok-why.ensures.turned)

pub turns-preserved : goal.turns-preserved
turns-preserved g c =
    let some : c.turns.left ≡ suc (c.turns.left - 1) = omega (arith, c.if-left-eq0.false) in (
      goes_there c.args.machine.now.code c.args.budget c.turns.left c.turns.machine c.turns.ready.waiting c.turns.invariant.0
          (told_none _ (sym c.end_of.ensures ∙ c.in_default.is)) c.turn.new.machine c.turn.new.ready.waiting (c.turns.left - 1) some
          (subst (λ (o : Option Stopped). Turned c.turns.machine c.turns.ready.waiting (Ok o) c.turn.new.machine c.turn.new.ready.waiting) c.in_default-2.is
          c.in_ok-why.ensures.turned),
      c.turn.ensures.rule ∙ c.turns.invariant.1,
      omega (arith, c.turn.ensures.room, c.turns.invariant.2),
    )
