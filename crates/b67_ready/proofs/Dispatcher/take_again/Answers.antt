use Rattle.std.specs.VecDeque.{deque_capacity}
use Rattle.std.proofs.Common.{◌≡◌, ℕ, sym, ap, subst, arith}
use Rattle.b67_ready.specs.Ready.{Ready, TakesAgain, counted_times}
use Rattle.b67_ready.proofs.Again.{taken_again, counted_most}
use Rattle.b67_ready.proofs.Dispatcher.take_again.Goals as goal

pub returns-clause-counted : goal.returns-clause-counted
returns-clause-counted g c =
    let takes : c.saturating_add-self-inside.result ≡ counted_times c.args.times c.self.inside.takes =
    let counted = counted_most c.args.times c.self.inside.takes (omega arith) in
    omega (arith, counted, c.saturating_add-self-inside.ensures, c.from.ensures) in
    subst (λ (s : Ready g.row.P.Denot). record {
      rule = c.self.inside.rule;
      waiting = c.self.inside.waiting.items;
      takes = c.saturating_add-self-inside.result;
      room = deque_capacity c.self.inside.waiting;
    } ≡ record s { takes = counted_times c.args.times s.takes }) c.self.view_is (ap (λ (n : ℕ). record {
      rule = c.self.inside.rule;
      waiting = c.self.inside.waiting.items;
      takes = n;
      room = deque_capacity c.self.inside.waiting;
    }) takes)

pub returns-clause-again : goal.returns-clause-again
returns-clause-again g c = λ process.
    subst (TakesAgain g.P.Rule.pick process c.args.self.now c.args.times) (sym (returns-clause-counted g c))
    (taken_again g.P.Rule.pick g.met.P.Rule.within process c.args.times c.args.self.now c.requires)
