use Rattle.std.proofs.Common.{◌∙◌, refl, arith}
use Rattle.algol_scope.proofs.Looking.{backwards_all, backwards_item, backwards_none, count_all, count_more}
use Rattle.algol_scope.proofs.resolver.Resolver.look_ahead.Goals as goal

pub declarations-init : goal.declarations-init
declarations-init c =
    record {
      back =
          backwards_none c.args.self.now.around.procedures.items c.no_bodies-bodies.result c.args.ds.now _ _ (omega arith) c.new-found.ensures.items
          c.no_bodies-bodies.ensures;
      count = omega (arith, c.new-found.ensures.items);
      innermost = refl;
      outer = refl;
      findings = refl;
      blocks = refl;
    }

pub declarations-preserved : goal.declarations-preserved
declarations-preserved c =
    let i = c.declarations.invariant in
    record {
      back =
          backwards_item c.args.self.now.around.procedures.items c.declarations.self.around.procedures.items c.ahead_of.new.self.around.procedures.items
          c.declarations.bodies c.ahead_of.new.bodies c.args.ds.now c.declarations.at c.index-ds-at.result c.declarations.found.items c.push.new.self.items
          c.in_ok-ahead.ahead c.declarations-test.true c.declarations.auto.at c.index-ds-at.is c.in_ok-push.ensures.items i.back
          c.in_ok-ahead.ensures.more c.in_ok-ahead.ensures.ahead c.in_ok-ahead.ensures.bodies;
      count =
          count_more c.declarations.found.items c.push.new.self.items c.in_ok-ahead.ahead c.declarations.at _ c.declarations-test.true
          c.in_ok-push.ensures.items i.count;
      innermost = c.ahead_of.ensures.innermost ∙ i.innermost;
      outer = c.ahead_of.ensures.outer ∙ i.outer;
      findings = c.ahead_of.ensures.findings ∙ i.findings;
      blocks = c.ahead_of.ensures.blocks ∙ i.blocks;
    }

pub returns-clause-more : goal.returns-clause-more
returns-clause-more c = c.declarations.invariant.back.more

pub returns-clause-ahead : goal.returns-clause-ahead
returns-clause-ahead c =
    backwards_all c.args.self.now.around.procedures.items c.declarations.self.around.procedures.items c.declarations.bodies c.args.ds.now
    c.declarations.at c.declarations.found.items c.reversed.result.items c.declarations-test.false c.reversed.ensures c.declarations.invariant.back

pub returns-clause-count : goal.returns-clause-count
returns-clause-count c =
    count_all c.declarations.found.items c.reversed.result.items c.declarations.at _ c.declarations-test.false c.reversed.ensures
    c.declarations.invariant.count
