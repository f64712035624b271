use Rattle.std.proofs.Common.{drop}
use Rattle.algol_tree.specs.Image.{decls}
use Rattle.algol_check.proofs.Bodies.{bodies_back, found_back}
use Rattle.algol_check.proofs.announced.announced.Goals as goal

pub declarations-preserved : goal.declarations-preserved
declarations-preserved c =
    let ds = c.args.decls.now in
    let d = c.index-decls-at.result in
    let at = c.declarations.at in (
      bodies_back ds at d c.declarations.bodies c.announce.new.bodies c.declarations-test.true c.declarations.auto.at c.index-decls-at.is c.in_ok-body.ensures.bodies
          c.declarations.invariant.0,
      found_back ds at d c.in_ok-body.body c.declarations.found.items c.push.new.self.items c.declarations-test.true c.declarations.auto.at c.index-decls-at.is
          (c.in_ok-body.ensures.found (decls (drop at ds)) c.declarations.invariant.0) c.in_ok-push.ensures.items c.declarations.invariant.1,
    )
