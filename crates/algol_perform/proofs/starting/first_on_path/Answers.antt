use Rattle.std.proofs.Common.{arith, ◌<◌, ◌≤◌, ◌-◌, ap, sym, ◌∙◌}
use Rattle.algol_meaning.specs.World.{process_at}
use Rattle.algol_world.specs.SeenWorld.{world_of}
use Rattle.algol_perform.specs.Path.{newest_own}
use Rattle.algol_perform.proofs.Paths.{walk, critical_less, path_found, path_ends, path_goes_on}
use Rattle.algol_perform.proofs.starting.first_on_path.Goals as goal

pub returns-then-newest-critical : goal.returns-then-newest-critical
returns-then-newest-critical c =
    let w = world_of c.args.world.now in
    let wanted = c.args.wanted.now in
    let critical = c.critical_below-critical.result in
    let newer : critical < newest_own w c.following.at c.following.below critical wanted =
    omega (arith, c.newest_own-newest.ensures, c.if-newest-critical.true) in
    c.newest_own-newest.ensures
    ∙ sym (path_found w wanted c.following.at c.following.below critical (omega (arith, c.following-test.true)) c.following.invariant.within
    c.critical_below-critical.ensures newer)
    ∙ c.following.invariant.rest

pub returns-then-is_one_of : goal.returns-then-is_one_of
returns-then-is_one_of c =
    let w = world_of c.args.world.now in
    let wanted = c.args.wanted.now in
    let critical = c.critical_below-critical.result in
    let none : newest_own w c.following.at c.following.below critical wanted ≤ critical =
    omega (arith, c.newest_own-newest.ensures, c.if-newest-critical.false) in
    sym (path_ends w wanted c.following.at c.following.below critical (omega (arith, c.following-test.true)) c.following.invariant.within
    c.critical_below-critical.ensures none (sym c.is_one_of.ensures ∙ c.if-is_one_of.true))
    ∙ c.following.invariant.rest

pub following-preserved : goal.following-preserved
following-preserved c =
    let w = world_of c.args.world.now in
    let wanted = c.args.wanted.now in
    let critical = c.critical_below-critical.result in
    let some : 0 < c.following.below = omega (arith, c.following-test.true) in
    let none : newest_own w c.following.at c.following.below critical wanted ≤ critical =
    omega (arith, c.newest_own-newest.ensures, c.if-newest-critical.false) in
    let less : critical < c.following.below =
    critical_less ((process_at w c.following.at).critical) c.following.below critical c.critical_below-critical.ensures some in
    record {
      rest =
          ap (walk w wanted (critical - 1)) c.stack_of-at.ensures
          ∙ sym (path_goes_on w wanted c.following.at c.following.below critical some c.following.invariant.within
          c.critical_below-critical.ensures none (sym c.is_one_of.ensures ∙ c.if-is_one_of.false))
          ∙ c.following.invariant.rest;
      within = omega (arith, less, c.following.invariant.within);
    }
