use Rattle.std.proofs.Common.{◌≡◌, ◌∙◌, refl, ap, arith, ◌+◌}
use Rattle.algol_cells.specs.SeenScope.{scoped}
use Rattle.algol_world.specs.SeenWorld.{world_of}
use Rattle.b67_storing.proofs.Standing.{none_made, one_goes, all_made}
use Rattle.b67_storing.proofs.walking.go_run.Goals as goal

pub going-init : goal.going-init
going-init c = (
  λ w end given left legal s.
      none_made (scoped c.args.world.now.scopes) c.args.commands.now w given (world_of c.args.world.now) c.args.notes.now.items c.args.before c.args.run.now.times c.args.run.now.process left s,
  omega arith,
  refl,
)

pub going-preserved : goal.going-preserved
going-preserved c = (
  λ w end given left legal s.
      one_goes (scoped c.args.world.now.scopes) (scoped c.going.world.scopes) c.args.commands.now w end given (world_of c.going.world) (world_of c.go.new.world) c.going.notes.items
      c.go.new.notes.items c.args.before c.going.made (c.args.before + c.from.result) c.args.run.now.times c.args.run.now.process left (ap scoped c.going.invariant.2)
      (omega (arith, c.from.ensures)) c.going-test.true legal
      (c.going.invariant.0 w end given left legal s) c.in_ok-go.ensures.goes,
  omega (arith, c.going-test.true),
  c.in_ok-go.ensures.same ∙ c.going.invariant.2,
)

pub returns-clause-goes : goal.returns-clause-goes
returns-clause-goes c = λ w end given left legal s.
    let all : c.going.made ≡ c.args.run.now.times = omega (arith, c.going.invariant.1, c.going-test.false) in
    all_made (scoped c.args.world.now.scopes) c.args.commands.now w given (world_of c.going.world) c.going.notes.items c.args.before c.going.made c.args.run.now.times c.args.run.now.process left
    all (c.going.invariant.0 w end given left legal s)
