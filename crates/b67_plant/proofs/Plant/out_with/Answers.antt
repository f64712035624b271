use Rattle.std.proofs.Common.{ap, subst, arith}
use Rattle.b67_stands.specs.Running.{Running}
use Rattle.b67_stands.specs.Stands.{Stands}
use Rattle.b67_plant.proofs.Sharing.{nobody}
use Rattle.b67_plant.proofs.Plant.out_with.Goals as goal

pub returns-clause-free : goal.returns-clause-free
returns-clause-free g c =
    let now = c.args.self.now in
    let started = ap (λ (s : Running). s.machine.image.started) c.self.view_is in
    λ none. nobody g.N.Named.code g.N.Named.budget now c.args.me (subst (Stands g.N.Named.code g.N.Named.budget) c.self.view_is c.self.invariant.0) c.requires.going c.requires.me
    (λ q one most. c.processes.invariant q one (omega (arith, most, started, c.started-before-end.ensures, c.processes-test.false)))
