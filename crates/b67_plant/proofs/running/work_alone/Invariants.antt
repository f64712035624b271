use Rattle.b67_stands.specs.Alone.{ByOne}
use Rattle.b67_plant.proofs.Turning.{left_of}
use Rattle.b67_plant.proofs.running.work_alone.Given as goal

abbrev pub invariant-turns : goal.invariant-turns
invariant-turns g l = ByOne g.N.Named.code g.N.Named.budget g.N.Named.pick l.plant

abbrev pub decreases-turns : goal.decreases-turns
decreases-turns g l = left_of g.N.Named.budget l.plant
