use Rattle.std.proofs.Common.{sym, subst}
use Rattle.b67_plant.specs.declared.taking.PlantLanding.{PlantLanding}
use Rattle.b67_plant.specs.Calls.{LandsOrStays}
use Rattle.b67_plant.proofs.shared.RefSharedPlantShop.land.Goals as goal

pub passed-requires-clause-landed : goal.passed-requires-clause-landed
passed-requires-clause-landed g c = record {
  me = c.args.me;
  stretch = c.args.parcel.now;
  before = c.deref_mut.result.now;
  whose = sym c.process.ensures;
  worked = c.requires.worked;
  landed =
      subst (λ (answer : PlantLanding). LandsOrStays g.N.Named.budget c.args.me c.args.parcel.now c.deref_mut.result.now answer c.land-landing.new.self) c.in-Landed.is
      c.land-landing.ensures.lands;
}
