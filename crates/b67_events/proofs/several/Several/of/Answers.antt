use Rattle.std.proofs.Common.{◌<◌, ◌∙◌, length, arith}
use Rattle.std.proofs.lemmas.List.{length-set}
use Rattle.b67_events.proofs.OfSeveral.{taken_more}
use Rattle.b67_events.proofs.several.Several.of.Goals as goal

pub naming-preserved : goal.naming-preserved
naming-preserved c =
    let places = c.naming.places in
    let at = c.args.at.now in
    let i = c.naming.index in
    let within : i < length at = c.naming-test.true in
    let short : i < length places = omega (arith, within, c.requires, c.naming.invariant.long) in
    record {
      long = length-set places i _ ∙ c.naming.invariant.long;
      named = taken_more places at i _ short within c.naming.invariant.named;
    }
