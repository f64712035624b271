use Rattle.std.proofs.Common.{arith}
use Rattle.b67_parcel.proofs.Stretching.{none_fetched}
use Rattle.b67_parcel.proofs.fetching.Ahead.new.Goals as goal

pub invariant_of-result : goal.invariant_of-result
invariant_of-result g c = (none_fetched g.N.Named.code c.in_ok-part.part (c.first_image_is_valid.ensures g.N.Named.code c.requires) c.in_ok-part.ensures, omega arith)
