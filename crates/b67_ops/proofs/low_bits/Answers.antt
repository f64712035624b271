use Rattle.std.proofs.lemmas.Nat.{and_mask, one_shl}
use Rattle.b67_ops.proofs.low_bits.Goals as goal

pub returns : goal.returns
returns c = rw (one_shl c.args.count 16 c.requires) (and_mask c.args.n c.args.count)
