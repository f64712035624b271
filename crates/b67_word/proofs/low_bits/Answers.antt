use Rattle.std.proofs.lemmas.Nat.{and_mask, one_shl}
use Rattle.b67_word.proofs.low_bits.Goals as goal

pub returns-clause-value : goal.returns-clause-value
returns-clause-value c = rw (one_shl c.args.count 64 c.requires) (and_mask c.args.value c.args.count)
