use Rattle.std.proofs.Common.{arith}
use Rattle.examples.proofs.rules.push_run.Goals as goal

pub index_mut-requires : goal.index_mut-requires
index_mut-requires g c = omega (arith, c.in_ok-plant.ensures.posts, c.new.new.posts.ok.0)
