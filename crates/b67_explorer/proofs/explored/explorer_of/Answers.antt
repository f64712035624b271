use Rattle.b67_explorer.proofs.Performed.{segments_short}
use Rattle.b67_explorer.proofs.explored.explorer_of.Goals as goal

pub load-requires-clause-segments : goal.load-requires-clause-segments
load-requires-clause-segments c = segments_short c.args.code c.requires.faithful.1.listable
