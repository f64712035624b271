use Rattle.std.proofs.lemmas.Map.Lookups.{btree_map_eq-Decides}
use Rattle.b67_events.proofs.Same.{place_decides, flags_decides}
use Rattle.b67_events.proofs.again.same_flags.Goals as goal

pub returns : goal.returns
returns c = λ h. (btree_map_eq-Decides place_decides flags_decides c.args.ours.now c.args.theirs.now c.eq.result c.eq.ensures).0 h
