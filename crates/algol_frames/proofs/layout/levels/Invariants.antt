use Rattle.std.proofs.Common.{◌≡◌, ◌++◌, drop}
use Rattle.algol_frames.specs.Laying.{levels_of}
use Rattle.algol_frames.proofs.layout.levels.Given as goal

abbrev pub invariant-each : goal.invariant-each
invariant-each l = l.levels.items ++ levels_of (drop l.block-index l.blocks) ≡ levels_of l.blocks
