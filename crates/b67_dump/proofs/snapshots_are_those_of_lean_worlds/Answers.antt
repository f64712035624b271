use Rattle.b67_dump.proofs.Lean.{snapshots_lean}
use Rattle.b67_dump.proofs.snapshots_are_those_of_lean_worlds.Goals as goal

pub returns : goal.returns
returns c = snapshots_lean
