use Rattle.std.proofs.Common.{◌≡◌, ◌++◌, drop}
use Rattle.std.specs.List.{flat_map}
use Rattle.algol_frames.specs.Framing.{procedure_place}
use Rattle.algol_frames.proofs.limits.note_procedures.Given as goal

abbrev pub invariant-procedures : goal.invariant-procedures
invariant-procedures l = l.spots.items ++ flat_map procedure_place (drop l.block-index l.blocks) ≡ flat_map procedure_place l.fn.blocks
