use Rattle.std.proofs.Common.{◌≡◌, drop}
use Rattle.std.specs.List.{flat_map}
use Rattle.algol_tree.specs.declared.refusal.Code.TheVariants as codes
use Rattle.algol_tree.specs.Accepted.{broken, noted_all}
use Rattle.algol_frames.specs.Framing.{deep_place}
use Rattle.algol_frames.proofs.limits.note_levels.Given as goal

abbrev pub invariant-each : goal.invariant-each
invariant-each l =
    noted_all l.faults.first (broken codes.TooManyLevels (flat_map deep_place (drop l.block-index l.blocks))) ≡
    noted_all l.fn.faults.first (broken codes.TooManyLevels (flat_map deep_place l.fn.blocks))
