use Rattle.std.proofs.Common.{◌≡◌, drop}
use Rattle.algol_tree.specs.declared.refusal.Code.TheVariants as codes
use Rattle.algol_tree.specs.Accepted.{broken, noted_all}
use Rattle.algol_frames.specs.Framing.{beyond_from}
use Rattle.algol_frames.proofs.limits.note_cells.Given as goal

abbrev pub invariant-each : goal.invariant-each
invariant-each l =
    noted_all l.faults.first (broken codes.TooManyCells (beyond_from l.table l.at (drop l.at l.blocks))) ≡
    noted_all l.fn.faults.first (broken codes.TooManyCells (beyond_from l.table 0 l.fn.blocks))
