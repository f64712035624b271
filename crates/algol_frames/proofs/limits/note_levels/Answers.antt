use Rattle.std.proofs.Common.{drop}
use Rattle.std.proofs.lemmas.List.{drop_all}
use Rattle.algol_tree.specs.declared.refusal.Code.TheVariants as codes
use Rattle.algol_frames.specs.Framing.{deep_place}
use Rattle.algol_frames.proofs.Noting.{note_end}
use Rattle.algol_frames.proofs.limits.note_levels.Goals as goal

pub returns : goal.returns
returns c =
    note_end codes.TooManyLevels deep_place (drop c.each.block-index c.args.blocks.now) c.each.faults.first _
    (drop_all c.each.block-index c.args.blocks.now c.each-test.false) c.each.invariant
