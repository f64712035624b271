use Rattle.algol_frames.specs.ByLine.{placed_in}
use Rattle.algol_frames.specs.Laying.{framed_in}
use Rattle.algol_frames.proofs.Laid.{placed_use}
use Rattle.algol_frames.proofs.layout.declared.Goals as goal

pub uses-preserved : goal.uses-preserved
uses-preserved c =
    record {
      declared = c.in_ok-add.ensures.declared;
      placed = λ q.
          placed_use (framed_in c.args.frames.now) c.args.uses.now c.uses.found-index c.found-item.result c.couple_in.result q (placed_in c.uses.declared q) (placed_in c.add.new.self q) c.uses-test.true c.found-item.is
          c.couple_in.ensures (c.in_ok-add.ensures.placed q) (c.uses.invariant.placed q);
    }
