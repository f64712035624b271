use Rattle.std.proofs.Common.{◌≡◌, ℕ, ◌<◌, length}
use Rattle.algol_tree.specs.declared.token.Spot.{Spot}
use Rattle.algol_frames.specs.Laying.{framed_in, laid_in}
use Rattle.algol_frames.proofs.layout.frames_of.Given as goal

abbrev pub invariant-each : goal.invariant-each
invariant-each l =
    record {
      count : length l.frames.items ≡ l.at;
      framed : (q : ℕ) (spot : Spot) → q < l.at → framed_in l.frames.items q spot ≡ laid_in l.blocks l.cells q spot;
    }
