use Rattle.std.proofs.Common.{◌≡◌, drop}
use Rattle.std.specs.Option.{option_or}
use Rattle.algol_tree.specs.declared.token.Spot.{Spot}
use Rattle.algol_frames.specs.ByLine.{AreOfDeclared, placed_in}
use Rattle.algol_frames.specs.Laying.{declared_from, framed_in}
use Rattle.algol_frames.proofs.layout.declared.Given as goal

abbrev pub invariant-uses : goal.invariant-uses
invariant-uses l =
    record {
      declared : AreOfDeclared l.declared;
      placed :
          (q : Spot) → option_or (placed_in l.declared q) (declared_from (framed_in l.frames) (drop l.found-index l.uses) q) ≡
          declared_from (framed_in l.frames) l.uses q;
    }
