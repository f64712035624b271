use Rattle.std.proofs.Common.{ap, ◌+◌, ◌∙◌, map, take}
use Rattle.algol_cells.specs.SeenCell.{reference}
use Rattle.algol_world.specs.SeenWorld.{world_of}
use Rattle.algol_world.proofs.Several.{joined_one, join_next}
use Rattle.algol_world.proofs.world.World.join_all.Goals as goal

pub joining-preserved : goal.joining-preserved
joining-preserved c =
    let w = world_of c.joining.self in
    let rs = c.args.rs.now in
    let r = c.r-item.result in
    record {
      joined =
          join_next w (world_of c.join.new.self) c.args.number rs c.joining.r-index r _ c.joining-test.true c.r-item.is
          (c.in_ok-join.ensures.joined ∙ ap (λ k. joined_one w c.args.number (map reference (take k rs)) (reference r)) c.joining.invariant.before)
          c.joining.invariant.joined;
      before = ap (λ k. k + 1) c.joining.invariant.before;
      same = c.in_ok-join.ensures.same ∙ c.joining.invariant.same;
    }
