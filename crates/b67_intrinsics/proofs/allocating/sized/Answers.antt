use Rattle.std.proofs.Common.{◌∙◌, ap, sym, drop}
use Rattle.b67_table.specs.Intrinsics.{extents}
use Rattle.b67_table.specs.Program.{asked}
use Rattle.b67_reach.specs.declared.Stop.{Stop}
use Rattle.b67_reach.specs.Answers.{stopped}
use Rattle.b67_intrinsics.proofs.MakingArrays.{sizes_stop}
use Rattle.b67_intrinsics.proofs.allocating.sized.Goals as goal

pub returns-in-Err-clause-sizes : goal.returns-in-Err-clause-sizes
returns-in-Err-clause-sizes c = λ img.
    sizes_stop (asked img (extents (drop 1 c.args.numbers.now))) c.in-Err.fault (c.in-Err.ensures.sizes img) ∙ ap (λ (s : Stop). stopped s) (sym c.stop_for.ensures)
