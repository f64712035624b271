use Rattle.std.proofs.Common.{subst, ℤ, List}
use Rattle.b67_table.specs.Intrinsics.{extents}
use Rattle.b67_table.specs.Program.{asked}
use Rattle.b67_descriptor.specs.Sizes.{Sizes}
use Rattle.b67_intrinsics.proofs.MakingArrays.{one_bound, two_bounds}
use Rattle.b67_intrinsics.proofs.allocating.size_in.Goals as goal

pub returns-then-numbers-eq3-clause-sizes : goal.returns-then-numbers-eq3-clause-sizes
returns-then-numbers-eq3-clause-sizes c = λ img.
    subst (λ (zs : List ℤ). Sizes (asked img (extents zs)) c.size_of.result)
    (one_bound c.args.numbers.now c.bounds_at-first.result.0 c.bounds_at-first.result.1 c.if-numbers-eq3.true c.bounds_at-first.ensures.low c.bounds_at-first.ensures.high)
    (c.size_of.ensures.sizes img)

pub returns-else-numbers-eq3-clause-sizes : goal.returns-else-numbers-eq3-clause-sizes
returns-else-numbers-eq3-clause-sizes c = λ img.
    subst (λ (zs : List ℤ). Sizes (asked img (extents zs)) c.size_of-else-numbers-eq3.result)
    (two_bounds c.args.numbers.now c.bounds_at-first.result.0 c.bounds_at-first.result.1 c.bounds_at-second.result.0 c.bounds_at-second.result.1 c.requires
    c.if-numbers-eq3.false c.bounds_at-first.ensures.low c.bounds_at-first.ensures.high c.bounds_at-second.ensures.low c.bounds_at-second.ensures.high)
    (c.size_of-else-numbers-eq3.ensures.sizes img)
