use Rattle.std.proofs.Common.{arith}
use Rattle.std.proofs.lemmas.List.Sorted.{length_permutation}
use Rattle.b67_flat.proofs.row_table.take_all.Goals as goal

pub taking-smaller : goal.taking-smaller
taking-smaller c = omega (arith, length_permutation _ _ c.in-Some.ensures.numbers)
