use Rattle.std.proofs.lemmas.List.Sorted.{Contains-permutation, IsPermutation-sym}
use Rattle.b67_io.proofs.calls.Calls.new.Goals as goal

pub returns-clause-failing : goal.returns-clause-failing
returns-clause-failing c =
    let given = c.args.fails.items in
    let sorted = c.sort_unstable.new.self.items in
    let same = c.sort_unstable.ensures.permutation in
    λ number. (Contains-permutation sorted given number (IsPermutation-sym given sorted same), Contains-permutation given sorted number same)
