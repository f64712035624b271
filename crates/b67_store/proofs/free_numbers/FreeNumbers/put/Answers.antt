use Rattle.std.proofs.Common.{length, ap, arith}
use Rattle.std.proofs.lemmas.List.{length-map}
use Rattle.std.specs.BinaryHeap.{heap_items}
use Rattle.b67_store.specs.Numbers.{Numbers}
use Rattle.b67_store.proofs.Heaps.{numbers_pushed, on_ok}
use Rattle.b67_store.proofs.free_numbers.FreeNumbers.put.Goals as goal

pub returns-clause-numbers : goal.returns-clause-numbers
returns-clause-numbers c =
    let e = ap (λ (n : Numbers). length n.numbers) c.self.view_is in
    let r = ap (λ (n : Numbers). n.room) c.self.view_is in
    let k = length-map (heap_items c.self.inside.heap) (λ x. x.0) in
    rw (← c.self.view_is) (numbers_pushed _ _ _ (on_ok c.push.result _ (c.push.ensures.succeeds (omega (arith, e, r, k, c.requires, c.self.invariant.1))) c.push.ensures.permutation))
