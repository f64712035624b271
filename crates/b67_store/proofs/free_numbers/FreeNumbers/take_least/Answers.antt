use Rattle.b67_store.proofs.Heaps.{none_below}
use Rattle.b67_store.proofs.free_numbers.FreeNumbers.take_least.Goals as goal

pub returns-clause-least : goal.returns-clause-least
returns-clause-least c =
    rw (← c.self.view_is) (none_below c.in_ok-number.field-0 _ (c.in_ok-number.ensures.heap_order c.self.invariant.0).1)
