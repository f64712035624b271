use Rattle.std.proofs.Common.{refl, arith}
use Rattle.std.specs.BinaryHeap.{heap_items}
use Rattle.b67_store.proofs.Heaps.{first_number, none_below}
use Rattle.b67_store.proofs.free_numbers.FreeNumbers.least.Goals as goal

pub returns-clause-first : goal.returns-clause-first
returns-clause-first c =
    rw (← c.self.view_is) (first_number (heap_items c.self.inside.heap) c.in_ok-number.field-0.now (omega (arith, c.in_ok-number.ensures.variant.0 refl, c.self.invariant.1)) c.in_ok-number.ensures.lookup)

pub returns-clause-least : goal.returns-clause-least
returns-clause-least c =
    rw (← c.self.view_is) (none_below c.in_ok-number.field-0.now _ (c.in_ok-number.ensures.greatest c.self.invariant.0))
