-- The place that a rule of the command line picks is one of the queue.
use Rattle.std.specs.Prelude.{ℕ, ◌+◌, ◌*◌, ◌/◌, ◌<◌, ◌%◌, ◌^◌}
use Rattle.std.proofs.Common.{arith}
use Rattle.std.proofs.lemmas.Nat.{mod_below}
use Rattle.b67_ready.specs.declared.order.TheConstants.{FACTOR}
use Rattle.b67_ready.specs.declared.order.Order.{Order}
use Rattle.b67_ready.specs.declared.order.Order.TheVariants.{Fifo, Lifo, Seed}
use Rattle.b67_ready.specs.Orders.{order_place_of}

pub place_within : (rule : Order) (length takes : ℕ) → 0 < length → order_place_of rule length takes < length
place_within Fifo length takes some = some
place_within Lifo length takes some = omega (arith, some)
place_within (Seed n) length takes some = mod_below (((n + 1) * (takes + 1) * FACTOR) % 2 ^ 64 / 2 ^ 33) length some
