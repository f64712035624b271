-- The three rules of the command line.
use Rattle.std.specs.Prelude.{ℕ, ◌+◌, ◌-◌, ◌*◌, ◌/◌, ◌%◌, ◌^◌}
use Rattle.b67_ready.specs.declared.order.TheConstants.{FACTOR}
use Rattle.b67_ready.specs.declared.order.Order.{Order}
use Rattle.b67_ready.specs.declared.order.Order.TheVariants.{Fifo, Lifo, Seed}

-- the place that a number spreads to: the upper 31 bits of a product of 64 bits, by the length
abbrev pub spread : ℕ → ℕ → ℕ → ℕ
spread seed length takes = ((seed + 1) * (takes + 1) * FACTOR) % 2 ^ 64 / 2 ^ 33 % length

abbrev pub order_place_of : Order → ℕ → ℕ → ℕ
order_place_of Fifo length takes = 0
order_place_of Lifo length takes = length - 1
order_place_of (Seed n) length takes = spread n length takes
