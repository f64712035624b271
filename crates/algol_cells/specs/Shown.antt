-- What is after an optional reference.
use Rattle.std.specs.Prelude.{Option, Some, None}
use Rattle.std.specs.Borrow.{Bor}

abbrev pub shown_cell : {A : Type 0} → Option (Bor A) → Option A
shown_cell None = None
shown_cell (Some x) = Some x.now
