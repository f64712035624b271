-- What a look along chains finds, as an answer of a call.
use Rattle.std.specs.Prelude.{Result, Ok, Err}
use Rattle.b67_table.specs.declared.InterruptKind.{InterruptKind}
use Rattle.b67_table.specs.declared.InterruptKind.TheVariants as interrupts
use Rattle.b67_display.specs.declared.BrokenChain.{BrokenChain}

abbrev pub chain_shown : {A : Type 0} → Result A BrokenChain → Result A InterruptKind
chain_shown (Ok a) = Ok a
chain_shown (Err e) = Err interrupts.BrokenChain
