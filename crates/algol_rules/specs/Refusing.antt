-- The refusal for the first fault, where there is one.
use Rattle.std.specs.Prelude.{Option, Some, None, Result, Ok, Err}
use Rattle.algol_tree.specs.declared.refusal.Fault.{Fault}
use Rattle.algol_tree.specs.declared.refusal.Refusal.{Refusal}
use Rattle.algol_tree.specs.declared.refusal.Refusal.TheVariants as refusals

abbrev pub refusing : Option Fault → Result (Unit {0}) Refusal
refusing None = Ok tt
refusing (Some f) = Err (refusals.At f.spot f.code)
