-- What the values of the code stand for.
use Rattle.std.specs.Prelude.{Result, Ok, Err}
use Rattle.b67_num.specs.declared.NumFault.{NumFault}
use Rattle.algol_meaning.specs.Value as plain
use Rattle.algol_cells.specs.declared.value.Value.{Value}
use Rattle.algol_cells.specs.declared.value.Value.TheVariants as values

abbrev pub value : Value → plain.Value
value (values.Number z) = plain.number z
value (values.Truth b) = plain.truth b

abbrev pub resulting : Result Value NumFault → Result plain.Value NumFault
resulting (Ok v) = Ok (value v)
resulting (Err fault) = Err fault
