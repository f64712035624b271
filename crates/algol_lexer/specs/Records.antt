-- The record that a value of the lexer stands for.
use Rattle.algol_tree.specs.Records as records
use Rattle.algol_lexer.specs.declared.record.Record.{Record}

abbrev pub record_of : Record → records.Record
record_of r = record { line = r.line; from = r.from; bytes = r.bytes.now }
