-- VALC on the cell of a variable.
use Rattle.std.proofs.Common.{◌≡◌, ap, ◌+◌, Option, Some, None}
use Rattle.b67_rows.proofs.Prelude.{Read, Word, Place, as_sirw, as_pcw, Couple, Code, word_at, gives, display_at, cell_in, couple_cell, Cell, operator_letter, with_core}
use Rattle.b67_ops.specs.declared.Operator.TheVariants as ops
use Rattle.b67_table.specs.declared.Class.TheVariants as classes
use Rattle.b67_table.specs.Table.{raw, class_at}
use Rattle.b67_rows.proofs.Reaching.{Reaches, reached_there}
use Rattle.b67_rows.proofs.ReachingRows.{with_top, value_reached_class, value_read_raw, value_read_letter}
use Rattle.b67_rows.proofs.AtOperator.{AtOperator}

module _ (code : Code) (couple : Couple) (here : AtOperator code (ops.Valc couple)) (frame : Place) (shown : display_at here.core.registers couple.level ≡ Some frame) (w : Word)
    (lies : word_at here.img.stacks (record { stack = frame.stack; at = frame.at + couple.index }) ≡ Some w) (tag : w.tag ≡ 0) (no_sirw : as_sirw w ≡ None) (no_pcw : as_pcw w ≡ None) where
  open here use {img, p, core, next}

  abbrev cell : Cell
  cell = record { frame = frame; index = couple.index }

  named : couple_cell core.registers couple.level couple.index ≡ Some cell
  named = ap (λ (o : Option Place). cell_in o couple.index) shown

  reaches : Reaches img.stacks cell w cell
  reaches = reached_there img.stacks cell w lies no_sirw

  -- what it reaches is no procedure, so it is read
  pub reads_value : operator_letter (ops.Valc couple) img core.registers ≡ Some Read
  reads_value = value_read_letter code couple here cell cell named w reaches no_pcw

  pub value_raw : raw code img p ≡ gives (with_core img p (with_top core w next))
  value_raw = value_read_raw code couple here cell cell named w reaches tag no_pcw

  pub value_class : class_at (ops.Valc couple) core.registers.place ≡ classes.Action
  value_class = value_reached_class code couple here cell cell named w reaches
