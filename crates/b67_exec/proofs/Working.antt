-- What some codes come to by turns, by evaluation.
use Rattle.std.proofs.Common.{refl}
use Rattle.b67_num.specs.Whole.{calculated, whole, over}
use Rattle.b67_word.specs.Word.{field, operand, is_whole, as_whole}
use Rattle.b67_control.specs.Control.{irw_word, as_irw, sirw_word, as_sirw, mscw_word, as_mscw, rcw_word, as_rcw, event_word, as_event, descriptor_word, as_descriptor, pcw_word, as_pcw}
use Rattle.b67_ops.specs.Codes.{code_of, kind_with}
use Rattle.b67_ops.specs.Spelling.{level_bits}
use Rattle.b67_ops.specs.Decoding.{word_front, couple_front, front, decoded}
use Rattle.b67_table.specs.Rows.{row}
use Rattle.b67_table.specs.Table.{raw, table}
use Rattle.b67_table.specs.Beginning.{first_image}
use Rattle.b67_table.specs.Ending.{image_end, failed}
use Rattle.b67_exec.specs.Turns.{exec_run}
use Rattle.b67_exec.specs.Worked.{TurnsAtWork}

pub at_work : TurnsAtWork
unfolding raw table row first_image image_end failed exec_run field operand is_whole as_whole whole over calculated irw_word as_irw sirw_word as_sirw mscw_word as_mscw rcw_word as_rcw event_word as_event descriptor_word as_descriptor pcw_word as_pcw code_of kind_with level_bits word_front couple_front front decoded
at_work = record {
  divide = record { stopped = refl; counted = refl };
  add = record { stopped = refl; counted = refl };
  loop = record { stopped = refl; counted = refl };
  exit = record { stopped = refl; counted = refl };
  out = record { stopped = refl; counted = refl };
  started = record { stopped = refl; counted = refl };
}
