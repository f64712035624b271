-- The rows at work, by evaluation.
use Rattle.std.proofs.Common.{refl}
use Rattle.b67_num.specs.Whole.{calculated, whole, over}
use Rattle.b67_word.specs.Word.{field, operand, is_whole, as_whole}
use Rattle.b67_control.specs.Control.{irw_word, as_irw, sirw_word, as_sirw, mscw_word, as_mscw, rcw_word, as_rcw, event_word, as_event, descriptor_word, as_descriptor, pcw_word, as_pcw}
use Rattle.b67_ops.specs.Codes.{code_of, kind_with}
use Rattle.b67_ops.specs.Spelling.{level_bits}
use Rattle.b67_ops.specs.Decoding.{word_front, couple_front, front, decoded}
use Rattle.b67_table.specs.Rows.{row}
use Rattle.b67_table.specs.Table.{raw, table}
use Rattle.b67_table.specs.Beginning.{first_image}
use Rattle.b67_table.specs.Worked.{RowsAtWork}

pub rows_at_work : RowsAtWork
unfolding raw table row first_image field operand is_whole as_whole whole over calculated irw_word as_irw sirw_word as_sirw mscw_word as_mscw rcw_word as_rcw event_word as_event descriptor_word as_descriptor pcw_word as_pcw code_of kind_with level_bits word_front couple_front front decoded
rows_at_work = record { exit = (_, refl, refl); add = refl; add_word = refl; divide = refl; event = (_, refl, refl, refl) }
