use Rattle.std.proofs.Common.{length, refl, sym, ◌∙◌}
use Rattle.std.proofs.lemmas.Bool.{ltb-true}
use Rattle.std.proofs.lemmas.Option.{slice_get_past, slice_get_read}
use Rattle.algol_lexer.proofs.LexWords.{reads_empty, reads_none, reads_some}
use Rattle.algol_lexer.proofs.words.word_of.Goals as goal

pub returns-in_err-first : goal.returns-in_err-first
returns-in_err-first c = c.from_residual.ensures ∙ reads_empty c.args.table.now c.args.bytes.now c.in_err-first.ensures.value

pub returns-in_err-rows : goal.returns-in_err-rows
returns-in_err-rows c =
    c.from_residual-in_err-rows.ensures
    ∙ reads_none c.args.table.now c.args.bytes.now c.in_ok-first.first.now c.from.result c.in_ok-first.ensures.value (c.from.ensures ∙ c.saturating_sub.ensures)
    (slice_get_past c.args.table.now c.from.result c.in_err-rows.ensures.lookup.3)

pub returns : goal.returns
returns c =
    let table = c.args.table.now in
    reads_some table c.args.bytes.now c.in_ok-first.first.now c.from.result c.in_ok-rows.rows.now c.first_written.result
    c.in_ok-first.ensures.value (c.from.ensures ∙ c.saturating_sub.ensures)
    (slice_get_read table (length table) c.from.result c.in_ok-rows.rows.now refl (ltb-true c.from.result (length table) (sym c.in_ok-rows.ensures.lookup.0)) c.in_ok-rows.ensures.lookup.1)
    c.first_written.ensures
