use Rattle.std.proofs.Common.{sym, ◌∙◌}
use Rattle.algol_lexer.proofs.LexRecords.{columns_short, length_taken, taken_within}
use Rattle.algol_lexer.proofs.record.columns.Goals as goal

-- a record of more columns than are read
pub slice_bounds-result-end-then-bytes-gt-USED_COLUMNS :
    goal.slice_bounds-result-end-then-bytes-gt-USED_COLUMNS
slice_bounds-result-end-then-bytes-gt-USED_COLUMNS c = length_taken _ c.args.bytes.now c.if-bytes-gt-USED_COLUMNS.true

pub returns-then-bytes-gt-USED_COLUMNS-clause-within :
    goal.returns-then-bytes-gt-USED_COLUMNS-clause-within
returns-then-bytes-gt-USED_COLUMNS-clause-within c = taken_within _ c.args.bytes.now c.if-bytes-gt-USED_COLUMNS.true

-- a shorter one
pub returns-else-bytes-gt-USED_COLUMNS-clause-value :
    goal.returns-else-bytes-gt-USED_COLUMNS-clause-value
returns-else-bytes-gt-USED_COLUMNS-clause-value c = columns_short c.args.bytes.now (sym c.has_dollar.ensures ∙ c.if-has_dollar.false) c.if-bytes-gt-USED_COLUMNS.false
