use Rattle.algol_lexer.proofs.LexRemarks.{capitals_from, small_from}
use Rattle.algol_lexer.proofs.fronts.is_word.Goals as goal

-- in small letters both are the same
pub returns : goal.returns
returns c = (λ h. capitals_from c.args.bytes.now c.args.word.now c.requires (c.eq_ignore_ascii_case.ensures.test.0 h), λ e. c.eq_ignore_ascii_case.ensures.test.1 (small_from c.args.bytes.now c.args.word.now e))
