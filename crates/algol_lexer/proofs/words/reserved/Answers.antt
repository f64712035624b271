use Rattle.std.proofs.Common.{refl}
use Rattle.algol_lexer.proofs.LexWords.{is_word_or_none}
use Rattle.algol_lexer.proofs.words.reserved.Goals as goal

pub returns : goal.returns
returns c = is_word_or_none _ refl c.args.bytes.now c.word_of.result c.word_of.ensures
