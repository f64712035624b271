use Rattle.algol_lexer.proofs.LexOrder.{tokens_ascend}
use Rattle.algol_lexer.proofs.tokens_ascend.Goals as goal

pub returns : goal.returns
returns c = tokens_ascend
