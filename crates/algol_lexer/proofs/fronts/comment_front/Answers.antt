use Rattle.std.proofs.Common.{sym, subst, rules}
use Rattle.algol_tree.specs.Lexes.{Comment, TokenStands}
use Rattle.algol_lexer.proofs.LexRemarks.{closing_at, commented_at}
use Rattle.algol_lexer.proofs.fronts.comment_front.Goals as goal

pub returns-in-59 : goal.returns-in-59
returns-in-59 c = subst (TokenStands Comment c.args.text.now) (sym c.passed.ensures) (closing_at c.args.text.now c.requires c.in-59.is)

pub returns-in_default : goal.returns-in_default
returns-in_default c = subst (TokenStands Comment c.args.text.now) (sym c.passed-in_default.ensures) (commented_at c.args.text.now c.requires (search rules))
