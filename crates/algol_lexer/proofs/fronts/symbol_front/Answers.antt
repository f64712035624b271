use Rattle.std.proofs.Common.{sym, subst}
use Rattle.algol_tree.specs.Lexes.{Program, TokenStands}
use Rattle.algol_lexer.proofs.LexStands.{symbol_at, none_at}
use Rattle.algol_lexer.proofs.fronts.symbol_front.Goals as goal

pub returns-in-Some : goal.returns-in-Some
returns-in-Some c = subst (TokenStands Program c.args.text.now) (sym c.symbol-in-Some.ensures) (symbol_at c.args.text.now c.in-Some.symbol c.in-Some.size c.in-Some.ensures.found.0 c.in-Some.ensures.found.1)

pub returns-in-None : goal.returns-in-None
returns-in-None c = subst (TokenStands Program c.args.text.now) (sym c.wrong.ensures) (none_at c.args.text.now c.requires.some c.requires.plain c.in-None.ensures.other)
