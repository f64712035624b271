use Rattle.std.proofs.Common.{sym, ◌∙◌, subst}
use Rattle.algol_tree.specs.Lexes.{Program, TokenStands}
use Rattle.algol_lexer.proofs.LexRemarks.{blank_at, percent_at}
use Rattle.algol_lexer.proofs.fronts.program_front.Goals as goal

pub returns-then-is_blank : goal.returns-then-is_blank
returns-then-is_blank c = subst (TokenStands Program c.args.text.now) (sym c.passed.ensures) (blank_at c.args.text.now c.requires (sym c.is_blank.ensures ∙ c.if-is_blank.true))

pub returns-in-37 : goal.returns-in-37
returns-in-37 c = subst (TokenStands Program c.args.text.now) (sym c.passed-in-37.ensures) (percent_at c.args.text.now c.requires c.in-37.is)
