use Rattle.std.proofs.Common.{rules, sym, ◌∙◌, subst}
use Rattle.algol_tree.specs.Lexes.{EndRemark, TokenStands}
use Rattle.algol_lexer.proofs.LexRemarks.{semicolon_at, period_at, passed_at}
use Rattle.algol_lexer.proofs.fronts.remark_front.Goals as goal

pub returns-in-59 : goal.returns-in-59
returns-in-59 c = subst (TokenStands EndRemark c.args.text.now) (sym c.symbol.ensures) (semicolon_at c.args.text.now c.requires c.in-59.is)

pub returns-in-46 : goal.returns-in-46
returns-in-46 c = subst (TokenStands EndRemark c.args.text.now) (sym c.symbol-in-46.ensures) (period_at c.args.text.now c.requires c.in-46.is)

pub returns-in_default : goal.returns-in_default
returns-in_default c = subst (TokenStands EndRemark c.args.text.now) (sym c.passed.ensures) (passed_at c.args.text.now c.requires (sym c.is_letter.ensures ∙ c.if-is_letter.false) (search rules) (search rules))
