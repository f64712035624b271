use Rattle.std.proofs.Common.{subst}
use Rattle.b67_private.specs.declared.operators.Row.{Row}
use Rattle.b67_private.specs.Lettered.{HasLetter}
use Rattle.b67_action.proofs.Lettering.{own_letter}
use Rattle.b67_action.proofs.rows.row_of.Goals as goal

pub returns-in-Words-clause-letter : goal.returns-in-Words-clause-letter
returns-in-Words-clause-letter c = subst (λ (w : Row). HasLetter c.args.op.now c.args.place w) c.in-Words.is c.row_of.ensures.letter

pub returns-in-Exit-clause-letter : goal.returns-in-Exit-clause-letter
returns-in-Exit-clause-letter c = subst (λ (w : Row). HasLetter c.args.op.now c.args.place w) c.in-Exit.is c.row_of.ensures.letter

pub returns-in-ReturnValue-clause-letter : goal.returns-in-ReturnValue-clause-letter
returns-in-ReturnValue-clause-letter c = subst (λ (w : Row). HasLetter c.args.op.now c.args.place w) c.in-ReturnValue.is c.row_of.ensures.letter

pub returns-in-Enter-clause-letter : goal.returns-in-Enter-clause-letter
returns-in-Enter-clause-letter c = subst (λ (w : Row). HasLetter c.args.op.now c.args.place w) c.in-Enter.is c.row_of.ensures.letter

pub returns-in_default-clause-letter : goal.returns-in_default-clause-letter
returns-in_default-clause-letter c =
    own_letter c.args.op.now c.args.place c.row_of.result c.row_of.ensures.letter c.in_default.not-Words c.in_default.not-Exit c.in_default.not-ReturnValue c.in_default.not-Enter
