use Rattle.std.proofs.Common.{◌≡◌, List, drop, sym, subst}
use Rattle.algol_tree.specs.Ends.{Ends}
use Rattle.algol_tree.specs.Plain.{PExpr}
use Rattle.algol_tree.specs.Image.{expr as plain}
use Rattle.algol_tree.specs.Operators.{expr}
use Rattle.algol_tree.specs.Expressions.{IsWholeExpression}
use Rattle.algol_tree.specs.Refused.{IsLongest}
use Rattle.algol_tree.specs.Ended.{EndsOnce}
use Rattle.algol_tree.specs.declared.token.Token as token
use Rattle.algol_expr.proofs.Places.{ends_drop, at_rest}
use Rattle.algol_expr.proofs.whole.read_expr.Goals as goal

pub read_whole-requires : goal.read_whole-requires
read_whole-requires c = record { ended = subst EndsOnce (sym c.split_at.ensures.back) (ends_drop _ _ c.requires.ended c.requires.within) }

pub returns-clause-reads : goal.returns-clause-reads
returns-clause-reads c = at_rest (λ rest. IsWholeExpression 0 c.args.depth (drop c.args.at c.args.tokens.now) (plain c.in_ok-expr.expr) rest) _ _ _ _ _ c.split_at.ensures.back c.requires.within
    c.in_ok-expr.ensures.longest (subst (λ from. IsWholeExpression 0 c.args.depth from (plain c.in_ok-expr.expr) c.in_ok-expr.rest.now) c.split_at.ensures.back c.in_ok-expr.ensures.reads)

pub returns-clause-only : goal.returns-clause-only
returns-clause-only c =
    at_rest (λ end. (e : PExpr) (rest : List token.Token) → IsWholeExpression 0 c.args.depth (drop c.args.at c.args.tokens.now) e rest → Ends expr rest →
    (e ≡ plain c.in_ok-expr.expr) × (rest ≡ end)) _ _ _ _ _ c.split_at.ensures.back c.requires.within c.in_ok-expr.ensures.longest
    (subst (λ from. (e : PExpr) (rest : List token.Token) → IsWholeExpression 0 c.args.depth from e rest → Ends expr rest →
    (e ≡ plain c.in_ok-expr.expr) × (rest ≡ c.in_ok-expr.rest.now)) c.split_at.ensures.back c.in_ok-expr.ensures.only)

pub returns-clause-longest : goal.returns-clause-longest
returns-clause-longest c = at_rest (λ rest. IsLongest c.args.depth (drop c.args.at c.args.tokens.now) rest) _ _ _ _ _ c.split_at.ensures.back c.requires.within
    c.in_ok-expr.ensures.longest (subst (λ from. IsLongest c.args.depth from c.in_ok-expr.rest.now) c.split_at.ensures.back c.in_ok-expr.ensures.longest)
