-- Tokens pay for code in place, twice, and for that of the actuals with cells, once.
use Rattle.std.proofs.Common.{ℕ, ◌+◌, ◌*◌, ◌≤◌, if◌then◌else◌, Bool, true, false, List, [], ◌∷◌, length, arith}
use Rattle.algol_tree.specs.declared.tree.EventName.{EventName}
use Rattle.algol_tree.specs.Plain as tree
use Rattle.algol_tree.specs.Plain.{PExpr, PExprs}
use Rattle.algol_tree.specs.Counts.{events_tokens, expr_tokens, exprs_tokens}
use Rattle.b67_templates.specs.Cells.{has_place}
use Rattle.b67_templates.specs.Fitting.{Told}
use Rattle.b67_templates.specs.Paying.{modes_of, routine_syllables, actual_has_cell, own_routine, given_syllables, inline, inline_all, inline_given, routines, routines_all, routines_given, TokensPay}

-- what one actual costs in two copies, and its routine
one_named : (cell place : Bool) (i r t : ℕ) → 2 * i + r ≤ 24 * t → 6 + (if cell then routine_syllables place i else 0) + r ≤ 24 * t + 24
one_named false place i r t paid = omega (arith, paid)
one_named true true i r t paid = omega (arith, paid)
one_named true false i r t paid = omega (arith, paid)

one_given : (told : Told) (mode : Bool) (e : PExpr) (i r t : ℕ) → 2 * i + r ≤ 24 * t → 2 * given_syllables mode i + own_routine told mode e i + r ≤ 24 * t + 24
one_given told false e i r t paid = omega (arith, paid)
one_given told true e i r t paid = one_named (actual_has_cell told e) (has_place e) i r t paid

-- each event of a list has a token, and between two there is one
events_few : (es : List EventName) → 2 * length es ≤ events_tokens es + 1
events_few [] = omega arith
events_few (e ∷ []) = omega arith
events_few (e ∷ f ∷ es) = omega (arith, events_few (f ∷ es))

module _ (told : Told) where
  mutual
    paid : (e : PExpr) → 2 * inline told e + routines told e ≤ 24 * expr_tokens e
    paid (tree.number z spot) = omega arith
    paid (tree.truth b spot) = omega arith
    paid (tree.variable (tree.subscripted n tree.none)) = omega arith
    paid (tree.variable (tree.subscripted n (tree.more e es))) = omega (arith, paid e, paid_all es)
    paid (tree.call (tree.called n tree.none)) = omega arith
    paid (tree.call (tree.called n (tree.more e es))) = omega (arith, paid_given (modes_of (told.meant n.spot)) (tree.more e es))
    paid (tree.tested t es spot) = omega (arith, events_few es)
    paid (tree.paren e spot) = omega (arith, paid e)
    paid (tree.plus e spot) = omega (arith, paid e)
    paid (tree.neg e spot) = omega (arith, paid e)
    paid (tree.not e spot) = omega (arith, paid e)
    paid (tree.two op x y) = omega (arith, paid x, paid y)
    paid (tree.if c x y spot) = omega (arith, paid c, paid x, paid y)

    paid_all : (es : PExprs) → 2 * inline_all told es + routines_all told es ≤ 24 * exprs_tokens es
    paid_all tree.none = omega arith
    paid_all (tree.more e es) = omega (arith, paid e, paid_all es)

    paid_given : (modes : List Bool) (es : PExprs) → 2 * inline_given told modes es + routines_given told modes es ≤ 24 * exprs_tokens es
    paid_given modes tree.none = omega arith
    paid_given [] (tree.more e es) = omega (arith, paid e, paid_given [] es)
    paid_given (mode ∷ modes) (tree.more e es) = omega (arith, one_given told mode e (inline told e) (routines told e) (expr_tokens e) (paid e), paid_given modes es)

pub tokens_pay : TokensPay
tokens_pay = paid
