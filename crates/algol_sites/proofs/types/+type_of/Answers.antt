use Rattle.std.proofs.Common.{refl}
use Rattle.algol_sites.proofs.Forms.{call_typed, if_typed, paren_typed, told_if, told_paren, variable_typed}
use Rattle.algol_sites.proofs.types.+type_of.Goals as goal

pub returns-in-Variable : goal.returns-in-Variable
returns-in-Variable t c = λ a u.
    variable_typed c.args.scopes.now a c.args.e.now u c.in-Variable.v c.sort_at.result c.variable_type.result c.in-Variable.is c.sort_at.ensures c.variable_type.ensures

pub returns-in-Call : goal.returns-in-Call
returns-in-Call t c = λ a u.
    call_typed c.args.scopes.now a c.args.e.now u c.in-Call.c c.sort_at-in-Call.result c.result_type.result c.in-Call.is c.sort_at-in-Call.ensures c.result_type.ensures

pub returns-in-Paren : goal.returns-in-Paren
returns-in-Paren t c = λ a u.
    paren_typed c.args.scopes.now a c.args.e.now u c.in-Paren.e c.in-Paren.field-1 c.boxed_expr.result.now c.type_of.result c.in-Paren.is c.boxed_expr.ensures
    (c.type_of.ensures a (told_paren c.args.scopes.now a c.args.e.now u c.in-Paren.e c.in-Paren.field-1 c.boxed_expr.result.now c.in-Paren.is c.boxed_expr.ensures))

pub returns-in-If : goal.returns-in-If
returns-in-If t c = λ a u.
    if_typed c.args.scopes.now a c.args.e.now u c.in-If.field-0 c.in-If.x c.in-If.field-2 c.in-If.field-3 c.boxed_expr-in-If.result.now c.type_of-in-If.result c.in-If.is
    c.boxed_expr-in-If.ensures
    (c.type_of-in-If.ensures a
    (told_if c.args.scopes.now a c.args.e.now u c.in-If.field-0 c.in-If.x c.in-If.field-2 c.in-If.field-3 c.in-If.field-0.value c.boxed_expr-in-If.result.now
    c.in-If.field-2.value c.in-If.is refl c.boxed_expr-in-If.ensures refl).1.0)
