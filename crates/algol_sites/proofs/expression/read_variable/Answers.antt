use Rattle.std.proofs.Common.{◌∙◌, sym}
use Rattle.algol_sites.proofs.Actuals.{each_as, none_in}
use Rattle.algol_sites.proofs.Parts.{reading_none, some_read}
use Rattle.algol_sites.proofs.expression.read_variable.Goals as goal

pub returns-in-None : goal.returns-in-None
returns-in-None c = λ a t u.
    c.read_name.ensures a t
    ∙ sym (reading_none c.args.faults.now.first c.args.v.now a
    (none_in c.exprs_in-subs.result.now c.args.v.now.subs c.exprs_in-subs.ensures c.in-None.ensures.cases))

pub returns-in-Some : goal.returns-in-Some
returns-in-Some c = λ a t u.
    some_read c.args.faults.now.first c.element.new.faults.first c.args.v.now a c.exprs_in-subs.result.now c.exprs_in-subs.result.now
    c.in-Some.field-0.0.now c.in-Some.field-0.1.now c.in-Some.ensures.cases.0 c.exprs_in-subs.ensures c.exprs_in-subs.ensures
    (c.element.ensures a t (each_as c.args.scopes.now a c.exprs_in-subs.result.now c.args.v.now.subs c.exprs_in-subs.ensures u))
