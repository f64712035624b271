use Rattle.std.proofs.Common.{◌≡◌, [], ◌∙◌, sym, ap, subst, refl, map, drop, arith}
use Rattle.std.proofs.lemmas.List.{drop_all}
use Rattle.algol_tree.specs.Image.{expr, exprs}
use Rattle.algol_rules.specs.declared.fault.Faults.{Faults}
use Rattle.algol_sites.specs.Seen.{classes_of, formal_as}
use Rattle.algol_tree.specs.declared.refusal.Code.TheVariants as codes
use Rattle.algol_tree.specs.Accepted.{noted_all}
use Rattle.algol_sites.specs.Seeing.{TellsEvents}
use Rattle.algol_sites.specs.Wanting.{are_miscounted, unfit_events}
use Rattle.algol_sites.specs.Noting.{broken_if, noted_in}
use Rattle.algol_sites.specs.Expressing.{noted_actual, is_alone}
use Rattle.algol_tree.specs.Sites.{sites}
use Rattle.algol_tree.specs.Types.{taken_by, type_of}
use Rattle.algol_tree.specs.Surroundings.{formals_at}
use Rattle.algol_tree.specs.declared.tree.Kind.TheVariants as kinds
use Rattle.algol_sites.proofs.Parts.{call_noted, two_noted, if_noted, wanted_as, wanted_for_as, through_as, typed_as}
use Rattle.b67_deeds.specs.declared.EventTest.TheVariants as test
use Rattle.algol_sites.proofs.Noted.{asked_noted, neg_noted, not_noted, paren_noted, plus_noted, variable_noted, waited_noted}
use Rattle.algol_scope.proofs.Sizes.{in_paren, in_plus, in_neg, in_not, in_left, in_otherwise}
use Rattle.algol_sites.proofs.Whole.{either_first}
use Rattle.algol_sites.proofs.Forms.{available_image, fix_image, happened_image, told_asked, told_call, told_if, told_neg, told_not, told_paren, told_plus, told_two, told_variable, told_waited}
use Rattle.algol_sites.proofs.Seen.{formals_told}
use Rattle.algol_sites.proofs.Actuals.{each_split, list_end, list_step, actual_step, valued, alone, alike, none_left}
use Rattle.algol_sites.proofs.expression.+expressions.Goals as goal
use Rattle.algol_sites.proofs.expression.+expressions.Goals.{actuals-then-not-is_name_alone, actuals-else-not-is_name_alone}

pub actuals-actuals-preserved : goal.actuals-actuals-preserved
actuals-actuals-preserved t c = λ a u.
    let o = c.formal_at-formal.result in
    let e = c.index-given-at.result in
    let inv = c.actuals.invariant a u in
    let told = each_split c.args.scopes.now a c.exprs_in-given.result.now c.actuals.at e c.actuals-test.true c.index-given-at.is inv.1 in
    let before = noted_actual c.actuals.faults.first (expr e) o a in
    let valued_after = noted_in before (sites (expr e) a) in
    elim c.if-not-is_name_alone.branch [
      | actuals-then-not-is_name_alone w ↦ (
        actual_step c.exprs_in-given.result.now c.actuals.at e c.parameters_at-formals.result.now o a
            c.actuals.faults.first c.if-not-is_name_alone.faults.first c.actuals-test.true c.index-given-at.is c.formal_at-formal.ensures
            (ap (λ (f : Faults). f.first) w.faults-is ∙ w.expression.ensures a told.0 ∙ ap (λ f. noted_in f (sites (expr e) a)) (c.want_actual.ensures a told.0)
            ∙ valued (is_alone (expr e) o) before valued_after (sym w.if-not-is_name_alone.ensures))
            ∙ inv.0,
        told.1,
      )
      | actuals-else-not-is_name_alone w ↦ (
        actual_step c.exprs_in-given.result.now c.actuals.at e c.parameters_at-formals.result.now o a
            c.actuals.faults.first c.if-not-is_name_alone.faults.first c.actuals-test.true c.index-given-at.is c.formal_at-formal.ensures
            (ap (λ (f : Faults). f.first) w.faults-is ∙ c.want_actual.ensures a told.0
            ∙ alone (is_alone (expr e) o) before valued_after (sym w.if-not-is_name_alone.ensures))
            ∙ inv.0,
        told.1,
      )
    ]

pub actuals-returns : goal.actuals-returns
actuals-returns t c = λ a n u.
    none_left c.exprs_in-given.result.now c.actuals.at (drop c.actuals.at (map formal_as c.parameters_at-formals.result.now)) a c.actuals.faults.first
    c.actuals-test.false
    ∙ (c.actuals.invariant a u).0
    ∙ alike (exprs c.args.c.now.actuals) (map formal_as c.parameters_at-formals.result.now) (formals_at a c.args.c.now.name) a
    c.args.faults.now.first
    (ap (λ ss. classes_of (map formal_as ss)) c.parameters_at-formals.ensures ∙ formals_told c.args.scopes.now a c.args.c.now.name n)

pub expression-returns-in-Variable : goal.expression-returns-in-Variable
expression-returns-in-Variable t c = λ a u.
    let inv = c.parts.invariant.0 a u in
    let told = told_variable c.args.scopes.now a c.parts.at.now inv.1 c.in-Variable.v c.in-Variable.is in
    variable_noted c.parts.at.now a c.parts.faults.first c.in-Variable.v c.read_variable.new.faults.first c.subscripts.new.faults.first c.in-Variable.is
    (c.read_variable.ensures a told.0 told.1) (c.subscripts.ensures a told.1)
    ∙ inv.0

pub expression-returns-in-Call : goal.expression-returns-in-Call
expression-returns-in-Call t c = λ a u.
    let inv = c.parts.invariant.0 a u in
    let told = told_call c.args.scopes.now a c.parts.at.now inv.1 c.in-Call.c c.in-Call.is in
    call_noted c.parts.at.now c.in-Call.c a c.parts.faults.first c.called.new.faults.first c.actuals.new.faults.first c.in-Call.is
    (c.called.ensures a told.0) (c.actuals.ensures a told.0 told.1)
    ∙ inv.0

pub expression-returns-in-Happened : goal.expression-returns-in-Happened
expression-returns-in-Happened t c = λ a u.
    let inv = c.parts.invariant.0 a u in
    let is = ap expr c.in-Happened.is ∙ happened_image c.in-Happened.event c.in-Happened.field-1 in
    asked_noted c.parts.at.now a c.parts.faults.first test.Happened c.in-Happened.event c.in-Happened.field-1 c.want_event.new.faults.first is
    (c.want_event.ensures a (told_asked c.args.scopes.now a c.parts.at.now inv.1 test.Happened c.in-Happened.event c.in-Happened.field-1 is))
    ∙ inv.0

pub expression-returns-in-Available : goal.expression-returns-in-Available
expression-returns-in-Available t c = λ a u.
    let inv = c.parts.invariant.0 a u in
    let is = ap expr c.in-Available.is ∙ available_image c.in-Available.event c.in-Available.field-1 in
    asked_noted c.parts.at.now a c.parts.faults.first test.Available c.in-Available.event c.in-Available.field-1 c.want_event-in-Available.new.faults.first is
    (c.want_event-in-Available.ensures a (told_asked c.args.scopes.now a c.parts.at.now inv.1 test.Available c.in-Available.event c.in-Available.field-1 is))
    ∙ inv.0

pub expression-returns-in-Fix : goal.expression-returns-in-Fix
expression-returns-in-Fix t c = λ a u.
    let inv = c.parts.invariant.0 a u in
    let is = ap expr c.in-Fix.is ∙ fix_image c.in-Fix.event c.in-Fix.field-1 in
    asked_noted c.parts.at.now a c.parts.faults.first test.Fix c.in-Fix.event c.in-Fix.field-1 c.want_event-in-Fix.new.faults.first is
    (c.want_event-in-Fix.ensures a (told_asked c.args.scopes.now a c.parts.at.now inv.1 test.Fix c.in-Fix.event c.in-Fix.field-1 is))
    ∙ inv.0

pub expression-returns-in-WaitAny : goal.expression-returns-in-WaitAny
expression-returns-in-WaitAny t c = λ a u.
    let inv = c.parts.invariant.0 a u in
    let s = c.args.scopes.now in
    let same : c.deref.result.now ≡ c.in-WaitAny.events = c.deref.ensures.value ∙ c.items.ensures in
    waited_noted c.parts.at.now a c.parts.faults.first c.in-WaitAny.events c.in-WaitAny.spot c.want_events.new.faults.first c.in-WaitAny.is
    (c.want_events.ensures a
    (subst (TellsEvents s a) (sym same) (told_waited s a c.parts.at.now inv.1 c.in-WaitAny.events c.in-WaitAny.spot c.in-WaitAny.is))
    ∙ ap (λ es. noted_all (noted_all c.parts.faults.first (unfit_events es a)) (broken_if codes.WrongCount (are_miscounted es) c.in-WaitAny.spot)) same)
    ∙ inv.0

pub expression-parts-preserved-in-Paren : goal.expression-parts-preserved-in-Paren
expression-parts-preserved-in-Paren t c = (
  λ a u.
      let inv = c.parts.invariant.0 a u in
      let told = told_paren c.args.scopes.now a c.parts.at.now inv.1 c.in-Paren.e c.in-Paren.field-1 c.boxed_expr-at.result.now c.in-Paren.is c.boxed_expr-at.ensures in (
        paren_noted c.parts.at.now a c.parts.faults.first c.in-Paren.e c.in-Paren.field-1 c.boxed_expr-at.result.now _ c.in-Paren.is c.boxed_expr-at.ensures refl ∙ inv.0,
        told,
      ),
  omega (arith, c.parts.invariant.1, in_paren c.parts.at.now c.boxed_expr-at.result.now c.in-Paren.e c.in-Paren.field-1 c.in-Paren.is c.boxed_expr-at.ensures),
)

pub expression-parts-preserved-in-Plus : goal.expression-parts-preserved-in-Plus
expression-parts-preserved-in-Plus t c = (
  λ a u.
      let inv = c.parts.invariant.0 a u in
      let told = told_plus c.args.scopes.now a c.parts.at.now inv.1 c.in-Plus.e c.in-Plus.field-1 c.boxed_expr-operand.result.now c.in-Plus.is c.boxed_expr-operand.ensures in (
        plus_noted c.parts.at.now a c.parts.faults.first c.in-Plus.e c.in-Plus.field-1 c.boxed_expr-operand.result.now c.want.new.faults.first _
            c.in-Plus.is c.boxed_expr-operand.ensures (c.want.ensures a told) refl ∙ inv.0,
        told,
      ),
  omega (arith, c.parts.invariant.1, in_plus c.parts.at.now c.boxed_expr-operand.result.now c.in-Plus.e c.in-Plus.field-1 c.in-Plus.is c.boxed_expr-operand.ensures),
)

pub expression-parts-preserved-in-Neg : goal.expression-parts-preserved-in-Neg
expression-parts-preserved-in-Neg t c = (
  λ a u.
      let inv = c.parts.invariant.0 a u in
      let told = told_neg c.args.scopes.now a c.parts.at.now inv.1 c.in-Neg.e c.in-Neg.field-1 c.boxed_expr-operand-in-Neg.result.now c.in-Neg.is c.boxed_expr-operand-in-Neg.ensures in (
        neg_noted c.parts.at.now a c.parts.faults.first c.in-Neg.e c.in-Neg.field-1 c.boxed_expr-operand-in-Neg.result.now c.want-in-Neg.new.faults.first _
            c.in-Neg.is c.boxed_expr-operand-in-Neg.ensures (c.want-in-Neg.ensures a told) refl ∙ inv.0,
        told,
      ),
  omega (arith, c.parts.invariant.1, in_neg c.parts.at.now c.boxed_expr-operand-in-Neg.result.now c.in-Neg.e c.in-Neg.field-1 c.in-Neg.is c.boxed_expr-operand-in-Neg.ensures),
)

pub expression-parts-preserved-in-Not : goal.expression-parts-preserved-in-Not
expression-parts-preserved-in-Not t c = (
  λ a u.
      let inv = c.parts.invariant.0 a u in
      let told = told_not c.args.scopes.now a c.parts.at.now inv.1 c.in-Not.e c.in-Not.field-1 c.boxed_expr-operand-in-Not.result.now c.in-Not.is c.boxed_expr-operand-in-Not.ensures in (
        not_noted c.parts.at.now a c.parts.faults.first c.in-Not.e c.in-Not.field-1 c.boxed_expr-operand-in-Not.result.now c.want-in-Not.new.faults.first _
            c.in-Not.is c.boxed_expr-operand-in-Not.ensures (c.want-in-Not.ensures a told) refl ∙ inv.0,
        told,
      ),
  omega (arith, c.parts.invariant.1, in_not c.parts.at.now c.boxed_expr-operand-in-Not.result.now c.in-Not.e c.in-Not.field-1 c.in-Not.is c.boxed_expr-operand-in-Not.ensures),
)

pub expression-parts-preserved-in-Two : goal.expression-parts-preserved-in-Two
expression-parts-preserved-in-Two t c = (
  λ a u.
      let inv = c.parts.invariant.0 a u in
      let told =
      told_two c.args.scopes.now a c.parts.at.now inv.1 c.in-Two.op c.in-Two.x c.in-Two.y c.boxed_expr-left.result.now c.boxed_expr-right.result.now c.in-Two.is
      c.boxed_expr-left.ensures c.boxed_expr-right.ensures in (
        ap (λ o. noted_in o (sites (expr c.boxed_expr-left.result.now) a)) (c.expression.ensures a told.1)
            ∙ either_first [] c.want-in-Two-2.new.faults.first (sites (expr c.boxed_expr-right.result.now) a) (sites (expr c.boxed_expr-left.result.now) a)
            ∙ two_noted c.parts.at.now c.in-Two.op c.in-Two.x c.in-Two.y a c.parts.faults.first c.want-in-Two.new.faults.first
            c.want-in-Two-2.new.faults.first _ _ c.in-Two.is
            (wanted_as c.taken_by.result (taken_by c.in-Two.op) c.boxed_expr-left.result.now c.in-Two.x.value _ _ _ c.taken_by.ensures c.boxed_expr-left.ensures
            (c.want-in-Two.ensures a told.0))
            (wanted_as c.taken_by-in-Two.result (taken_by c.in-Two.op) c.boxed_expr-right.result.now c.in-Two.y.value _ _ _ c.taken_by-in-Two.ensures c.boxed_expr-right.ensures
            (c.want-in-Two-2.ensures a told.1))
            (through_as c.boxed_expr-left.result.now c.in-Two.x.value _ _ _ c.boxed_expr-left.ensures refl)
            (through_as c.boxed_expr-right.result.now c.in-Two.y.value _ _ _ c.boxed_expr-right.ensures refl)
            ∙ inv.0,
        told.0,
      ),
  omega (arith, c.parts.invariant.1, in_left c.parts.at.now c.boxed_expr-left.result.now c.in-Two.op c.in-Two.x c.in-Two.y c.in-Two.is c.boxed_expr-left.ensures),
)

pub expression-parts-preserved : goal.expression-parts-preserved
expression-parts-preserved t c = (
  λ a u.
      let inv = c.parts.invariant.0 a u in
      let told =
      told_if c.args.scopes.now a c.parts.at.now inv.1 c.in-If.c c.in-If.x c.in-If.y c.in-If.field-3 c.boxed_expr-condition.result.now c.boxed_expr-yes.result.now
      c.boxed_expr-otherwise.result.now c.in-If.is c.boxed_expr-condition.ensures c.boxed_expr-yes.ensures c.boxed_expr-otherwise.ensures in (
        if_noted c.parts.at.now c.in-If.c c.in-If.x c.in-If.y c.in-If.field-3 a c.parts.faults.first c.want-in-If.new.faults.first
            c.want_if.new.faults.first c.expression-in-If.new.faults.first c.expression-in-If-2.new.faults.first _ c.in-If.is
            (wanted_as kinds.Truth kinds.Truth c.boxed_expr-condition.result.now c.in-If.c.value _ _ _ refl c.boxed_expr-condition.ensures (c.want-in-If.ensures a told.0))
            (wanted_for_as c.type_of.result (type_of (expr c.in-If.x.value) a) c.boxed_expr-otherwise.result.now c.in-If.y.value _ _ _
            (typed_as c.type_of.result c.boxed_expr-yes.result.now c.in-If.x.value a c.boxed_expr-yes.ensures (c.type_of.ensures a told.1.0)) c.boxed_expr-otherwise.ensures
            (c.want_if.ensures a told.1.1))
            (through_as c.boxed_expr-condition.result.now c.in-If.c.value _ _ _ c.boxed_expr-condition.ensures (c.expression-in-If.ensures a told.0))
            (through_as c.boxed_expr-yes.result.now c.in-If.x.value _ _ _ c.boxed_expr-yes.ensures (c.expression-in-If-2.ensures a told.1.0))
            (through_as c.boxed_expr-otherwise.result.now c.in-If.y.value _ _ _ c.boxed_expr-otherwise.ensures refl)
            ∙ inv.0,
        told.1.1,
      ),
  omega (arith, c.parts.invariant.1, in_otherwise c.parts.at.now c.boxed_expr-otherwise.result.now c.in-If.c c.in-If.x c.in-If.y c.in-If.field-3 c.in-If.is c.boxed_expr-otherwise.ensures),
)

pub subscripts-subscripts-preserved : goal.subscripts-subscripts-preserved
subscripts-subscripts-preserved t c = λ a u.
    let inv = c.subscripts.invariant a u in
    let told = each_split c.args.scopes.now a c.exprs_in-subs.result.now c.subscripts.e-index c.e-item.result c.subscripts-test.true c.e-item.is inv.1 in (
      list_step c.exprs_in-subs.result.now c.subscripts.e-index c.e-item.result a c.subscripts.faults.first c.expression.new.faults.first
          c.subscripts-test.true c.e-item.is (c.expression.ensures a told.0)
          ∙ inv.0,
      told.1,
    )

pub subscripts-returns : goal.subscripts-returns
subscripts-returns t c = λ a u.
    list_end c.exprs_in-subs.result.now c.subscripts.e-index a c.subscripts.faults.first _
    (drop_all c.subscripts.e-index c.exprs_in-subs.result.now c.subscripts-test.false) (c.subscripts.invariant a u).0
