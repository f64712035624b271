use Rattle.std.proofs.Common.{◌≡◌, ◌<◌, ◌+◌, ◌*◌, [], ◌∷◌, ◌∙◌, arith}
use Rattle.std.proofs.lemmas.List.{drop_all}
use Rattle.algol_tree.specs.declared.tree.Expr.{size-Expr}
use Rattle.algol_tree.specs.Image.{expr, exprs}
use Rattle.algol_tree.specs.Sites.{sites, inside_list}
use Rattle.b67_deeds.specs.declared.EventTest.TheVariants as test
use Rattle.algol_known.proofs.Plain.{expr_happened, expr_available, expr_fix, expr_waited}
use Rattle.b67_list.proofs.Answered.{on_ok}
use Rattle.algol_scope.specs.declared.findings.Findings.{Findings}
use Rattle.algol_scope.specs.Noting.{ScopeWalks, at_name}
use Rattle.algol_scope.proofs.Walking.{follows_item, follows_end, passing_item, passing_end, Follows, walks_then, walks_asked, walks_waited, walks_call, walks_of, copied_get, get_within}
use Rattle.algol_scope.proofs.Waiting.{waiting_parts, under_more, under_last, goes_in_paren, goes_in_plus, goes_in_neg, goes_in_not, goes_left, goes_last, comes_back_as, taken_up, none_waits, none_left, walks_number, walks_truth, walks_variable, walks_called}
use Rattle.algol_scope.proofs.Sizes.{in_paren, in_plus, in_neg, in_not, in_left, in_right, in_otherwise}
use Rattle.algol_scope.proofs.findings.Findings.+expressions.Goals as goal
use Rattle.algol_scope.proofs.findings.Findings.+expressions.Goals.{expr-in-Number, expr-in-Truth, expr-in-Variable+in_ok-variable-in-Variable, expr-in-Call+in_ok-call-in-Call, expr-in-Happened+in_ok-name-in-Happened, expr-in-Available+in_ok-name-in-Available, expr-in-Fix+in_ok-name-in-Fix, expr-in-WaitAny+in_ok-events-in-WaitAny}

pub list-expressions-preserved : goal.list-expressions-preserved
list-expressions-preserved t c =
    follows_item c.args.around.now c.args.seen c.args.self.now c.expressions.self c.expr.new.self (inside_list (exprs c.args.es.now))
    c.deref-e-items.result.now c.expressions.e-index c.e-item.result c.expressions-test.true c.e-item.is c.expressions.invariant
    c.in_ok-expr.ensures

pub list-returns : goal.list-returns
list-returns t c =
    follows_end c.args.around.now c.args.seen c.args.self.now c.expressions.self (inside_list (exprs c.args.es.now)) _
    (drop_all c.expressions.e-index c.deref-e-items.result.now c.expressions-test.false) c.expressions.invariant

pub actuals-actuals-preserved : goal.actuals-actuals-preserved
actuals-actuals-preserved t c =
    passing_item c.args.around.now c.args.seen c.args.self.now c.actuals.self c.actual.new.self c.expr.new.self c.args.modes.now
    (exprs c.args.es.now) c.deref-e-items.result.now c.actuals.at c.e-item.result c.copied.result c.actuals-test.true c.e-item.is
    (c.copied.ensures
    ∙ copied_get c.args.modes.now c.actuals.at c.get.result (get_within c.args.modes.now c.actuals.at c.get.result _ c.get.ensures.lookup.3)
    c.get.ensures.lookup.1)
    c.actuals.invariant c.in_ok-actual.ensures c.in_ok-expr.ensures

pub actuals-returns : goal.actuals-returns
actuals-returns t c =
    passing_end c.args.around.now c.args.seen c.args.self.now c.actuals.self c.args.modes.now (exprs c.args.es.now) c.actuals.at _
    (drop_all c.actuals.at c.deref-e-items.result.now c.actuals-test.false) c.actuals.invariant

pub call-returns : goal.call-returns
call-returns t c =
    on_ok c.actuals.result
    (walks_call c.args.around.now c.args.seen c.args.self.now c.name.new.self c.actuals.new.self c.args.c.now.name c.modes.result.now
    (exprs c.args.c.now.actuals) c.in_ok-class.ensures.walks
    (λ a s. c.modes.ensures ∙ (c.in_ok-class.ensures.class a s).modes))
    c.actuals.ensures

pub expr-parts-preserved-in-Paren : goal.expr-parts-preserved-in-Paren
expr-parts-preserved-in-Paren t c =
    let d = c.boxed_expr-at in (
      goes_in_paren c.args.around.now c.args.seen c.args.self.now c.parts.self (sites (expr c.args.e.now)) c.parts.waiting.items c.parts.at.now d.result.now
          c.in-Paren.e c.in-Paren.field-1 c.in-Paren.is d.ensures c.parts.invariant.0,
      omega (arith, c.parts.invariant.1, in_paren c.parts.at.now d.result.now c.in-Paren.e c.in-Paren.field-1 c.in-Paren.is d.ensures),
      c.parts.invariant.2,
    )

pub expr-parts-preserved-in-Plus : goal.expr-parts-preserved-in-Plus
expr-parts-preserved-in-Plus t c =
    let d = c.boxed_expr-at-in-Plus in (
      goes_in_plus c.args.around.now c.args.seen c.args.self.now c.parts.self (sites (expr c.args.e.now)) c.parts.waiting.items c.parts.at.now d.result.now
          c.in-Plus.e c.in-Plus.field-1 c.in-Plus.is d.ensures c.parts.invariant.0,
      omega (arith, c.parts.invariant.1, in_plus c.parts.at.now d.result.now c.in-Plus.e c.in-Plus.field-1 c.in-Plus.is d.ensures),
      c.parts.invariant.2,
    )

pub expr-parts-preserved-in-Neg : goal.expr-parts-preserved-in-Neg
expr-parts-preserved-in-Neg t c =
    let d = c.boxed_expr-at-in-Neg in (
      goes_in_neg c.args.around.now c.args.seen c.args.self.now c.parts.self (sites (expr c.args.e.now)) c.parts.waiting.items c.parts.at.now d.result.now
          c.in-Neg.e c.in-Neg.field-1 c.in-Neg.is d.ensures c.parts.invariant.0,
      omega (arith, c.parts.invariant.1, in_neg c.parts.at.now d.result.now c.in-Neg.e c.in-Neg.field-1 c.in-Neg.is d.ensures),
      c.parts.invariant.2,
    )

pub expr-parts-preserved-in-Not : goal.expr-parts-preserved-in-Not
expr-parts-preserved-in-Not t c =
    let d = c.boxed_expr-at-in-Not in (
      goes_in_not c.args.around.now c.args.seen c.args.self.now c.parts.self (sites (expr c.args.e.now)) c.parts.waiting.items c.parts.at.now d.result.now
          c.in-Not.e c.in-Not.field-1 c.in-Not.is d.ensures c.parts.invariant.0,
      omega (arith, c.parts.invariant.1, in_not c.parts.at.now d.result.now c.in-Not.e c.in-Not.field-1 c.in-Not.is d.ensures),
      c.parts.invariant.2,
    )

pub expr-parts-preserved-in-Two : goal.expr-parts-preserved-in-Two
expr-parts-preserved-in-Two t c =
    let d = c.boxed_expr-at-in-Two in
    let r = c.boxed_expr.result in (
      goes_left c.args.around.now c.args.seen c.args.self.now c.parts.self (sites (expr c.args.e.now)) c.parts.waiting.items c.push.new.self.items r c.parts.at.now
          d.result.now c.in-Two.field-0 c.in-Two.a c.in-Two.b c.in-Two.is d.ensures c.boxed_expr.ensures c.in_ok-push-in-Two.ensures.items c.parts.invariant.0,
      omega (arith, c.parts.invariant.1, in_left c.parts.at.now d.result.now c.in-Two.field-0 c.in-Two.a c.in-Two.b c.in-Two.is d.ensures),
      under_more c.args.e.now c.parts.waiting.items c.push.new.self.items r c.in_ok-push-in-Two.ensures.items c.parts.invariant.2
          (omega (arith, c.parts.invariant.1, in_right c.parts.at.now r.now c.in-Two.field-0 c.in-Two.a c.in-Two.b c.in-Two.is c.boxed_expr.ensures)),
    )

pub expr-parts-preserved : goal.expr-parts-preserved
expr-parts-preserved t c =
    let d = c.boxed_expr-at-in-If in (
      goes_last c.args.around.now c.args.seen c.args.self.now c.parts.self (sites (expr c.args.e.now)) c.expr.new.self c.expr-in-If.new.self c.parts.waiting.items
          c.parts.at.now c.boxed_expr-in-If.result.now c.boxed_expr-in-If-2.result.now d.result.now c.in-If.c c.in-If.a c.in-If.b c.in-If.field-3 c.in-If.is
          c.boxed_expr-in-If.ensures c.boxed_expr-in-If-2.ensures d.ensures c.in_ok-expr-in-If.ensures c.in_ok-expr-in-If-2.ensures c.parts.invariant.0,
      omega (arith, c.parts.invariant.1, in_otherwise c.parts.at.now d.result.now c.in-If.c c.in-If.a c.in-If.b c.in-If.field-3 c.in-If.is d.ensures),
      c.parts.invariant.2,
    )

pub expr-waiting-init : goal.expr-waiting-init
expr-waiting-init t c =
    let k = c.args.around.now in
    let seen = c.args.seen in
    let old = c.args.self.now in
    let now = c.parts.self in
    let all = sites (expr c.args.e.now) in
    let rs = c.parts.waiting.items in
    let back : (new : Findings) → ScopeWalks k seen now new (sites (expr c.parts.at.now)) → c.match-at.self ≡ new → Follows k seen old c.match-at.self all (waiting_parts rs) =
    λ new w is. comes_back_as k seen old now all new c.match-at.self rs c.parts.at.now w c.parts.invariant.0 is in (
      elim c.match-at.branch [
        | expr-in-Number w ↦ back now (walks_number k seen now c.parts.at.now _ _ w.in-Number.is) w.self-is
        | expr-in-Truth w ↦ back now (walks_truth k seen now c.parts.at.now _ _ w.in-Truth.is) w.self-is
        | expr-in-Variable+in_ok-variable-in-Variable w ↦
            back w.variable.new.self (walks_variable k seen now w.variable.new.self c.parts.at.now w.in-Variable.v w.in-Variable.is w.in_ok-variable-in-Variable.ensures) w.self-is
        | expr-in-Call+in_ok-call-in-Call w ↦
            back w.call.new.self (walks_called k seen now w.call.new.self c.parts.at.now w.in-Call.c w.in-Call.is w.in_ok-call-in-Call.ensures) w.self-is
        | expr-in-Happened+in_ok-name-in-Happened w ↦
            back w.name.new.self
            (walks_of k seen now w.name.new.self _ _ (expr_happened _ _ _ w.in-Happened.is)
            (walks_asked k seen now w.name.new.self test.Happened w.in-Happened.event w.in-Happened.field-1 w.in_ok-name-in-Happened.ensures.walks))
            w.self-is
        | expr-in-Available+in_ok-name-in-Available w ↦
            back w.name-in-Available.new.self
            (walks_of k seen now w.name-in-Available.new.self _ _ (expr_available _ _ _ w.in-Available.is)
            (walks_asked k seen now w.name-in-Available.new.self test.Available w.in-Available.event w.in-Available.field-1 w.in_ok-name-in-Available.ensures.walks))
            w.self-is
        | expr-in-Fix+in_ok-name-in-Fix w ↦
            back w.name-in-Fix.new.self
            (walks_of k seen now w.name-in-Fix.new.self _ _ (expr_fix _ _ _ w.in-Fix.is)
            (walks_asked k seen now w.name-in-Fix.new.self test.Fix w.in-Fix.event w.in-Fix.field-1 w.in_ok-name-in-Fix.ensures.walks))
            w.self-is
        | expr-in-WaitAny+in_ok-events-in-WaitAny w ↦
            back w.events.new.self
            (walks_of k seen now w.events.new.self _ _ (expr_waited _ _ _ w.in-WaitAny.is)
            (walks_waited k seen now w.events.new.self w.in-WaitAny.events w.in-WaitAny.field-1 w.in_ok-events-in-WaitAny.ensures))
            w.self-is
      ],
      c.parts.invariant.2,
    )

pub expr-expr-requires-in-Some : goal.expr-expr-requires-in-Some
expr-expr-requires-in-Some t c =
    let last = under_last c.args.e.now c.waiting.waiting.items c.pop.new.self.items c.in-Some.right c.in-Some.ensures.items c.waiting.invariant.1 in
    let smaller : 2 * size-Expr c.in-Some.right.now + 0 < t = omega (arith, last.0, c.decreases) in
    (smaller, tt)

pub expr-waiting-preserved : goal.expr-waiting-preserved
expr-waiting-preserved t c = (
  taken_up c.args.around.now c.args.seen c.args.self.now c.waiting.self (sites (expr c.args.e.now)) c.expr-in-Some.new.self c.waiting.waiting.items c.pop.new.self.items
      c.in-Some.right c.in-Some.ensures.items c.in_ok-expr.ensures c.waiting.invariant.0,
  (under_last c.args.e.now c.waiting.waiting.items c.pop.new.self.items c.in-Some.right c.in-Some.ensures.items c.waiting.invariant.1).1,
)

pub expr-returns : goal.expr-returns
expr-returns t c =
    none_waits c.args.around.now c.args.seen c.args.self.now c.waiting.self (sites (expr c.args.e.now)) c.waiting.waiting.items
    (none_left c.waiting.waiting.items (omega (arith, c.waiting.waiting.ok.0, c.in_default.ensures.cases.0))) c.waiting.invariant.0

pub variable-returns : goal.variable-returns
variable-returns t c =
    on_ok c.list.result
    (λ h.
    walks_then c.args.around.now c.args.seen c.args.self.now c.name.new.self c.list.new.self (λ a. at_name c.args.v.now.name a ∷ [])
    (inside_list (exprs c.args.v.now.subs)) c.in_ok-name.ensures.walks h)
    c.list.ensures
