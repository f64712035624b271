use Rattle.std.proofs.Common.{◌≡◌, ◌+◌, ◌∙◌, ◌++◌, [], ◌∷◌, Bool, List, drop, ap, sym, refl, append-nil, slice_get}
use Rattle.std.proofs.lemmas.List.{drop_more, drop_all}
use Rattle.std.proofs.lemmas.Result.{on_ok_weaker}
use Rattle.algol_tree.specs.declared.tree.Expr.{Expr}
use Rattle.algol_tree.specs.Image.{expr, exprs}
use Rattle.algol_tree.specs.Plain.{PCall}
use Rattle.algol_tree.proofs.Images.{call_is}
use Rattle.b67_templates.specs.Paying.{if_known, modes_of}
use Rattle.b67_emitter.specs.Values.{meanings, meant}
use Rattle.algol_known.proofs.Plain.{expr_if, expr_two}
use Rattle.b67_emit_stmt.specs.Actuals.{images, celled, cells_in_actual, cells_among, cells_in_call, cells_given}
use Rattle.b67_emit_stmt.proofs.Gathered.{carried, given_next, next_part, joined}
use Rattle.b67_emit_stmt.proofs.actuals.+actuals.Goals as goal

pub in_expr-returns-in_ok-in_expr-in-Two : goal.in_expr-returns-in_ok-in_expr-in-Two
in_expr-returns-in_ok-in_expr-in-Two t c =
    let told = meanings c.args.names.now in
    let a = c.deref-in-Two.result.now in
    let b = c.deref-in-Two-2.result.now in
    let w = c.in-Two in
    on_ok_weaker c.in_expr-in-Two-2.result
    (joined (images c.args.to.now.items) (images c.in_expr-in-Two.new.to.items) (images c.in_expr-in-Two-2.new.to.items) (cells_in_actual told (expr a)) (cells_in_actual told (expr b)) (cells_in_actual told (expr c.args.e.now))
    (ap (cells_in_actual told) (expr_two c.args.e.now w.field-0 w.a w.b a b w.is c.deref-in-Two.ensures c.deref-in-Two-2.ensures)) c.in_ok-in_expr-in-Two.ensures)
    c.in_expr-in-Two-2.ensures

pub in_expr-returns-in_ok-in_expr-in-If-2 : goal.in_expr-returns-in_ok-in_expr-in-If-2
in_expr-returns-in_ok-in_expr-in-If-2 t c =
    let told = meanings c.args.names.now in
    let k = c.deref-in-If.result.now in
    let x = c.deref-in-If-2.result.now in
    let y = c.deref-in-If-3.result.now in
    let w = c.in-If in
    let old = images c.args.to.now.items in
    let first = images c.in_expr-in-If.new.to.items in
    let second = images c.in_expr-in-If-2.new.to.items in
    on_ok_weaker c.in_expr-in-If-3.result
    (joined old second (images c.in_expr-in-If-3.new.to.items) (cells_in_actual told (expr k) ++ cells_in_actual told (expr x)) (cells_in_actual told (expr y)) (cells_in_actual told (expr c.args.e.now))
    (ap (cells_in_actual told) (expr_if c.args.e.now w.c w.x w.y w.field-3 k x y w.is c.deref-in-If.ensures c.deref-in-If-2.ensures c.deref-in-If-3.ensures))
    (joined old first second (cells_in_actual told (expr k)) (cells_in_actual told (expr x)) (cells_in_actual told (expr k) ++ cells_in_actual told (expr x)) refl c.in_ok-in_expr-in-If.ensures c.in_ok-in_expr-in-If-2.ensures))
    c.in_expr-in-If-3.ensures

pub in_exprs-exprs-preserved : goal.in_exprs-exprs-preserved
in_exprs-exprs-preserved t c =
    let told = meanings c.args.names.now in
    let xs = c.args.es.now in
    next_part (λ (l : List Expr). cells_among told (exprs l)) (λ (e : Expr). cells_in_actual told (expr e)) (λ e l. refl) xs c.exprs.e-index c.e-item.result
    (images c.exprs.to.items) (images c.in_expr.new.to.items) (images c.args.to.now.items) (cells_among told (exprs xs)) c.exprs-test.true c.e-item.is c.in_ok-in_expr.ensures c.exprs.invariant

pub in_call-actuals-preserved : goal.in_call-actuals-preserved
in_call-actuals-preserved t c =
    let told = meanings c.args.names.now in
    let k = c.args.c.now in
    let modes = modes_of (meant c.args.names.now k.name.spot) in
    let xs = c.deref-actual-items.result.now in
    let i = c.actuals.number in
    let x = c.actual-item.result in
    let next : drop i xs ≡ x ∷ drop (i + 1) xs = drop_more xs i x c.actuals-test.true ∙ ap (λ y. y ∷ drop (i + 1) xs) (sym c.actual-item.is) in
    let split = ap (λ (l : List Expr). cells_given told (drop i modes) (exprs l)) next ∙ given_next told modes i (expr x) (exprs (drop (i + 1) xs)) in
    carried (images c.args.to.now.items) (images c.actuals.to.items) (images c.own_if.new.to.items) (images c.in_expr.new.to.items) (celled told (if_known (slice_get modes i)) (expr x)) (cells_in_actual told (expr x))
    (cells_given told (drop i modes) (exprs (drop i xs))) (cells_given told (drop (i + 1) modes) (exprs (drop (i + 1) xs))) (cells_given told modes (exprs k.actuals)) split
    (c.in_ok-own_if.ensures ∙ ap (λ (m : Bool). images c.actuals.to.items ++ celled told m (expr x)) c.takes_name.ensures) c.in_ok-in_expr.ensures c.actuals.invariant

pub in_call-returns : goal.in_call-returns
in_call-returns t c =
    let told = meanings c.args.names.now in
    let k = c.args.c.now in
    let modes = modes_of (meant c.args.names.now k.name.spot) in
    let xs = c.deref-actual-items.result.now in
    let i = c.actuals.number in
    let none : drop i xs ≡ [] = drop_all i xs c.actuals-test.false in
    sym (append-nil (images c.actuals.to.items)) ∙ ap (λ (l : List Expr). images c.actuals.to.items ++ cells_given told (drop i modes) (exprs l)) (sym none) ∙ c.actuals.invariant
    ∙ ap (λ (p : PCall). images c.args.to.now.items ++ cells_in_call told p) (sym (call_is k))
