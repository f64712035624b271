-- The forms of expression, each as it is matched.
use Rattle.b67_deeds.specs.declared.EventTest.{EventTest}
use Rattle.b67_deeds.specs.Deeds.{tests}
use Rattle.std.proofs.Common.{◌≡◌, ℕ, ◌+◌, ◌*◌, length, Result, Ok, Err, List, refl, sym, ap, ◌∙◌, subst}
use Rattle.std.specs.Result.{OnOk}
use Rattle.algol_tree.specs.declared.token.Spot.{Spot}
use Rattle.algol_tree.specs.declared.tree.EventName.{EventName}
use Rattle.algol_tree.specs.declared.tree.Expr.{Expr}
use Rattle.algol_tree.specs.declared.tree.Expr as expressions
use Rattle.algol_tree.specs.declared.tree.Variable.{Variable}
use Rattle.algol_tree.specs.declared.tree.Call.{Call}
use Rattle.algol_tree.specs.Counts.{expr_tokens, variable_tokens, call_tokens}
use Rattle.algol_tree.specs.Image.{expr, exprs, variable, call}
use Rattle.algol_tree.specs.Plain as tree
use Rattle.algol_tree.specs.Plain.{PExpr}
use Rattle.algol_tree.proofs.Images.{call_is}
use Rattle.b67_ops.specs.Intrinsics.{intrinsic_of}
use Rattle.b67_segment.specs.Building.{Built}
use Rattle.b67_templates.specs.Paying.{inline}
use Rattle.b67_emitter.specs.declared.names.Names.{Names}
use Rattle.b67_emitter.specs.Values.{meanings, HasCode, ValueEmitted, ValueWithExits, HasCall, CallEmitted, HasEvents, EventsEmitted}
use Rattle.b67_emit_expr.proofs.Shapes.{naming_is, calling_is}
use Rattle.b67_emit_expr.proofs.Forms.{listed_as, variable_form, tested_form, call_form}

pub on_ok_both : {T E P Q R : Type 0} (r : Result T E) → (P → Q → R) → OnOk r P → OnOk r Q → OnOk r R
on_ok_both (Ok x) f p q = f p q
on_ok_both (Err e) f p q = tt

module _ (s : Names) (level : ℕ) where
  -- what is matched has this plain tree
  pub has_as : (e : Expr) (p : PExpr) → expr e ≡ p → HasCode s level (expr e) → HasCode s level p
  has_as e p is h = let H : PExpr → Type 0 = λ x. HasCode s level x in subst H is h

  pub emitted_as : (a b : Built) (xs ys : List ℕ) (e : Expr) (p : PExpr) → expr e ≡ p → ValueWithExits s level a b xs ys p → ValueWithExits s level a b xs ys (expr e)
  emitted_as a b xs ys e p is h = let V : PExpr → Type 0 = λ x. ValueWithExits s level a b xs ys x in subst V (sym is) h

  -- a variable
  module _ (e : Expr) (v : Variable) (is : e ≡ expressions.Variable v) where
    shape : expr e ≡ tree.variable (variable v)
    shape = ap expr is ∙ naming_is v

    pub variable_as : expr_tokens (expr e) ≡ variable_tokens (variable v)
    variable_as = ap expr_tokens shape

    pub variable_syllables : inline (meanings s) (expr e) ≡ inline (meanings s) (tree.variable (variable v))
    variable_syllables = ap (inline (meanings s)) shape

    pub variable_has : HasCode s level (expr e) → HasCode s level (tree.variable (variable v))
    variable_has h = has_as e (tree.variable (variable v)) shape h

    pub variable_arm : (a b : Built) (xs ys : List ℕ) → ys ≡ xs → ValueEmitted s level a b (tree.variable (variable v)) → ValueWithExits s level a b xs ys (expr e)
    variable_arm a b xs ys same h =
        emitted_as a b xs ys e (tree.variable (variable v)) shape
        (listed_as s level a b xs xs xs ys (tree.variable (variable v)) refl (sym same) (variable_form s level a b xs (variable v) h))

  -- a call
  module _ (e : Expr) (c : Call) (is : e ≡ expressions.Call c) where
    calling : expr e ≡ tree.call (call c)
    calling = ap expr is ∙ calling_is c

    pub calling_tokens : expr_tokens (expr e) ≡ call_tokens (call c)
    calling_tokens = ap expr_tokens calling

    pub calling_syllables : inline (meanings s) (expr e) ≡ inline (meanings s) (tree.call (call c))
    calling_syllables = ap (inline (meanings s)) calling

    pub call_has : HasCode s level (expr e) → HasCall s level (call c)
    call_has h =
        let has = has_as e (tree.call (tree.called c.name (exprs c.actuals))) (calling ∙ ap tree.call (call_is c)) h in
        record {
          scopes = has.scopes;
          own = has.own;
          block = has.block;
          name = c.name;
          actuals = exprs c.actuals;
          callee = has.fits.0;
          call_is = call_is c;
          outer = has.outer;
          procedure = has.fits.1;
          fits = has.fits.2;
        }

    pub call_arm : (a b : Built) (xs ys : List ℕ) → ys ≡ xs → CallEmitted s level a b (call c) → ValueWithExits s level a b xs ys (expr e)
    call_arm a b xs ys same h =
        emitted_as a b xs ys e (tree.call (call c)) calling (listed_as s level a b xs xs xs ys (tree.call (call c)) refl (sym same) (call_form s level a b xs (call c) h))

  -- a test of events
  module _ (e : Expr) (x : EventTest) (es : List EventName) (spot : Spot) (is : expr e ≡ tree.tested x es spot) where
    pub tested_syllables : inline (meanings s) (expr e) ≡ 4 + 2 * length es
    tested_syllables = ap (inline (meanings s)) is

    pub tested_has : HasCode s level (expr e) → HasEvents s level es
    tested_has h =
        let has = has_as e (tree.tested x es spot) is h in
        record { scopes = has.scopes; own = has.own; outer = has.outer; fits = has.fits.2 }

    pub tested_arm : (a b : Built) (xs : List ℕ) → EventsEmitted s level a b (intrinsic_of (tests x)) es → ValueWithExits s level a b xs xs (expr e)
    tested_arm a b xs h = emitted_as a b xs xs e (tree.tested x es spot) is (tested_form s level a b xs x es spot h)
