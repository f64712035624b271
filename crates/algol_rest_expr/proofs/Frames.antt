-- Laws of frames.
use Rattle.std.proofs.Common.{◌≡◌, refl, List, [], ◌∷◌}
use Rattle.algol_tree.specs.Scopes.{Scopes}
use Rattle.algol_meaning.specs.Rest as rest
use Rattle.algol_meaning.specs.Rest.{Hole, busy, Answer}
use Rattle.algol_meaning.specs.Settle.{answer_put}
use Rattle.algol_meaning.specs.Asks.{ask_hole}
use Rattle.algol_meaning.specs.SeenTree.{expr, exprs}
use Rattle.algol_cells.specs.SeenValue.{value}
use Rattle.algol_rest_expr.specs.SeenExpression.{all_done, sorts_after, wrap, refilled}
use Rattle.algol_rest_expr.specs.declared.part.Frame.{Frame}
use Rattle.algol_rest_expr.specs.declared.part.Frame.TheVariants as frame

module _ (sc : Scopes) where
  pub refilled_busy : (fs : List Frame) (h : Hole) → refilled sc fs (busy h) ≡ busy (wrap sc fs h)
  refilled_busy [] h = refl
  refilled_busy (frame.Subscript n ks es ∷ fs) h = refilled_busy fs (rest.subscript n.now ks h (exprs es.now))
  refilled_busy (frame.Argument n gs es ∷ fs) h =
      refilled_busy fs (rest.argument n.now (rest.in_value (all_done gs) h (sorts_after sc n.now gs) (exprs es.now)))
  refilled_busy (frame.Left op e ∷ fs) h = refilled_busy fs (rest.left op h (expr e.now))
  refilled_busy (frame.Right op v ∷ fs) h = refilled_busy fs (rest.right op (value v) h)
  refilled_busy (frame.Negated ∷ fs) h = refilled_busy fs (rest.negated h)
  refilled_busy (frame.Inverted ∷ fs) h = refilled_busy fs (rest.inverted h)
  refilled_busy (frame.Condition x y ∷ fs) h = refilled_busy fs (rest.condition h (expr x.now) (expr y.now))

  pub put_wrap : (fs : List Frame) (h : Hole) (a : Answer) → answer_put sc (wrap sc fs h) a ≡ refilled sc fs (answer_put sc h a)
  put_wrap [] h a = refl
  put_wrap (frame.Subscript n ks es ∷ fs) h a = put_wrap fs (rest.subscript n.now ks h (exprs es.now)) a
  put_wrap (frame.Argument n gs es ∷ fs) h a =
      put_wrap fs (rest.argument n.now (rest.in_value (all_done gs) h (sorts_after sc n.now gs) (exprs es.now))) a
  put_wrap (frame.Left op e ∷ fs) h a = put_wrap fs (rest.left op h (expr e.now)) a
  put_wrap (frame.Right op v ∷ fs) h a = put_wrap fs (rest.right op (value v) h) a
  put_wrap (frame.Negated ∷ fs) h a = put_wrap fs (rest.negated h) a
  put_wrap (frame.Inverted ∷ fs) h a = put_wrap fs (rest.inverted h) a
  put_wrap (frame.Condition x y ∷ fs) h a = put_wrap fs (rest.condition h (expr x.now) (expr y.now)) a

  pub ask_wrap : (fs : List Frame) (h : Hole) → ask_hole (wrap sc fs h) ≡ ask_hole h
  ask_wrap [] h = refl
  ask_wrap (frame.Subscript n ks es ∷ fs) h = ask_wrap fs (rest.subscript n.now ks h (exprs es.now))
  ask_wrap (frame.Argument n gs es ∷ fs) h =
      ask_wrap fs (rest.argument n.now (rest.in_value (all_done gs) h (sorts_after sc n.now gs) (exprs es.now)))
  ask_wrap (frame.Left op e ∷ fs) h = ask_wrap fs (rest.left op h (expr e.now))
  ask_wrap (frame.Right op v ∷ fs) h = ask_wrap fs (rest.right op (value v) h)
  ask_wrap (frame.Negated ∷ fs) h = ask_wrap fs (rest.negated h)
  ask_wrap (frame.Inverted ∷ fs) h = ask_wrap fs (rest.inverted h)
  ask_wrap (frame.Condition x y ∷ fs) h = ask_wrap fs (rest.condition h (expr x.now) (expr y.now))

pub ruleset busy_laws = refilled_busy
