-- What the frames of an expression stand for.
use Rattle.std.specs.Prelude.{◌≡◌, ℕ, ◌+◌, ◌<◌, ◌≤◌, List, [], ◌∷◌, map, length, drop}
use Rattle.algol_tree.specs.Plain as tree
use Rattle.algol_tree.specs.Plain.{PExpr, PVariable, PCall, PExprs}
use Rattle.algol_tree.specs.Sorts.{Sort}
use Rattle.algol_tree.specs.Scopes.{Scopes}
use Rattle.algol_tree.specs.declared.tree.Named.{Named}
use Rattle.algol_tree.specs.declared.tree.EventName.{EventName}
use Rattle.algol_meaning.specs.Rest as rest
use Rattle.algol_meaning.specs.Rest.{Hole, Half, val, busy, HalfGiven, given, wants}
use Rattle.algol_meaning.specs.Settle.{sorts_of, callee, settle, settle_actuals, left_of, right_of, negated_of, inverted_of, condition_of, subscripted_of, called_of, valued_of}
use Rattle.algol_meaning.specs.SeenTree.{expr, exprs}
use Rattle.algol_cells.specs.SeenValue as seen
use Rattle.algol_cells.specs.SeenCell.{reference, cell}
use Rattle.algol_rest_expr.specs.declared.part.Place.{Place}
use Rattle.algol_rest_expr.specs.declared.part.Place.TheVariants as places
use Rattle.algol_rest_expr.specs.declared.part.Answer.{Answer}
use Rattle.algol_rest_expr.specs.declared.part.Answer.TheVariants as answers
use Rattle.algol_rest_expr.specs.declared.part.Given.{Given}
use Rattle.algol_rest_expr.specs.declared.part.Given.TheVariants as givens
use Rattle.algol_rest_expr.specs.declared.part.Head.{Head}
use Rattle.algol_rest_expr.specs.declared.part.Head.TheVariants as head
use Rattle.algol_rest_expr.specs.declared.part.Frame.{Frame}
use Rattle.algol_rest_expr.specs.declared.part.Frame.TheVariants as frame
use Rattle.algol_rest_expr.specs.declared.part.Control.{Control}
use Rattle.algol_rest_expr.specs.declared.part.Control.TheVariants as control
use Rattle.algol_rest_expr.specs.declared.part.Outcome.{Outcome}
use Rattle.algol_rest_expr.specs.declared.part.Outcome.TheVariants as outcome
use Rattle.algol_rest_expr.specs.declared.part.Supplied.{Supplied}
use Rattle.algol_rest_expr.specs.declared.part.Supplied.TheVariants as supplied
use Rattle.algol_rest_expr.specs.declared.part.Supply.{Supply}
use Rattle.algol_rest_expr.specs.declared.part.Supply.TheVariants as supply
use Rattle.algol_tree.specs.declared.tree.Expr.{Expr}

-- ---- places and answers

abbrev pub place : Place → rest.Place
place (places.Own n) = rest.own n.now
place (places.There r) = rest.there (reference r)
place (places.ElementOf r ks) = rest.element_of (reference r) ks

abbrev pub rest_answered : Answer → rest.Answer
rest_answered answers.Done = rest.done
rest_answered (answers.Value v) = rest.value (seen.value v)
rest_answered (answers.Cell c) = rest.cell (cell c)
rest_answered (answers.Place p) = rest.place (place p)
rest_answered answers.Entered = rest.entered

-- ---- heads and frames

-- the names of events
abbrev pub event_names_of : List EventName → List Named
event_names_of es = map (λ (e : EventName). e.name) es

abbrev pub done : Given → rest.Given
done (givens.Valued v) = rest.valued (seen.value v)
done (givens.Passed c) = rest.passed (cell c)
done (givens.Refers n) = rest.refers n.now
done (givens.Names e) = rest.names (expr e.now)

abbrev pub all_done : List Given → List rest.Given
all_done gs = map done gs

module _ (sc : Scopes) where
  -- the sorts of the parameters from that number on
  abbrev pub sorts_from : Named → ℕ → List Sort
  sorts_from callee_name k = drop k (sorts_of ((callee sc callee_name).parameters))

  -- those after the parameter whose actual is next, where so many are done
  abbrev pub sorts_after : Named → List Given → List Sort
  sorts_after n gs = sorts_from n (length gs + 1)

  abbrev pub hole : Head → Hole
  hole (head.Read n) = rest.read n.now
  hole (head.Element n ks v) = rest.element n.now ks (seen.value v)
  hole (head.Index n ks v e es) = rest.index n.now ks (seen.value v) (expr e.now) (exprs es.now)
  hole (head.Tests test es) = rest.tests test (event_names_of es.now)
  hole (head.Broken op v w fault) = rest.broken op (seen.value v) (seen.value w) fault
  hole (head.Enter n gs) = rest.enter n.now (all_done gs)
  hole (head.Pass n gs m es) = rest.argument n.now (rest.pass (all_done gs) m.now (sorts_after n.now gs) (exprs es.now))
  hole head.Inside = rest.inside

  -- the innermost frame first
  abbrev pub wrap : List Frame → Hole → Hole
  wrap [] h = h
  wrap (frame.Subscript n ks es ∷ fs) h = wrap fs (rest.subscript n.now ks h (exprs es.now))
  wrap (frame.Argument n gs es ∷ fs) h = wrap fs (rest.argument n.now (rest.in_value (all_done gs) h (sorts_after n.now gs) (exprs es.now)))
  wrap (frame.Left op e ∷ fs) h = wrap fs (rest.left op h (expr e.now))
  wrap (frame.Right op v ∷ fs) h = wrap fs (rest.right op (seen.value v) h)
  wrap (frame.Negated ∷ fs) h = wrap fs (rest.negated h)
  wrap (frame.Inverted ∷ fs) h = wrap fs (rest.inverted h)
  wrap (frame.Condition x y ∷ fs) h = wrap fs (rest.condition h (expr x.now) (expr y.now))

  -- what a frame makes of what is inside it
  abbrev pub around : Frame → Half → Half
  around (frame.Subscript n ks es) x = subscripted_of n.now ks x (exprs es.now)
  around (frame.Argument n gs es) x =
      called_of n.now (valued_of (all_done gs) x (sorts_after n.now gs) (exprs es.now) (settle_actuals sc (exprs es.now) (sorts_after n.now gs)))
  around (frame.Left op e) x = left_of op x (expr e.now) (settle sc (expr e.now))
  around (frame.Right op v) x = right_of op (seen.value v) x
  around frame.Negated x = negated_of x
  around frame.Inverted x = inverted_of x
  around (frame.Condition a b) x = condition_of x (expr a.now) (expr b.now) (settle sc (expr a.now)) (settle sc (expr b.now))

  abbrev pub refilled : List Frame → Half → Half
  refilled [] x = x
  refilled (f ∷ fs) x = refilled fs (around f x)

  abbrev pub half : Control → Half
  half (control.Eval e) = settle sc (expr e.now)
  half (control.Value v) = val (seen.value v)
  half (control.Found h) = busy (hole h)

-- ---- what is still to be done for a value

abbrev mutual
  pub expr_size : PExpr → ℕ
  expr_size (tree.number z spot) = 1
  expr_size (tree.truth b spot) = 1
  expr_size (tree.variable v) = variable_size v
  expr_size (tree.call c) = call_size c
  expr_size (tree.tested test es spot) = 1
  expr_size (tree.paren e spot) = 1 + expr_size e
  expr_size (tree.plus e spot) = 1 + expr_size e
  expr_size (tree.neg e spot) = 2 + expr_size e
  expr_size (tree.not e spot) = 2 + expr_size e
  expr_size (tree.two op a b) = 3 + expr_size a + expr_size b
  expr_size (tree.if c x y spot) = 2 + expr_size c + expr_size x + expr_size y

  pub variable_size : PVariable → ℕ
  variable_size (tree.subscripted n es) = 2 + exprs_size es

  pub call_size : PCall → ℕ
  call_size (tree.called n es) = 2 + exprs_size es

  pub exprs_size : PExprs → ℕ
  exprs_size tree.none = 0
  exprs_size (tree.more e es) = 1 + expr_size e + exprs_size es

abbrev pub frame_size : Frame → ℕ
frame_size (frame.Subscript n ks es) = 1
frame_size (frame.Argument n gs es) = 1 + exprs_size (exprs es.now)
frame_size (frame.Left op e) = 2 + expr_size (expr e.now)
frame_size (frame.Right op v) = 1
frame_size frame.Negated = 1
frame_size frame.Inverted = 1
frame_size (frame.Condition x y) = 1 + expr_size (expr x.now) + expr_size (expr y.now)

abbrev pub weigh_frames : List Frame → ℕ
weigh_frames [] = 0
weigh_frames (f ∷ fs) = frame_size f + weigh_frames fs

abbrev pub weigh_control : Control → List Frame → ℕ
weigh_control (control.Eval e) fs = expr_size (expr e.now) + weigh_frames fs
weigh_control (control.Value v) fs = weigh_frames fs
weigh_control (control.Found h) fs = 0

module _ (sc : Scopes) where
  -- One silent step of an expression: it comes to the same, and less is left to do.
  abbrev pub Moves : Half → ℕ → Control → List Frame → Type 0
  Moves x bound c after = (x ≡ refilled sc after (half sc c)) × (weigh_control c after < bound)

  -- what comes out
  abbrev pub HalfComes : Half → Outcome → List Frame → Type 0
  HalfComes x (outcome.Value v) after = (x ≡ val (seen.value v)) × (after ≡ [])
  HalfComes x (outcome.Busy h) after = x ≡ busy (wrap sc after (hole sc h))

  -- a half with nothing around it
  abbrev pub Calculates : Half → Control → Type 0
  Calculates x c = (x ≡ half sc c) × (weigh_control c [] < 1)

  -- what the actuals of a call come to
  abbrev pub Supplies : Named → HalfGiven → ℕ → Supplied → Type 0
  Supplies n x bound (supplied.Given gs) = x ≡ given (all_done gs)
  Supplies n x bound (supplied.Pass gs m es) = x ≡ wants (rest.pass (all_done gs) m.now (sorts_after sc n gs) (exprs es.now))
  Supplies n x bound (supplied.Value gs e es) =
      (x ≡ valued_of (all_done gs) (settle sc (expr e.now)) (sorts_after sc n gs) (exprs es.now) (settle_actuals sc (exprs es.now) (sorts_after sc n gs)))
      × (1 + expr_size (expr e.now) + exprs_size (exprs es.now) ≤ bound)

  -- what they come to after one of them; the list are the actuals after it
  abbrev pub IsSupplied : Named → List Expr → HalfGiven → ℕ → Supply → Type 0
  IsSupplied n es x bound (supply.Further gs) = x ≡ settle_actuals sc (exprs es) (sorts_from sc n (length gs)) (all_done gs)
  IsSupplied n es x bound (supply.Stopped s) = Supplies n x bound s
