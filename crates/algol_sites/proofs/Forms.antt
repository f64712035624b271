-- The types of expressions, where the scopes tell of the names in them, and what is told of an expression by its form.
use Rattle.std.proofs.Common.{rules, ◌≡◌, List, Option, ap, sym, ◌∙◌, subst, [], ◌∷◌}
use Rattle.std.specs.declared.boxed.Box.{Box}
use Rattle.std.specs.declared.alloc.Global.{Global}
use Rattle.b67_deeds.specs.declared.EventTest.{EventTest}
use Rattle.b67_deeds.specs.declared.EventTest.TheVariants as test
use Rattle.algol_tree.specs.declared.token.Spot.{Spot}
use Rattle.algol_tree.specs.declared.tree.Kind.{Kind}
use Rattle.algol_tree.specs.declared.tree.Op.{Op}
use Rattle.algol_tree.specs.declared.tree.Expr.{Expr}
use Rattle.algol_tree.specs.declared.tree.Expr as expressions
use Rattle.algol_tree.specs.declared.tree.EventName.{EventName}
use Rattle.algol_tree.specs.declared.tree.Variable.{Variable}
use Rattle.algol_tree.specs.declared.tree.Call.{Call}
use Rattle.algol_tree.specs.Plain as tree
use Rattle.algol_tree.specs.Plain.{PExpr, PExprs}
use Rattle.algol_tree.specs.Image.{expr, exprs, variable}
use Rattle.algol_tree.specs.Classes.{Class}
use Rattle.algol_tree.specs.Surroundings.{Surroundings, class_of}
use Rattle.algol_tree.specs.Types.{result_type, type_of}
use Rattle.algol_tree.proofs.Images.{if_image, neg_image, not_image, paren_image, plus_image, two_image, variable_is}
use Rattle.algol_sorts.specs.declared.sort.Sort.{Sort}
use Rattle.algol_frames.specs.declared.scopes.Scopes.{Scopes}
use Rattle.algol_told.specs.Telling.{ScopesTell}
use Rattle.algol_sites.specs.Noting.{type_by}
use Rattle.algol_sites.specs.Seen.{class_seen, sort_there}
use Rattle.algol_sites.specs.Seeing.{TellsEach, TellsEvents, TellsIn}
use Rattle.algol_sites.proofs.Parts.{call_image}
use Rattle.algol_sites.proofs.Seen.{Resembles, class_told}

-- ---- the plain trees

pub variable_image : (v : Variable) → expr (expressions.Variable v) ≡ tree.variable (tree.subscripted v.name (exprs v.subs))
variable_image v = plain v ∙ ap tree.variable (variable_is v)
  where
    plain : (v : Variable) → expr (expressions.Variable v) ≡ tree.variable (variable v)
    plain v = search (rules, expressions.the_lemmas)

pub happened_image : (x : EventName) (spot : Spot) → expr (expressions.Happened x spot) ≡ tree.tested test.Happened (x ∷ []) spot
happened_image x spot = search (rules, expressions.the_lemmas)

pub available_image : (x : EventName) (spot : Spot) → expr (expressions.Available x spot) ≡ tree.tested test.Available (x ∷ []) spot
available_image x spot = search (rules, expressions.the_lemmas)

pub fix_image : (x : EventName) (spot : Spot) → expr (expressions.Fix x spot) ≡ tree.tested test.Fix (x ∷ []) spot
fix_image x spot = search (rules, expressions.the_lemmas)

pub waited_image : (es : List EventName) (spot : Spot) → expr (expressions.WaitAny es spot) ≡ tree.tested test.WaitAny es spot
waited_image es spot = search (rules, expressions.the_lemmas)

-- ---- what is told, by the form

module _ (s : Scopes) (a : Surroundings) (e : Expr) (t : TellsIn s a (expr e)) where
  abbrev P : PExpr → Type 0
  P = TellsIn s a

  pub told_variable : (v : Variable) → e ≡ expressions.Variable v → ScopesTell s a v.name × TellsEach s a (exprs v.subs)
  told_variable v is = subst P (ap expr is ∙ variable_image v) t

  pub told_call : (c : Call) → e ≡ expressions.Call c → ScopesTell s a c.name × TellsEach s a (exprs c.actuals)
  told_call c is = subst P (ap expr is ∙ call_image c) t

  pub told_asked : (y : EventTest) (x : EventName) (spot : Spot) → expr e ≡ tree.tested y (x ∷ []) spot → ScopesTell s a x.name
  told_asked y x spot is = (subst P is t).0

  pub told_waited : (es : List EventName) (spot : Spot) → e ≡ expressions.WaitAny es spot → TellsEvents s a es
  told_waited es spot is = subst P (ap expr is ∙ waited_image es spot) t

  inner : (x : Box Expr Global) (y : Expr) → y ≡ x.value → TellsIn s a (expr x.value) → TellsIn s a (expr y)
  inner x y same k = let Q : Expr → Type 0 = λ z. TellsIn s a (expr z) in subst Q (sym same) k

  pub told_paren : (x : Box Expr Global) (spot : Spot) (y : Expr) → e ≡ expressions.Paren x spot → y ≡ x.value → TellsIn s a (expr y)
  told_paren x spot y is same = inner x y same (subst P (ap expr is ∙ paren_image x spot) t)

  pub told_plus : (x : Box Expr Global) (spot : Spot) (y : Expr) → e ≡ expressions.Plus x spot → y ≡ x.value → TellsIn s a (expr y)
  told_plus x spot y is same = inner x y same (subst P (ap expr is ∙ plus_image x spot) t)

  pub told_neg : (x : Box Expr Global) (spot : Spot) (y : Expr) → e ≡ expressions.Neg x spot → y ≡ x.value → TellsIn s a (expr y)
  told_neg x spot y is same = inner x y same (subst P (ap expr is ∙ neg_image x spot) t)

  pub told_not : (x : Box Expr Global) (spot : Spot) (y : Expr) → e ≡ expressions.Not x spot → y ≡ x.value → TellsIn s a (expr y)
  told_not x spot y is same = inner x y same (subst P (ap expr is ∙ not_image x spot) t)

  pub told_two : (op : Op) (x y : Box Expr Global) (v w : Expr) → e ≡ expressions.Two op x y → v ≡ x.value → w ≡ y.value →
      TellsIn s a (expr v) × TellsIn s a (expr w)
  told_two op x y v w is p q = let k = subst P (ap expr is ∙ two_image op x y) t in (inner x v p k.0, inner y w q k.1)

  pub told_if : (x y z : Box Expr Global) (spot : Spot) (u v w : Expr) → e ≡ expressions.If x y z spot → u ≡ x.value → v ≡ y.value → w ≡ z.value →
      TellsIn s a (expr u) × (TellsIn s a (expr v) × TellsIn s a (expr w))
  told_if x y z spot u v w is p q r =
      let k = subst P (ap expr is ∙ if_image x y z spot) t in (inner x u p k.0, (inner y v q k.1.0, inner z w r k.1.1))

  -- ---- types

  type_by_told : (c : Class) (v : Variable) (es : PExprs) → Resembles c (class_of a v.name) → type_by c es ≡ type_of (tree.variable (tree.subscripted v.name es)) a
  type_by_told c v tree.none r = r.read
  type_by_told c v (tree.more x xs) r = r.element

  pub variable_typed : (v : Variable) (so : Sort) (k : Option Kind) → e ≡ expressions.Variable v → so ≡ sort_there s v.name.spot →
      k ≡ type_by (class_seen so) (exprs v.subs) → k ≡ type_of (expr e) a
  variable_typed v so k is p q =
      q ∙ ap (λ (z : Sort). type_by (class_seen z) (exprs v.subs)) p
      ∙ type_by_told (class_seen (sort_there s v.name.spot)) v (exprs v.subs) (class_told s a v.name (told_variable v is).0)
      ∙ sym (ap (λ x. type_of x a) (ap expr is ∙ variable_image v))

  pub call_typed : (c : Call) (so : Sort) (k : Option Kind) → e ≡ expressions.Call c → so ≡ sort_there s c.name.spot →
      k ≡ result_type (class_seen so) → k ≡ type_of (expr e) a
  call_typed c so k is p q =
      q ∙ ap (λ (z : Sort). result_type (class_seen z)) p ∙ (class_told s a c.name (told_call c is).0).result
      ∙ sym (ap (λ x. type_of x a) (ap expr is ∙ call_image c))

  pub paren_typed : (x : Box Expr Global) (spot : Spot) (y : Expr) (k : Option Kind) → e ≡ expressions.Paren x spot → y ≡ x.value →
      k ≡ type_of (expr y) a → k ≡ type_of (expr e) a
  paren_typed x spot y k is same q =
      q ∙ ap (λ z. type_of (expr z) a) same ∙ sym (ap (λ z. type_of z a) (ap expr is ∙ paren_image x spot))

  pub if_typed : (x y z : Box Expr Global) (spot : Spot) (v : Expr) (k : Option Kind) → e ≡ expressions.If x y z spot → v ≡ y.value →
      k ≡ type_of (expr v) a → k ≡ type_of (expr e) a
  if_typed x y z spot v k is same q =
      q ∙ ap (λ u. type_of (expr u) a) same ∙ sym (ap (λ u. type_of u a) (ap expr is ∙ if_image x y z spot))
