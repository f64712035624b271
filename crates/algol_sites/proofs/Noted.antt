-- What is noted of an expression, by its form.
use Rattle.std.proofs.Common.{◌≡◌, List, [], ◌∷◌, Option, ap, sym, ◌∙◌}
use Rattle.algol_tree.specs.declared.refusal.Code.TheVariants as codes
use Rattle.std.specs.declared.boxed.Box.{Box}
use Rattle.std.specs.declared.alloc.Global.{Global}
use Rattle.b67_deeds.specs.declared.EventTest.{EventTest}
use Rattle.b67_deeds.specs.declared.EventTest.TheVariants as test
use Rattle.algol_tree.specs.declared.token.Spot.{Spot}
use Rattle.algol_tree.specs.declared.refusal.Fault.{Fault}
use Rattle.algol_tree.specs.declared.tree.Kind.TheVariants as kinds
use Rattle.algol_tree.specs.declared.tree.EventName.{EventName}
use Rattle.algol_tree.specs.declared.tree.Expr.{Expr}
use Rattle.algol_tree.specs.declared.tree.Expr as expressions
use Rattle.algol_tree.specs.declared.tree.Variable.{Variable}
use Rattle.algol_tree.specs.Plain as tree
use Rattle.algol_tree.specs.Plain.{PExpr}
use Rattle.algol_tree.specs.Image.{expr, exprs, variable}
use Rattle.algol_tree.specs.Surroundings.{Surroundings, class_of}
use Rattle.algol_tree.specs.Accepted.{noted_all}
use Rattle.algol_tree.specs.Sites.{inside_list, sites}
use Rattle.algol_tree.proofs.Images.{neg_image, not_image, paren_image, plus_image, variable_is}
use Rattle.algol_sites.specs.Noting.{broken_if, mistyped, noted_in}
use Rattle.algol_sites.specs.Wanting.{are_miscounted, unfit_event, unfit_events}
use Rattle.algol_sites.specs.Expressing.{noted_here}
use Rattle.algol_sites.proofs.Parts.{events_told, only_event_told}
use Rattle.algol_sites.proofs.Forms.{variable_image, waited_image}

module _ (e : Expr) (a : Surroundings) (f : Option Fault) where
  -- the same of the plain tree
  plainly : (p : PExpr) (g : Option Fault) → expr e ≡ p → g ≡ noted_in f (sites p a) → g ≡ noted_in f (sites (expr e) a)
  plainly p g is q = q ∙ sym (ap (λ x. noted_in f (sites x a)) is)

  pub variable_noted : (v : Variable) (g h : Option Fault) → e ≡ expressions.Variable v → g ≡ noted_here f (tree.variable (variable v)) a →
      h ≡ noted_in g (inside_list (exprs v.subs) a) → h ≡ noted_in f (sites (expr e) a)
  variable_noted v g h is p q =
      plainly (tree.variable (tree.subscripted v.name (exprs v.subs))) h (ap expr is ∙ variable_image v)
      (q ∙ ap (λ o. noted_in o (inside_list (exprs v.subs) a)) (p ∙ ap (λ x. noted_here f (tree.variable x) a) (variable_is v)))

  pub asked_noted : (y : EventTest) (x : EventName) (spot : Spot) (g : Option Fault) → expr e ≡ tree.tested y (x ∷ []) spot → g ≡ noted_all f (unfit_event x a) →
      g ≡ noted_in f (sites (expr e) a)
  asked_noted y x spot g is p =
      plainly (tree.tested y (x ∷ []) spot) g is (p ∙ ap (noted_all f) (sym (only_event_told x.task x.name (class_of a x.name))))

  pub waited_noted : (es : List EventName) (spot : Spot) (g : Option Fault) → e ≡ expressions.WaitAny es spot →
      g ≡ noted_all (noted_all f (unfit_events es a)) (broken_if codes.WrongCount (are_miscounted es) spot) → g ≡ noted_in f (sites (expr e) a)
  waited_noted es spot g is p =
      plainly (tree.tested test.WaitAny es spot) g (ap expr is ∙ waited_image es spot)
      (p ∙ ap (λ fs. noted_all (noted_all f fs) (broken_if codes.WrongCount (are_miscounted es) spot)) (sym (events_told es a)))

  pub paren_noted : (x : Box Expr Global) (spot : Spot) (y : Expr) (g : Option Fault) → e ≡ expressions.Paren x spot → y ≡ x.value →
      g ≡ noted_in f (sites (expr y) a) → g ≡ noted_in f (sites (expr e) a)
  paren_noted x spot y g is same p =
      plainly (tree.paren (expr x.value) spot) g (ap expr is ∙ paren_image x spot) (p ∙ ap (λ z. noted_in f (sites (expr z) a)) same)

  pub plus_noted : (x : Box Expr Global) (spot : Spot) (y : Expr) (g h : Option Fault) → e ≡ expressions.Plus x spot → y ≡ x.value →
      g ≡ noted_all f (mistyped kinds.Number (expr y) a) → h ≡ noted_in g (sites (expr y) a) → h ≡ noted_in f (sites (expr e) a)
  plus_noted x spot y g h is same p q =
      plainly (tree.plus (expr x.value) spot) h (ap expr is ∙ plus_image x spot)
      (q ∙ ap (λ o. noted_in o (sites (expr y) a)) p ∙ ap (λ z. noted_in (noted_all f (mistyped kinds.Number (expr z) a)) (sites (expr z) a)) same)

  pub neg_noted : (x : Box Expr Global) (spot : Spot) (y : Expr) (g h : Option Fault) → e ≡ expressions.Neg x spot → y ≡ x.value →
      g ≡ noted_all f (mistyped kinds.Number (expr y) a) → h ≡ noted_in g (sites (expr y) a) → h ≡ noted_in f (sites (expr e) a)
  neg_noted x spot y g h is same p q =
      plainly (tree.neg (expr x.value) spot) h (ap expr is ∙ neg_image x spot)
      (q ∙ ap (λ o. noted_in o (sites (expr y) a)) p ∙ ap (λ z. noted_in (noted_all f (mistyped kinds.Number (expr z) a)) (sites (expr z) a)) same)

  pub not_noted : (x : Box Expr Global) (spot : Spot) (y : Expr) (g h : Option Fault) → e ≡ expressions.Not x spot → y ≡ x.value →
      g ≡ noted_all f (mistyped kinds.Truth (expr y) a) → h ≡ noted_in g (sites (expr y) a) → h ≡ noted_in f (sites (expr e) a)
  not_noted x spot y g h is same p q =
      plainly (tree.not (expr x.value) spot) h (ap expr is ∙ not_image x spot)
      (q ∙ ap (λ o. noted_in o (sites (expr y) a)) p ∙ ap (λ z. noted_in (noted_all f (mistyped kinds.Truth (expr z) a)) (sites (expr z) a)) same)
