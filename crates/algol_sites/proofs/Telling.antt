-- Where the scopes tell of the names at the parts of an expression, they tell of each name in it.
use Rattle.std.proofs.Common.{◌≡◌, Bool, true, false, List, ◌++◌, Option, Some, None, subst, refl, sym}
use Rattle.std.specs.List.{AllByRecursion}
use Rattle.algol_tree.specs.declared.tree.Named.{Named}
use Rattle.algol_tree.specs.Plain as tree
use Rattle.algol_tree.specs.Plain.{PExpr, PExprs, PPair, name_alone}
use Rattle.algol_tree.specs.Classes.{Formal}
use Rattle.algol_tree.specs.Scopes.{if_named}
use Rattle.algol_tree.specs.Surroundings.{Surroundings, formals_at}
use Rattle.algol_tree.specs.Sites.{Site, actual_part_by, first_formal, here, inside_actuals, inside_expr, inside_list, name_part, other_formals, sites, wants_value}
use Rattle.algol_tree.proofs.Alone.{named_alone}
use Rattle.algol_frames.specs.declared.scopes.Scopes.{Scopes}
use Rattle.algol_told.specs.Telling.{ScopesTell, TellsAll, TellsAt}
use Rattle.algol_told.proofs.Lists.{all_left, all_right}
use Rattle.algol_sites.specs.Seeing.{TellsEach, TellsIn, TellsTask}

module _ (s : Scopes) where
  pub first_told : (xs ys : List Site) → TellsAll s (xs ++ ys) → TellsAll s xs
  first_told xs ys t = all_left (TellsAt s) xs ys t

  pub last_told : (xs ys : List Site) → TellsAll s (xs ++ ys) → TellsAll s ys
  last_told xs ys t = all_right (TellsAt s) xs ys t

module _ (s : Scopes) (a : Surroundings) where
  name_here : (n : Named) (value : Bool) → TellsAt s (record { part = name_part n value; around = a }) →
      TellsAt s (here (tree.variable (tree.subscripted n tree.none)) a)
  name_here n true t = t
  name_here n false t = t

  -- an actual is told as an expression
  actual_here : (o : Option Named) (e : PExpr) (f : Option Formal) → name_alone e ≡ o → TellsAt s (record { part = actual_part_by o e f; around = a }) → TellsAt s (here e a)
  actual_here (Some n) e f is t = subst (λ x. TellsAt s (here x a)) (sym (named_alone e n is)) (name_here n (wants_value f) t)
  actual_here None e f is t = t

  mutual
    pub in_told : (e : PExpr) → TellsAll s (sites e a) → TellsIn s a e
    in_told (tree.number z spot) t = tt
    in_told (tree.truth b spot) t = tt
    in_told (tree.variable (tree.subscripted n es)) t = (t.0.0, list_told es t.1)
    in_told (tree.call (tree.called n es)) t = (t.0.0, actuals_told es (formals_at a n) t.1)
    in_told (tree.tested test es spot) t = t.0
    in_told (tree.paren e spot) t = in_told e t.1
    in_told (tree.plus e spot) t = in_told e t.1
    in_told (tree.neg e spot) t = in_told e t.1
    in_told (tree.not e spot) t = in_told e t.1
    in_told (tree.two op x y) t = (in_told x (first_told s (sites x a) (sites y a) t.1), in_told y (last_told s (sites x a) (sites y a) t.1))
    in_told (tree.if c x y spot) t =
        let two = first_told s (sites c a ++ sites x a) (sites y a) t.1 in (
          in_told c (first_told s (sites c a) (sites x a) two),
          (in_told x (last_told s (sites c a) (sites x a) two), in_told y (last_told s (sites c a ++ sites x a) (sites y a) t.1)),
        )

    pub list_told : (es : PExprs) → TellsAll s (inside_list es a) → TellsEach s a es
    list_told tree.none t = tt
    list_told (tree.more e es) t =
        (in_told e (first_told s (sites e a) (inside_list es a) t), list_told es (last_told s (sites e a) (inside_list es a) t))

    pub actuals_told : (es : PExprs) (fs : List Formal) → TellsAll s (inside_actuals es fs a) → TellsEach s a es
    actuals_told tree.none fs t = tt
    actuals_told (tree.more e es) fs t = (
      in_told e (actual_here (name_alone e) e (first_formal fs) refl t.1.0, first_told s (inside_expr e a) (inside_actuals es (other_formals fs) a) t.1.1),
      actuals_told es (other_formals fs) (last_told s (inside_expr e a) (inside_actuals es (other_formals fs) a) t.1.1),
    )

  pub task_told : (task : Option Named) → AllByRecursion (ScopesTell s a) (if_named task) → TellsTask s a task
  task_told None t = tt
  task_told (Some n) t = t.0

  -- a name by itself
  pub alone_told : (e : PExpr) (n : Named) → name_alone e ≡ Some n → TellsIn s a e → ScopesTell s a n
  alone_told e n is t = (subst (TellsIn s a) (named_alone e n is) t).0
