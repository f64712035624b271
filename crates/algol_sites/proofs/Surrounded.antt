-- For what is noted at the parts of an expression the blocks of the program make no difference.
use Rattle.std.proofs.Common.{◌≡◌, Bool, true, false, List, [], ◌++◌, Option, refl, ap, sym, ◌∙◌, Some, None}
use Rattle.algol_tree.specs.declared.refusal.Fault.{Fault}
use Rattle.algol_tree.specs.declared.tree.Named.{Named}
use Rattle.algol_tree.specs.Plain as tree
use Rattle.algol_tree.specs.Plain.{PExpr, PExprs, name_alone}
use Rattle.algol_tree.specs.Classes.{Formal}
use Rattle.algol_tree.specs.Blocks.{Block}
use Rattle.algol_tree.specs.Surroundings.{Surroundings, formals_at}
use Rattle.algol_tree.specs.Sites as site
use Rattle.algol_tree.specs.Sites.{Site, actual_part, actual_part_by, first_formal, here, inside_actuals, inside_expr, inside_list, name_part, other_formals, sites, wants_value}
use Rattle.algol_sites.specs.Noting.{noted_at, noted_along, noted_in}
use Rattle.algol_sites.proofs.Notes.{noted_along_append}

module _ (blocks : List Block) (a : Surroundings) where
  paired : (xs ys : List Site) (f : Option Fault) → ((g : Option Fault) → noted_along blocks g xs ≡ noted_in g xs) →
      ((g : Option Fault) → noted_along blocks g ys ≡ noted_in g ys) → noted_along blocks f (xs ++ ys) ≡ noted_in f (xs ++ ys)
  paired xs ys f h k =
      noted_along_append blocks f xs ys ∙ k (noted_along blocks f xs) ∙ ap (λ o. noted_in o ys) (h f) ∙ sym (noted_along_append [] f xs ys)

  name_same : (n : Named) (value : Bool) (f : Option Fault) →
      noted_at blocks f (record { part = name_part n value; around = a }) ≡ noted_at [] f (record { part = name_part n value; around = a })
  name_same n true f = refl
  name_same n false f = refl

  part_same : (m : Option Named) (e : PExpr) (o : Option Formal) (f : Option Fault) →
      noted_at blocks f (record { part = actual_part_by m e o; around = a }) ≡ noted_at [] f (record { part = actual_part_by m e o; around = a })
  part_same (Some n) e o f = name_same n (wants_value o) f
  part_same None e o f = refl

  mutual
    inside_same : (e : PExpr) (f : Option Fault) → noted_along blocks f (inside_expr e a) ≡ noted_in f (inside_expr e a)
    inside_same (tree.number z spot) f = refl
    inside_same (tree.truth z spot) f = refl
    inside_same (tree.variable (tree.subscripted n es)) f = list_same es f
    inside_same (tree.call (tree.called n es)) f = actuals_same es (formals_at a n) f
    inside_same (tree.tested test es spot) f = refl
    inside_same (tree.paren e spot) f = inside_same e (noted_at [] f (here e a))
    inside_same (tree.plus e spot) f = inside_same e (noted_at [] f (here e a))
    inside_same (tree.neg e spot) f = inside_same e (noted_at [] f (here e a))
    inside_same (tree.not e spot) f = inside_same e (noted_at [] f (here e a))
    inside_same (tree.two op x y) f =
        paired (sites x a) (sites y a) f (λ g. inside_same x (noted_at [] g (here x a))) (λ g. inside_same y (noted_at [] g (here y a)))
    inside_same (tree.if c x y spot) f =
        paired (sites c a ++ sites x a) (sites y a) f
        (λ g. paired (sites c a) (sites x a) g (λ h. inside_same c (noted_at [] h (here c a))) (λ h. inside_same x (noted_at [] h (here x a))))
        (λ g. inside_same y (noted_at [] g (here y a)))

    pub list_same : (es : PExprs) (f : Option Fault) → noted_along blocks f (inside_list es a) ≡ noted_in f (inside_list es a)
    list_same tree.none f = refl
    list_same (tree.more e es) f = paired (sites e a) (inside_list es a) f (λ g. inside_same e (noted_at [] g (here e a))) (list_same es)

    pub actuals_same : (es : PExprs) (fs : List Formal) (f : Option Fault) → noted_along blocks f (inside_actuals es fs a) ≡ noted_in f (inside_actuals es fs a)
    actuals_same tree.none fs f = refl
    actuals_same (tree.more e es) fs f =
        let g = noted_at [] f (record { part = site.actual e (first_formal fs); around = a }) in
        ap (λ o. noted_along blocks o (inside_expr e a ++ inside_actuals es (other_formals fs) a)) (part_same (name_alone e) e (first_formal fs) g)
        ∙ paired (inside_expr e a) (inside_actuals es (other_formals fs) a) (noted_at [] g (record { part = actual_part e (first_formal fs); around = a }))
        (inside_same e) (actuals_same es (other_formals fs))

  pub sites_same : (e : PExpr) (f : Option Fault) → noted_along blocks f (sites e a) ≡ noted_in f (sites e a)
  sites_same e f = inside_same e (noted_at [] f (here e a))
