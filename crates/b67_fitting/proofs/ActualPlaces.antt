-- An expression begins at its first token, and the actuals in it that have cells begin after that.
use Rattle.algol_tree.specs.declared.tree.Named.{Named}
use Rattle.algol_tree.specs.declared.tree.EventName.{EventName}
use Rattle.std.proofs.Common.{Some, None, ◌≡◌, Bool, true, false, List, [], ◌∷◌, ◌++◌, refl, sym, ap, ◌∙◌, subst, if◌then◌else◌, Option, map}
use Rattle.std.proofs.lemmas.List.Concat.{flat_map-append}
use Rattle.std.specs.List.{flat_map}
use Rattle.algol_tree.specs.declared.token.Spot.{Spot}
use Rattle.algol_tree.specs.Ascending.{spots_of_expr, spots_of_exprs}
use Rattle.algol_tree.specs.Blocks.{Block}
use Rattle.algol_tree.specs.Cells.{Cell, cells_at, first_spot, has_cell}
use Rattle.algol_tree.specs.Classes.{Formal}
use Rattle.algol_tree.specs.Plain as tree
use Rattle.algol_tree.specs.Plain.{name_alone, PExpr, PExprs}
use Rattle.algol_tree.specs.Sites.{Site, name_part, actual_part, actual_part_by, wants_value, first_formal, other_formals, sites, inside_expr, inside_list, inside_actuals}
use Rattle.algol_tree.specs.Surroundings.{Surroundings, formals_at}
use Rattle.b67_fitting.proofs.ActualCells.{actual_cell}
use Rattle.b67_fitting.proofs.Among.{Among, nothing, skip, keep, none_among, join}
use Rattle.b67_fitting.proofs.Listed.{own_places}
use Rattle.b67_fitting.proofs.Made.{places_in, joined}

-- the places after the first
abbrev pub others_of : PExpr → List Spot
others_of (tree.number z spot) = []
others_of (tree.truth b spot) = []
others_of (tree.variable (tree.subscripted n es)) = spots_of_exprs es
others_of (tree.call (tree.called n es)) = spots_of_exprs es
others_of (tree.tested x es spot) = map (λ (e : EventName). e.name.spot) es
others_of (tree.paren e spot) = spots_of_expr e
others_of (tree.plus e spot) = spots_of_expr e
others_of (tree.neg e spot) = spots_of_expr e
others_of (tree.not e spot) = spots_of_expr e
others_of (tree.two op x y) = others_of x ++ spots_of_expr y
others_of (tree.if c x y spot) = spots_of_expr c ++ spots_of_expr x ++ spots_of_expr y

pub begins : (e : PExpr) → spots_of_expr e ≡ first_spot e ∷ others_of e
begins (tree.number z spot) = refl
begins (tree.truth b spot) = refl
begins (tree.variable (tree.subscripted n es)) = refl
begins (tree.call (tree.called n es)) = refl
begins (tree.tested x es spot) = refl
begins (tree.paren e spot) = refl
begins (tree.plus e spot) = refl
begins (tree.neg e spot) = refl
begins (tree.not e spot) = refl
begins (tree.two op x y) = ap (λ z. z ++ spots_of_expr y) (begins x)
begins (tree.if c x y spot) = refl

module _ (blocks : List Block) where
  pub both_places : (xs ys : List Site) {p q : List Spot} → Among (places_in blocks xs) p → Among (places_in blocks ys) q → Among (places_in blocks (xs ++ ys)) (p ++ q)
  both_places xs ys {p} {q} g h =
      subst (λ (z : List Spot). Among z (p ++ q)) (sym (ap own_places (flat_map-append (cells_at blocks) xs ys) ∙ joined blocks (flat_map (cells_at blocks) xs) (flat_map (cells_at blocks) ys)))
      (join g h)

  -- the part of an actual has no cell
  pub no_part : (e : PExpr) (f : Option Formal) (a : Surroundings) → cells_at blocks (record { part = actual_part e f; around = a }) ≡ []
  no_part e f a = by (name_alone e)
    where
      named : (n : Named) (b : Bool) → cells_at blocks (record { part = name_part n b; around = a }) ≡ []
      named n true = refl
      named n false = refl

      by : (o : Option Named) → cells_at blocks (record { part = actual_part_by o e f; around = a }) ≡ []
      by None = refl
      by (Some n) = named n (wants_value f)

  module _ (a : Surroundings) where
    -- with its own
    whole : (e : PExpr) → Among (places_in blocks (inside_expr e a)) (others_of e) → Among (places_in blocks (sites e a)) (spots_of_expr e)
    whole e m = subst (Among (places_in blocks (inside_expr e a))) (sym (begins e)) (skip (first_spot e) m)

    mutual
      -- without its own
      pub places_inside : (e : PExpr) → Among (places_in blocks (inside_expr e a)) (others_of e)
      places_inside (tree.number z spot) = nothing
      places_inside (tree.truth b spot) = nothing
      places_inside (tree.variable (tree.subscripted n es)) = in_list es
      places_inside (tree.call (tree.called n es)) = in_actuals es (formals_at a n)
      places_inside (tree.tested x es spot) = none_among (map (λ (e : EventName). e.name.spot) es)
      places_inside (tree.paren e spot) = whole e (places_inside e)
      places_inside (tree.plus e spot) = whole e (places_inside e)
      places_inside (tree.neg e spot) = whole e (places_inside e)
      places_inside (tree.not e spot) = whole e (places_inside e)
      places_inside (tree.two op x y) = both_places (sites x a) (sites y a) (places_inside x) (whole y (places_inside y))
      places_inside (tree.if c x y spot) =
          both_places (sites c a ++ sites x a) (sites y a) (both_places (sites c a) (sites x a) (whole c (places_inside c)) (whole x (places_inside x))) (whole y (places_inside y))

      in_list : (es : PExprs) → Among (places_in blocks (inside_list es a)) (spots_of_exprs es)
      in_list tree.none = nothing
      in_list (tree.more e es) = both_places (sites e a) (inside_list es a) (whole e (places_inside e)) (in_list es)

      in_actuals : (es : PExprs) (fs : List Formal) → Among (places_in blocks (inside_actuals es fs a)) (spots_of_exprs es)
      in_actuals tree.none fs = nothing
      in_actuals (tree.more e es) fs =
          subst (λ (z : List Spot). Among (places_in blocks (inside_actuals (tree.more e es) fs a)) (z ++ spots_of_exprs es)) (sym (begins e))
          (by (has_cell e (first_formal fs) a)
          (subst (λ (cs : List Cell). Among (own_places (cs ++ flat_map (cells_at blocks) rest)) (others_of e ++ spots_of_exprs es)) (sym (no_part e (first_formal fs) a))
          (both_places (inside_expr e a) (inside_actuals es (other_formals fs) a) (places_inside e) (in_actuals es (other_formals fs)))))
        where
          rest : List Site
          rest = inside_expr e a ++ inside_actuals es (other_formals fs) a

          those : List Cell
          those = flat_map (cells_at blocks) (record { part = actual_part e (first_formal fs); around = a } ∷ rest)

          by : (b : Bool) → Among (own_places those) (others_of e ++ spots_of_exprs es) →
              Among (own_places ((if b then actual_cell a.block e ∷ [] else []) ++ those)) (first_spot e ∷ (others_of e ++ spots_of_exprs es))
          by true m = keep (first_spot e) m
          by false m = skip (first_spot e) m
