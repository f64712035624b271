-- No label stands or is declared in an expression.
use Rattle.std.proofs.Common.{◌≡◌, List, [], ◌∷◌, ◌++◌, Bool, true, false, Option, Some, None, refl, ap, ◌∙◌}
use Rattle.std.proofs.lemmas.Grind.{flat_map-append}
use Rattle.std.specs.List.{flat_map}
use Rattle.algol_tree.specs.declared.tree.Named.{Named}
use Rattle.algol_tree.specs.Plain as tree
use Rattle.algol_tree.specs.Plain.{PExpr, PExprs, PPair, name_alone}
use Rattle.algol_tree.specs.Classes.{Formal}
use Rattle.algol_tree.specs.Surroundings.{Surroundings, formals_at}
use Rattle.algol_tree.specs.Sites as site
use Rattle.algol_tree.specs.Sites.{Site, sites, inside_expr, inside_list, inside_actuals, sites_in_pairs, name_part, wants_value, actual_part, actual_part_by, first_formal, other_formals}
use Rattle.algol_sites.specs.Labelling.{standings_at, labels_at}

pub record IsSilent (xs : List Site) : Type 0 where
  pub labels : flat_map labels_at xs ≡ []
  pub standings : flat_map standings_at xs ≡ []

pub silent_none : IsSilent []
silent_none = record { labels = refl; standings = refl }

pub silent_both : (xs ys : List Site) → IsSilent xs → IsSilent ys → IsSilent (xs ++ ys)
silent_both xs ys h k =
    record {
      labels = flat_map-append labels_at xs ys ∙ ap (λ zs. zs ++ flat_map labels_at ys) h.labels ∙ k.labels;
      standings = flat_map-append standings_at xs ys ∙ ap (λ zs. zs ++ flat_map standings_at ys) h.standings ∙ k.standings;
    }

module _ (a : Surroundings) where
  abbrev here : PExpr → Site
  here e = record { part = site.expression e; around = a }

  -- one more part that is an expression
  headed : (e : PExpr) (xs : List Site) → IsSilent xs → IsSilent (here e ∷ xs)
  headed e xs h = record { labels = h.labels; standings = h.standings }

  name_silent : (n : Named) (value : Bool) (xs : List Site) → IsSilent xs → IsSilent (record { part = name_part n value; around = a } ∷ xs)
  name_silent n true xs h = record { labels = h.labels; standings = h.standings }
  name_silent n false xs h = record { labels = h.labels; standings = h.standings }

  part_silent : (o : Option Named) (e : PExpr) (f : Option Formal) (xs : List Site) → IsSilent xs → IsSilent (record { part = actual_part_by o e f; around = a } ∷ xs)
  part_silent (Some n) e f xs h = name_silent n (wants_value f) xs h
  part_silent None e f xs h = headed e xs h

  actual_silent : (e : PExpr) (f : Option Formal) (xs : List Site) → IsSilent xs → IsSilent (record { part = site.actual e f; around = a } ∷ xs)
  actual_silent e f xs h = record { labels = h.labels; standings = h.standings }

  mutual
    inside_silent : (e : PExpr) → IsSilent (inside_expr e a)
    inside_silent (tree.number z spot) = silent_none
    inside_silent (tree.truth z spot) = silent_none
    inside_silent (tree.variable (tree.subscripted n es)) = list_silent es
    inside_silent (tree.call (tree.called n es)) = actuals_silent es (formals_at a n)
    inside_silent (tree.tested test es spot) = silent_none
    inside_silent (tree.paren e spot) = headed e (inside_expr e a) (inside_silent e)
    inside_silent (tree.plus e spot) = headed e (inside_expr e a) (inside_silent e)
    inside_silent (tree.neg e spot) = headed e (inside_expr e a) (inside_silent e)
    inside_silent (tree.not e spot) = headed e (inside_expr e a) (inside_silent e)
    inside_silent (tree.two op x y) =
        silent_both (sites x a) (sites y a) (headed x (inside_expr x a) (inside_silent x)) (headed y (inside_expr y a) (inside_silent y))
    inside_silent (tree.if c x y spot) =
        silent_both (sites c a ++ sites x a) (sites y a)
        (silent_both (sites c a) (sites x a) (headed c (inside_expr c a) (inside_silent c)) (headed x (inside_expr x a) (inside_silent x)))
        (headed y (inside_expr y a) (inside_silent y))

    pub list_silent : (es : PExprs) → IsSilent (inside_list es a)
    list_silent tree.none = silent_none
    list_silent (tree.more e es) = silent_both (sites e a) (inside_list es a) (headed e (inside_expr e a) (inside_silent e)) (list_silent es)

    pub actuals_silent : (es : PExprs) (fs : List Formal) → IsSilent (inside_actuals es fs a)
    actuals_silent tree.none fs = silent_none
    actuals_silent (tree.more e es) fs =
        let within = inside_expr e a ++ inside_actuals es (other_formals fs) a in
        actual_silent e (first_formal fs) (record { part = actual_part e (first_formal fs); around = a } ∷ within)
        (part_silent (name_alone e) e (first_formal fs) within (silent_both (inside_expr e a) (inside_actuals es (other_formals fs) a) (inside_silent e) (actuals_silent es (other_formals fs))))

  pub sites_silent : (e : PExpr) → IsSilent (sites e a)
  sites_silent e = headed e (inside_expr e a) (inside_silent e)

  pub pairs_silent : (ps : List PPair) → IsSilent (sites_in_pairs ps a)
  pairs_silent [] = silent_none
  pairs_silent (p ∷ ps) = let h = silent_both (sites p.high a) (sites_in_pairs ps a) (sites_silent p.high) (pairs_silent ps) in record { labels = h.labels; standings = h.standings }
