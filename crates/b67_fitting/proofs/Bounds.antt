-- The bounds of the arrays of an accepted program: each name in them is known at the begin of the block, so a block around declares
-- it, or it is a parameter.
use Rattle.std.proofs.Common.{arith, ◌≡◌, ◌⊎◌, inl, inr, ℕ, ◌+◌, ◌<◌, ◌≤◌, not, true, false, List, [], ◌∷◌, map, is_some, Option, Some, None, refl, sym, ap, subst}
use Rattle.std.specs.List.{AllByRecursion}
use Rattle.algol_tree.specs.declared.token.Spot.{Spot}
use Rattle.algol_tree.specs.declared.tree.Heading.{Heading}
use Rattle.algol_tree.specs.declared.tree.Named.{Named}
use Rattle.algol_tree.specs.Blocks.{of_procedure, decls_of, number_at}
use Rattle.algol_tree.specs.Names.{if_so}
use Rattle.algol_tree.specs.Plain as tree
use Rattle.algol_tree.specs.Plain.{PPair, PStmt, PDecls}
use Rattle.algol_tree.specs.Scopes.{Scopes, Use, used, use_by, use_of}
use Rattle.algol_tree.specs.Sites.{Site, sites, sites_in_pairs, here_stmt, inside_stmt, sites_in_stmts, sites_in_decls, has_decls}
use Rattle.algol_tree.specs.Sorts.{Sort, Declared, is_variable, is_formal, declared_parameters, is_named_in, sort_in, class_in}
use Rattle.algol_tree.specs.Surroundings.{Surroundings, declared_as, knowing, knowing_all, inside_procedure}
use Rattle.algol_tree.proofs.Trees.{found_known, use_is}
use Rattle.algol_paths.specs.Blocks.{IsSeenAround}
use Rattle.algol_paths.specs.Texts.{InPairs}
use Rattle.b67_list.proofs.Lists.{append_none_left, each_back, each_both, each_front}
use Rattle.b67_fitting.specs.Typing.{HeadingSpecified}
use Rattle.b67_fitting.proofs.Headings.{DeclsSpecified, StmtSpecified}
use Rattle.b67_fitting.proofs.Lists.{each_of}
use Rattle.b67_fitting.proofs.Numbering.{IsThere}
use Rattle.b67_fitting.proofs.Specified.{IsSpecified, as_value, as_name, as_array, as_event, AreSpecified, specified}
use Rattle.b67_fitting.proofs.Surrounded.{IsKnown, IsAround, IsGood, AreGood, the_use, KnownAs, all_seen, expr_known}

-- ---- what is known at the begin of a block

abbrev pub IsParameter : Sort → Type 0
IsParameter s = (is_variable s ≡ true) ⊎ (is_formal s ≡ true)

-- a block around declares it, or it is a parameter, which is a variable or stands for something else
abbrev pub IsEarly : ℕ → Declared → Type 0
IsEarly depth d = (d.depth < depth) ⊎ IsParameter d.sort

abbrev pub AreEarly : ℕ → List Declared → Type 0
AreEarly depth ds = AllByRecursion (IsEarly depth) ds

module _ (sc : Scopes) (j : ℕ) (outer : List Spot) (a : Surroundings) (r : IsAround sc.blocks j outer a) where
  -- after a BEGIN
  pub early_inside : AreEarly (a.depth + 1) a.known
  early_inside = each_of (IsKnown sc.blocks j a.depth) (IsEarly (a.depth + 1)) a.known (λ d k. inl (omega (arith, k.shallow))) r.known

  is_parameter : (h : Heading) (n : Named) → IsSpecified h n → IsParameter (sort_in h.specs (is_named_in h.values n.name) n.name)
  is_parameter h n (as_value kind c v s) = inl (ap is_variable s)
  is_parameter h n (as_name kind c v s) = inr (ap is_formal s)
  is_parameter h n (as_array shape c a s) = inr (ap is_formal s)
  is_parameter h n (as_event c a s) = inr (ap is_formal s)

  early_parameters : (k : ℕ) (h : Heading) (ns : List Named) → AreSpecified h ns →
      AreEarly (a.depth + 1)
      (map (λ (n : Named). record { name = n.name; spot = n.spot; block = k; depth = a.depth + 1; sort = sort_in h.specs (is_named_in h.values n.name) n.name; class = class_in h.specs n.name }) ns)
  early_parameters k h [] v = tt
  early_parameters k h (n ∷ ns) v = (inr (is_parameter h n v.0), early_parameters k h ns v.1)

  -- inside a procedure
  pub early_procedure : (h : Heading) → HeadingSpecified h → AreEarly (a.depth + 1) ((inside_procedure sc.blocks h a).known)
  early_procedure h b =
      let k = number_at sc.blocks h.name.spot in
      each_both (IsEarly (a.depth + 1)) (declared_parameters k (a.depth + 1) h) a.known (early_parameters k h h.params (specified h b)) early_inside

-- ---- names in bounds

module _ (sc : Scopes) (j : ℕ) (outer : List Spot) (a : Surroundings) (r : IsAround sc.blocks j outer a) (early : AreEarly a.depth a.known) where
  abbrev IsOuter : Use → Type 0
  IsOuter u = (1 ≤ u.up) ⊎ IsParameter u.sort

  outer_by : (n : Named) (o : Option Declared) → declared_as a n ≡ o → if_so (not (is_some o)) n.spot ≡ [] → AllByRecursion (IsThere sc.uses) (use_by a n o) → IsOuter (use_of sc n)
  outer_by n None e k t = absurd (let clash : n.spot ∷ [] ≡ [] = k in cc)
  outer_by n (Some d) e k t =
      subst IsOuter (sym (use_is sc n (the_use sc j outer a r n d) t.0)) (by (found_known (IsEarly a.depth) a.known n.name d early e))
    where
      by : IsEarly a.depth d → IsOuter (the_use sc j outer a r n d)
      by (inl h) = inl (omega (arith, h))
      by (inr h) = inr h

  seen_around : KnownAs sc j outer a r (IsSeenAround sc j)
  seen_around n k t =
      let its = if_so (not (is_some (declared_as a n))) n.spot in (
        (all_seen sc j outer a r (n ∷ []) k t).0,
        outer_by n (declared_as a n) refl (append_none_left its [] k) (each_front (IsThere sc.uses) (used a n) [] t),
      )

  in_pairs : (ps : List PPair) → AreGood sc (sites_in_pairs ps a) → InPairs (IsSeenAround sc j) ps
  in_pairs [] g = tt
  in_pairs (p ∷ ps) g = (
    expr_known sc j outer a r (IsSeenAround sc j) seen_around p.high (each_front (IsGood sc) (sites p.high a) (sites_in_pairs ps a) g.1),
    in_pairs ps (each_back (IsGood sc) (sites p.high a) (sites_in_pairs ps a) g.1),
  )

-- ---- the bounds of declarations

abbrev pub InBounds : (Named → Type 0) → PDecls → Type 0
InBounds P tree.no_decls = Unit {0}
InBounds P (tree.decls (tree.arrays kind ns pairs) ds) = InPairs P pairs × InBounds P ds
InBounds P (tree.decls d ds) = InBounds P ds

module _ (sc : Scopes) (j : ℕ) (outer : List Spot) where
  -- `first`: what is known at the begin of the block
  pub in_bounds : (a : Surroundings) (ds : PDecls) (first : List Declared) → IsAround sc.blocks j outer (record a { known = first }) → AreEarly a.depth first → DeclsSpecified ds →
      AreGood sc (sites_in_decls sc.blocks ds a first) → InBounds (IsSeenAround sc j) ds
  in_bounds a tree.no_decls first r e b g = tt
  in_bounds a (tree.decls (tree.simple kind ns) ds) first r e b g = in_bounds (knowing sc.blocks (tree.simple kind ns) ds a) ds first r e b.1 g.1
  in_bounds a (tree.decls (tree.files ns) ds) first r e b g = in_bounds (knowing sc.blocks (tree.files ns) ds a) ds first r e b.1 g.1
  in_bounds a (tree.decls (tree.events ns) ds) first r e b g = in_bounds (knowing sc.blocks (tree.events ns) ds a) ds first r e b.1 g.1
  in_bounds a (tree.decls (tree.tasks ns) ds) first r e b g = in_bounds (knowing sc.blocks (tree.tasks ns) ds a) ds first r e b.1 g.1
  in_bounds a (tree.decls (tree.labels ns) ds) first r e b g = in_bounds (knowing sc.blocks (tree.labels ns) ds a) ds first r e b.1 g.1
  in_bounds a (tree.decls (tree.arrays kind ns pairs) ds) first r e b g =
      let after : Surroundings = knowing sc.blocks (tree.arrays kind ns pairs) ds a in
      let at : Surroundings = record a { known = first } in
      let its : List Site = sites_in_pairs pairs at in
      let later : List Site = sites_in_decls sc.blocks ds after first in (
        in_pairs sc j outer at r e pairs (each_front (IsGood sc) its later g.1),
        in_bounds after ds first r e b.1 (each_back (IsGood sc) its later g.1),
      )
  in_bounds a (tree.decls (tree.forward h) ds) first r e b g = in_bounds (knowing sc.blocks (tree.forward h) ds a) ds first r e b.1 g.1
  in_bounds a (tree.decls (tree.procedure h t) ds) first r e b g =
      let after : Surroundings = knowing sc.blocks (tree.procedure h t) ds a in
      let c : Surroundings = inside_procedure sc.blocks h after in
      let its : List Site = here_stmt t false c ∷ inside_stmt sc.blocks t of_procedure false c in
      in_bounds after ds first r e b.1 (each_back (IsGood sc) its (sites_in_decls sc.blocks ds after first) g.1)

  -- those of the body of a procedure
  pub in_body : (a : Surroundings) (t : PStmt) → IsAround sc.blocks j outer a → AreEarly a.depth a.known → StmtSpecified t →
      AreGood sc (here_stmt t false a ∷ inside_stmt sc.blocks t of_procedure false a) → InBounds (IsSeenAround sc j) (decls_of t)
  in_body a (tree.block (tree.body spot ds ss)) r e b g =
      let declared = sites_in_decls sc.blocks ds a a.known in
      let stated = sites_in_stmts sc.blocks ss (has_decls ds) (knowing_all sc.blocks ds a) in
      in_bounds a ds a.known r e b.0 (each_front (IsGood sc) declared stated g.1)
  in_body a t r e b g = tt
