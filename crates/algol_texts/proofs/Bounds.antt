-- The bounds of arrays: each name in them is known at the begin of the block, so a block around declares it, or it is a parameter.
use Rattle.std.proofs.Common.{arith, ◌≡◌, ◌⊎◌, inl, inr, ℕ, ◌+◌, ◌<◌, ◌≤◌, true, List, [], ◌∷◌, map, refl, sym, subst}
use Rattle.std.specs.List.{AllByRecursion}
use Rattle.algol_tree.specs.declared.token.Spot.{Spot}
use Rattle.algol_tree.specs.declared.tree.Heading.{Heading}
use Rattle.algol_tree.specs.declared.tree.Named.{Named}
use Rattle.algol_tree.specs.Blocks.{number_at}
use Rattle.algol_tree.specs.Classes.{Class}
use Rattle.algol_tree.specs.Plain.{PPair}
use Rattle.algol_tree.specs.Scopes.{Scopes, Use}
use Rattle.algol_tree.specs.Sites.{sites, sites_in_pairs}
use Rattle.algol_tree.specs.Sorts.{Sort, Declared, is_variable, is_formal, is_named_in, sort_in, class_in}
use Rattle.algol_tree.specs.Surroundings.{Surroundings, inside_procedure}
use Rattle.algol_tree.proofs.Trees.{use_is}
use Rattle.algol_paths.specs.Blocks.{IsSeenAround}
use Rattle.algol_paths.specs.Texts.{InPairs}
use Rattle.algol_calls.specs.Fits.{PairsFit}
use Rattle.algol_front_laws.specs.Declarations.{EachOnce}
use Rattle.algol_front_laws.specs.Uses.{use_by_name}
use Rattle.algol_told.proofs.Lists.{all_append, all_left, all_right, all_weaker, of_contained}
use Rattle.algol_texts.proofs.Parameters.{IsGiven, given_value, given_name, given_array, given_event, given, parameter_known}
use Rattle.algol_texts.proofs.Good.{IsGood, AreGood}
use Rattle.algol_texts.proofs.Callees.{AreSpecified, IsCallee}
use Rattle.algol_texts.proofs.Around.{IsKnown, IsAround}
use Rattle.algol_texts.proofs.Uses.{its_found, seen}
use Rattle.algol_texts.proofs.Expressions.{KnownAs, sites_known, expr_fits}

-- ---- what is known at the begin of a block

abbrev pub IsParameter : Sort → Type 0
IsParameter s = (is_variable s ≡ true) ⊎ (is_formal s ≡ true)

-- a block around declares it, or it is a parameter
abbrev pub IsEarly : ℕ → Declared → Type 0
IsEarly depth d = (d.depth < depth) ⊎ IsParameter d.sort

abbrev pub AreEarly : ℕ → List Declared → Type 0
AreEarly depth ds = AllByRecursion (IsEarly depth) ds

is_parameter : (s : Sort) (c : Class) → IsGiven s c → IsParameter s
is_parameter s c (given_value kind) = inl refl
is_parameter s c (given_name kind) = inr refl
is_parameter s c (given_array lows kind) = inr refl
is_parameter s c given_event = inr refl

early_parameters : (depth k : ℕ) (h : Heading) (ns : List Named) → AreSpecified h ns → AreEarly depth (map (parameter_known h k depth) ns)
early_parameters depth k h [] v = tt
early_parameters depth k h (n ∷ ns) v =
    let by_value = is_named_in h.values n.name in
    (inr (is_parameter (sort_in h.specs by_value n.name) (class_in h.specs n.name) (given h.specs by_value n.name v.0)), early_parameters depth k h ns v.1)

module _ (sc : Scopes) (j : ℕ) (outer : List Spot) (a : Surroundings) (r : IsAround sc.blocks j outer a) where
  -- after a BEGIN
  pub early_inside : AreEarly (a.depth + 1) a.known
  early_inside = all_weaker (IsKnown sc.blocks j a.depth) (IsEarly (a.depth + 1)) (λ d k. inl (omega (arith, k.shallow))) a.known r.known

  -- inside a procedure
  pub early_procedure : (h : Heading) → IsCallee sc.blocks j h → AreEarly (a.depth + 1) ((inside_procedure sc.blocks h a).known)
  early_procedure h c =
      let k = number_at sc.blocks h.name.spot in
      all_append (IsEarly (a.depth + 1)) (map (parameter_known h k (a.depth + 1)) h.params) a.known (early_parameters (a.depth + 1) k h h.params c.specified) early_inside

-- ---- names in bounds

module _ (sc : Scopes) (j : ℕ) (outer : List Spot) (a : Surroundings) (r : IsAround sc.blocks j outer a) (early : AreEarly a.depth a.known) where
  abbrev IsOuter : Use → Type 0
  IsOuter u = (1 ≤ u.up) ⊎ IsParameter u.sort

  seen_around : EachOnce a → KnownAs sc j outer a r (IsSeenAround sc j)
  seen_around once n u = (
    seen sc j outer a r once n u,
    subst IsOuter (sym (use_is sc n (use_by_name a n u.declared) u.used))
        (by (of_contained (IsEarly a.depth) a.known u.declared early ((its_found sc j outer a r (use_by_name a n) n u).there))),
  )
    where
      by : IsEarly a.depth u.declared → IsOuter (use_by_name a n u.declared)
      by (inl h) = inl (omega (arith, h))
      by (inr h) = inr h

  pub in_pairs : (ps : List PPair) → AreGood sc (sites_in_pairs ps a) → InPairs (IsSeenAround sc j) ps × PairsFit sc ps
  in_pairs [] g = (tt, tt)
  in_pairs (p ∷ ps) g =
      let its = all_left (IsGood sc) (sites p.high a) (sites_in_pairs ps a) g.1 in
      let more = in_pairs ps (all_right (IsGood sc) (sites p.high a) (sites_in_pairs ps a) g.1) in
      ((sites_known sc j outer a r (IsSeenAround sc j) (seen_around g.0.once) p.high its, more.0), (expr_fits sc j outer a r g.0.once p.high its, more.1))
