-- What the meaning looks up under the place of a name is a use of its declaration.
use Rattle.std.proofs.Common.{◌≡◌, inl, Bool, true, false, List, [], ◌∷◌, ◌++◌, map, Option, Some, None, refl, sym, subst, ap, ◌∙◌}
use Rattle.std.proofs.lemmas.List.{map-append}
use Rattle.std.specs.Prelude.{if◌then◌else◌, is_some, not}
use Rattle.std.specs.List.{AllByRecursion, flat_map}
use Rattle.algol_tree.specs.declared.token.Spot.{Spot}
use Rattle.algol_tree.specs.declared.tree.Named.{Named}
use Rattle.algol_tree.specs.Plain as tree
use Rattle.algol_tree.specs.Plain.{PProgram, PStmt}
use Rattle.algol_tree.specs.Sorts as sort
use Rattle.algol_tree.specs.Sorts.{Declared}
use Rattle.algol_tree.specs.Blocks.{blocks_of_program}
use Rattle.algol_tree.specs.Surroundings.{Surroundings, declared_as}
use Rattle.algol_tree.specs.Sites as site
use Rattle.algol_tree.specs.Sites.{Part, Site}
use Rattle.algol_tree.specs.Scopes.{Use, declared_in, left_use, left_uses, names_in, names_in_stmt, part_uses, scopes_of, stmt_uses, use_by, used, uses_at}
use Rattle.algol_tree.specs.Names.{if_so, places_if, unknown_in_part}
use Rattle.algol_tree.specs.Accepted.{scope_faults, sites_of}
use Rattle.algol_tree.specs.Ascending.{IsInOrder, spots_of_names}
use Rattle.algol_tree.proofs.Spots.{same_spot_itself}
use Rattle.algol_tree.proofs.Trees.{left_place}
use Rattle.b67_list.proofs.Lists.{append_none_left, append_none_right}
use Rattle.algol_front_laws.specs.Uses.{IsLookedUp, use_by_name, use_in}
use Rattle.algol_told.proofs.Lists.{all_both, all_left, all_right, each_of}
use Rattle.algol_told.proofs.Spots.{AreApart, AreSome, IsApart, some_apart, some_both}
use Rattle.algol_told.proofs.Apart.{names_apart, spots_at, spots_in_part}
use Rattle.algol_told.proofs.Unbroken.{not_unknown}
use Rattle.algol_front_laws.proofs.Ready.{PassesIn, all_pass}

-- ---- uses stand under the places of names

abbrev spots : List Use → List Spot
spots us = map (λ (u : Use). u.spot) us

both : (us vs : List Use) (xs ys : List Spot) → AreSome (spots us) xs → AreSome (spots vs) ys → AreSome (spots (us ++ vs)) (xs ++ ys)
both us vs xs ys h k =
    let P : List Spot → Type 0 = λ zs. AreSome zs (xs ++ ys) in
    subst P (sym (map-append (λ (u : Use). u.spot) us vs)) (some_both (spots us) xs (spots vs) ys h k)

of_name : (a : Surroundings) (n : Named) (o : Option Declared) → AreSome (spots (use_by a n o)) (n.spot ∷ [])
of_name a n None = tt
of_name a n (Some d) = inl (refl, tt)

of_names : (a : Surroundings) (ns : List Named) → AreSome (spots (flat_map (used a) ns)) (spots_of_names ns)
of_names a [] = tt
of_names a (n ∷ ns) = both (used a n) (flat_map (used a) ns) (n.spot ∷ []) (spots_of_names ns) (of_name a n (declared_as a n)) (of_names a ns)

of_left : (a : Surroundings) (n : Named) (o : Option Declared) → AreSome (spots (left_uses (use_by a n o))) (n.spot ∷ [])
of_left a n None = tt
of_left a n (Some d) = inl (left_place (use_by_name a n d) d.sort, tt)

of_stmt : (s : PStmt) (a : Surroundings) → AreSome (spots (stmt_uses s a)) (spots_of_names (names_in_stmt s))
of_stmt (tree.assign (tree.subscripted n es) e) a = of_left a n (declared_as a n)
of_stmt tree.empty a = tt
of_stmt (tree.label n s) a = of_names a (names_in_stmt (tree.label n s))
of_stmt (tree.call_of c) a = of_names a (names_in_stmt (tree.call_of c))
of_stmt (tree.go_to n) a = of_names a (names_in_stmt (tree.go_to n))
of_stmt (tree.block b) a = tt
of_stmt (tree.if_then c x) a = tt
of_stmt (tree.if_else c x y) a = tt
of_stmt (tree.while c b) a = tt
of_stmt (tree.until b c) a = tt
of_stmt (tree.for v x s l b) a = of_names a (names_in_stmt (tree.for v x s l b))
of_stmt (tree.thru e b) a = tt
of_stmt (tree.case e ss) a = tt
of_stmt (tree.process c task) a = of_names a (names_in_stmt (tree.process c task))
of_stmt (tree.event act e) a = of_names a (names_in_stmt (tree.event act e))
of_stmt (tree.write n spot phrases es) a = of_names a (names_in_stmt (tree.write n spot phrases es))

of_part : (p : Part) (a : Surroundings) → AreSome (spots (part_uses p a)) (spots_in_part p)
of_part (site.name n) a = of_names a (names_in (site.name n))
of_part (site.expression e) a = of_names a (names_in (site.expression e))
of_part (site.actual e f) a = tt
of_part (site.bound e) a = tt
of_part (site.statement s listed) a = of_stmt s a
of_part (site.declaration d later) a = tt

of_sites : (xs : List Site) → AreSome (spots (flat_map uses_at xs)) (flat_map spots_at xs)
of_sites [] = tt
of_sites (x ∷ xs) = both (uses_at x) (flat_map uses_at xs) (spots_at x) (flat_map spots_at xs) (of_part x.part x.around) (of_sites xs)

-- ---- what is looked up under a place

abbrev IsThere : List Use → Use → Type 0
IsThere us u = declared_in us u.spot ≡ Some u

there_later : (u : Use) (us vs : List Use) → AllByRecursion (IsApart u.spot) (spots vs) → AllByRecursion (IsThere us) vs → AllByRecursion (IsThere (u ∷ us)) vs
there_later u us [] h t = tt
there_later u us (v ∷ vs) h t = (ap (λ (b : Bool). if b then Some u else declared_in us v.spot) h.0 ∙ t.0, there_later u us vs h.1 t.1)

all_there : (us : List Use) → AreApart (spots us) → AllByRecursion (IsThere us) us
all_there [] h = tt
all_there (u ∷ us) h = (
  ap (λ (b : Bool). if b then Some u else declared_in us u.spot) (same_spot_itself u.spot),
  there_later u us us h.0 (all_there us h.1),
)

-- `all`: the uses of the tree
module _ (all : List Use) where
  abbrev Holds : List Use → Type 0
  Holds us = AllByRecursion (IsThere all) us

  -- the name has a declaration, and this is looked up
  abbrev IsUsed : (Declared → Use) → Surroundings → Named → Type 0
  IsUsed f a n = (d : Declared) × (declared_as a n ≡ Some d) × (declared_in all n.spot ≡ Some (f d))

  name_used : (a : Surroundings) (n : Named) (o : Option Declared) → declared_as a n ≡ o → is_some o ≡ true → Holds (use_by a n o) → IsUsed (use_by_name a n) a n
  name_used a n None e k h = absurd (let clash : false ≡ true = k in cc)
  name_used a n (Some d) e k h = (d, e, h.0)

  left_used : (a : Surroundings) (n : Named) (o : Option Declared) → declared_as a n ≡ o → is_some o ≡ true → Holds (left_uses (use_by a n o)) →
      IsUsed (λ d. left_use (use_by_name a n d) d.sort) a n
  left_used a n None e k h = absurd (let clash : false ≡ true = k in cc)
  left_used a n (Some d) e k h = (d, e, ap (declared_in all) (sym (left_place (use_by_name a n d) d.sort)) ∙ h.0)

  abbrev AreKnown : Surroundings → List Named → Type 0
  AreKnown a ns = places_if (λ (n : Named). not (is_some (declared_as a n))) ns ≡ []

  names_used : (a : Surroundings) (ns : List Named) → AreKnown a ns → Holds (flat_map (used a) ns) → AllByRecursion (λ (n : Named). IsUsed (use_by_name a n) a n) ns
  names_used a [] k h = tt
  names_used a (n ∷ ns) k h =
      let here = if_so (not (is_some (declared_as a n))) n.spot in
      let rest = places_if (λ (n : Named). not (is_some (declared_as a n))) ns in (
        name_used a n (declared_as a n) refl (not_unknown (is_some (declared_as a n)) n.spot (append_none_left here rest k))
            (all_left (IsThere all) (used a n) (flat_map (used a) ns) h),
        names_used a ns (append_none_right here rest k) (all_right (IsThere all) (used a n) (flat_map (used a) ns) h),
      )

  abbrev Used : Part → Surroundings → List Named → Type 0
  Used p a ns = AllByRecursion (λ (n : Named). IsUsed (use_in p a n) a n) ns

  stmt_used : (s : PStmt) (listed : Bool) (a : Surroundings) → AreKnown a (names_in_stmt s) → Holds (stmt_uses s a) → Used (site.statement s listed) a (names_in_stmt s)
  stmt_used (tree.assign (tree.subscripted n es) e) listed a k h =
      (left_used a n (declared_as a n) refl (not_unknown (is_some (declared_as a n)) n.spot (append_none_left (if_so (not (is_some (declared_as a n))) n.spot) [] k)) h, tt)
  stmt_used tree.empty listed a k h = tt
  stmt_used (tree.label n s) listed a k h = names_used a (names_in_stmt (tree.label n s)) k h
  stmt_used (tree.call_of c) listed a k h = names_used a (names_in_stmt (tree.call_of c)) k h
  stmt_used (tree.go_to n) listed a k h = names_used a (names_in_stmt (tree.go_to n)) k h
  stmt_used (tree.block b) listed a k h = tt
  stmt_used (tree.if_then c x) listed a k h = tt
  stmt_used (tree.if_else c x y) listed a k h = tt
  stmt_used (tree.while c b) listed a k h = tt
  stmt_used (tree.until b c) listed a k h = tt
  stmt_used (tree.for v x s l b) listed a k h = names_used a (names_in_stmt (tree.for v x s l b)) k h
  stmt_used (tree.thru e b) listed a k h = tt
  stmt_used (tree.case e ss) listed a k h = tt
  stmt_used (tree.process c task) listed a k h = names_used a (names_in_stmt (tree.process c task)) k h
  stmt_used (tree.event act e) listed a k h = names_used a (names_in_stmt (tree.event act e)) k h
  stmt_used (tree.write n spot phrases es) listed a k h = names_used a (names_in_stmt (tree.write n spot phrases es)) k h

  part_used : (p : Part) (a : Surroundings) → unknown_in_part p a ≡ [] → Holds (part_uses p a) → Used p a (names_in p)
  part_used (site.name n) a k h = names_used a (names_in (site.name n)) k h
  part_used (site.expression e) a k h = names_used a (names_in (site.expression e)) k h
  part_used (site.actual e f) a k h = tt
  part_used (site.bound e) a k h = tt
  part_used (site.statement s listed) a k h = stmt_used s listed a k h
  part_used (site.declaration d later) a k h = tt

-- ---- the whole tree

uses_of : (p : PProgram) → (scopes_of p).uses ≡ flat_map uses_at (sites_of p)
unfolding scopes_of
uses_of p = refl

module _ (p : PProgram) where
  looked_up : (part : Part) (a : Surroundings) (ns : List Named) → Used (scopes_of p).uses part a ns → AllByRecursion (λ (n : Named). IsLookedUp p part a n) ns
  looked_up part a [] h = tt
  looked_up part a (n ∷ ns) h = (record { declared = h.0.0; found = h.0.1; used = h.0.2 }, looked_up part a ns h.1)

  pub each_looked_up : scope_faults p ≡ [] → IsInOrder p →
      AllByRecursion (λ (x : Site). AllByRecursion (λ (n : Named). IsLookedUp p x.part x.around n) (names_in x.part)) (sites_of p)
  each_looked_up h o =
      let uses = flat_map uses_at (sites_of p) in
      let there : AllByRecursion (IsThere uses) uses =
      all_there uses (some_apart (spots uses) (flat_map spots_at (sites_of p)) (of_sites (sites_of p)) (names_apart p (blocks_of_program p) o)) in
      let P : List Use → Type 0 = λ us. AllByRecursion (IsThere us) uses in
      all_both (λ (x : Site). AllByRecursion (IsThere (scopes_of p).uses) (uses_at x)) (PassesIn p)
      (λ (x : Site). AllByRecursion (λ (n : Named). IsLookedUp p x.part x.around n) (names_in x.part))
      (λ x u q. looked_up x.part x.around (names_in x.part) (part_used (scopes_of p).uses x.part x.around q.known u)) (sites_of p)
      (each_of (IsThere (scopes_of p).uses) uses_at (sites_of p) (subst P (sym (uses_of p)) there)) (all_pass p h o)
