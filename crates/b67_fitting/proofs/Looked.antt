-- What is found at the place of a name: the places of uses, of names that are known and of blocks are among those of the text.
use Rattle.std.proofs.Common.{◌≡◌, inl, inr, ℕ, ◌-◌, Bool, List, [], ◌∷◌, ◌++◌, map, Option, Some, None, sym, ap, ◌∙◌, subst, false, if◌then◌else◌}
use Rattle.std.proofs.lemmas.List.{map-append}
use Rattle.std.proofs.lemmas.List.Concat.{flat_map-append}
use Rattle.std.specs.List.{flat_map}
use Rattle.algol_tree.specs.declared.token.Spot.{Spot}
use Rattle.algol_tree.specs.declared.tree.Named.{Named}
use Rattle.algol_tree.specs.Ascending.{spots_of_names}
use Rattle.algol_tree.specs.Blocks.{Block, same_spot}
use Rattle.algol_tree.specs.Cells.{Cell}
use Rattle.algol_tree.specs.Couples.{Known, known_at, known_there}
use Rattle.algol_tree.specs.Plain as tree
use Rattle.algol_tree.specs.Scopes.{Use, used, use_by, left_use, left_uses, names_in, uses_at, declared_in}
use Rattle.algol_tree.specs.Sites.{Site, here_stmt}
use Rattle.algol_tree.specs.Sorts as sort
use Rattle.algol_tree.specs.Sorts.{Sort, Declared}
use Rattle.algol_tree.specs.Surroundings.{Surroundings, declared_as}
use Rattle.algol_tree.proofs.Spots.{same_spot_itself}
use Rattle.b67_fitting.proofs.Among.{Among, nothing, skip, keep, none_among, turn_after, join}
use Rattle.b67_fitting.proofs.Apart.{IsIn, each_in, in_map, Apart}
use Rattle.b67_fitting.proofs.Declares.{names_among}
use Rattle.b67_fitting.proofs.Listed.{Listed, over, passed, turned, site, given, left, declared, both, block, procedure}

-- ---- what is found

pub use_found : (us : List Use) (u : Use) → Apart (map (λ (v : Use). v.spot) us) → IsIn u us → declared_in us u.spot ≡ Some u
use_found [] u p i = absurd i
use_found (v ∷ us) u p (inl e) =
    ap (λ (z : Use). declared_in (v ∷ us) z.spot) e ∙ ap (λ (b : Bool). if b then Some v else declared_in us v.spot) (same_spot_itself v.spot) ∙ ap Some (sym e)
use_found (v ∷ us) u p (inr i) =
    ap (λ (b : Bool). if b then Some v else declared_in us u.spot) (each_in (λ s. same_spot v.spot s ≡ false) u.spot (map (λ (v : Use). v.spot) us) p.0 (in_map (λ (v : Use). v.spot) u us i))
    ∙ use_found us u p.1 i

pub known_found : (ks : List Known) (k : Known) → Apart (map (λ (m : Known). m.spot) ks) → IsIn k ks → known_there ks k.spot ≡ Some k.declared
known_found [] k p i = absurd i
known_found (m ∷ ks) k p (inl e) =
    ap (λ (z : Known). known_there (m ∷ ks) z.spot) e ∙ ap (λ (b : Bool). if b then Some m.declared else known_there ks m.spot) (same_spot_itself m.spot)
    ∙ ap (λ (z : Known). Some z.declared) (sym e)
known_found (m ∷ ks) k p (inr i) =
    ap (λ (b : Bool). if b then Some m.declared else known_there ks k.spot)
    (each_in (λ s. same_spot m.spot s ≡ false) k.spot (map (λ (m : Known). m.spot) ks) p.0 (in_map (λ (m : Known). m.spot) k ks i))
    ∙ known_found ks k p.1 i

-- ---- where they stand

-- the places of what parts give
abbrev places : {X Y : Type 0} → (Y → Spot) → (X → List Y) → List X → List Spot
places at f xs = map at (flat_map f xs)

places_both : {X Y : Type 0} (at : Y → Spot) (f : X → List Y) (xs ys : List X) {p q : List Spot} → Among (places at f xs) p → Among (places at f ys) q → Among (places at f (xs ++ ys)) (p ++ q)
places_both at f xs ys {p} {q} g h =
    subst (λ (z : List Spot). Among z (p ++ q)) (sym (ap (map at) (flat_map-append f xs ys) ∙ map-append at (flat_map f xs) (flat_map f ys))) (join g h)

use_among : (a : Surroundings) (n : Named) (o : Option Declared) → Among (map (λ (u : Use). u.spot) (use_by a n o)) (n.spot ∷ [])
use_among a n None = skip n.spot nothing
use_among a n (Some d) = keep n.spot nothing

uses_among : (a : Surroundings) (ns : List Named) → Among (places (λ (u : Use). u.spot) (used a) ns) (spots_of_names ns)
uses_among a [] = nothing
uses_among a (n ∷ ns) =
    subst (λ (z : List Spot). Among z (n.spot ∷ spots_of_names ns)) (sym (map-append (λ (u : Use). u.spot) (used a n) (flat_map (used a) ns)))
    (join (use_among a n (declared_as a n)) (uses_among a ns))

-- on the left too
left_among : (a : Surroundings) (n : Named) (o : Option Declared) → Among (map (λ (u : Use). u.spot) (left_uses (use_by a n o))) (n.spot ∷ [])
left_among a n None = skip n.spot nothing
left_among a n (Some d) = kept (record { spot = n.spot; block = d.block; up = a.depth - d.depth; sort = d.sort }) d.sort
  where
    kept : (u : Use) (s : Sort) → Among ((left_use u s).spot ∷ []) (u.spot ∷ [])
    kept u (sort.procedure k) = keep u.spot nothing
    kept u _ = keep u.spot nothing

-- ---- in parts that are listed

module _ (blocks : List Block) where
  abbrev use_places : List Site → List Spot
  use_places xs = places (λ (u : Use). u.spot) uses_at xs

  abbrev known_places : List Site → List Spot
  known_places xs = places (λ (k : Known). k.spot) (known_at blocks) xs

  -- of parts after one
  behind_use : (x : Site) (xs : List Site) {p q : List Spot} → Among (map (λ (u : Use). u.spot) (uses_at x)) p → Among (use_places xs) q → Among (use_places (x ∷ xs)) (p ++ q)
  behind_use x xs {p} {q} g h = subst (λ (z : List Spot). Among z (p ++ q)) (sym (map-append (λ (u : Use). u.spot) (uses_at x) (flat_map uses_at xs))) (join g h)

  behind_known : (x : Site) (xs : List Site) {p q : List Spot} → Among (map (λ (k : Known). k.spot) (known_at blocks x)) p → Among (known_places xs) q → Among (known_places (x ∷ xs)) (p ++ q)
  behind_known x xs {p} {q} g h = subst (λ (z : List Spot). Among z (p ++ q)) (sym (map-append (λ (k : Known). k.spot) (known_at blocks x) (flat_map (known_at blocks) xs))) (join g h)

  no_use : (x : Site) (spots : List Spot) → uses_at x ≡ [] → Among (map (λ (u : Use). u.spot) (uses_at x)) spots
  no_use x spots e = subst (λ (us : List Use). Among (map (λ (u : Use). u.spot) us) spots) (sym e) (none_among spots)

  pub all_uses : {k : ℕ} {spots : List Spot} {own : List Cell} {bs : List Block} {xs : List Site} → Listed blocks k spots own bs xs → Among (use_places xs) spots
  all_uses (over k) = nothing
  all_uses (passed k spot l) = skip spot (all_uses l)
  all_uses (turned k spot p q l) = turn_after spot p q (all_uses l)
  all_uses (site k x {xs = xs} f l) =
      behind_use x xs (subst (λ (us : List Use). Among (map (λ (u : Use). u.spot) us) (spots_of_names (names_in x.part))) (sym f.uses) (uses_among x.around (names_in x.part))) (all_uses l)
  all_uses (given k x c {spots = spots} {xs = xs} g m l) =
      subst (λ (us : List Use). Among (map (λ (u : Use). u.spot) (us ++ flat_map uses_at xs)) (c.spot ∷ spots)) (sym g.uses) (all_uses l)
  all_uses (left k a n e listed b {xs = xs} g l) = behind_use (here_stmt (tree.assign (tree.subscripted n tree.none) e) listed a) xs (left_among a n (declared_as a n)) (all_uses l)
  all_uses (declared k x names new {xs = xs} f l) = behind_use x xs (no_use x names f.uses) (all_uses l)
  all_uses (both k {xs = xs} {ys = ys} i j) = places_both (λ (u : Use). u.spot) uses_at xs ys (all_uses i) (all_uses j)
  all_uses (block k b e i l) = skip b.spot (all_uses l)
  all_uses (procedure k x b more {xs = xs} f i l) = behind_use x xs (no_use x (b.spot ∷ more) f.uses) (all_uses l)

  pub all_known : {k : ℕ} {spots : List Spot} {own : List Cell} {bs : List Block} {xs : List Site} → Listed blocks k spots own bs xs → Among (known_places xs) spots
  all_known (over k) = nothing
  all_known (passed k spot l) = skip spot (all_known l)
  all_known (turned k spot p q l) = turn_after spot p q (all_known l)
  all_known (site k x {xs = xs} f l) =
      behind_known x xs (subst (λ (ks : List Known). Among (map (λ (k : Known). k.spot) ks) (spots_of_names (names_in x.part))) (sym f.knows) (names_among x.around (names_in x.part))) (all_known l)
  all_known (given k x c {spots = spots} {xs = xs} g m l) =
      subst (λ (ks : List Known). Among (map (λ (z : Known). z.spot) (ks ++ flat_map (known_at blocks) xs)) (c.spot ∷ spots)) (sym g.knows) (all_known l)
  all_known (left k a n e listed b {xs = xs} g l) = behind_known (here_stmt (tree.assign (tree.subscripted n tree.none) e) listed a) xs (names_among a (n ∷ [])) (all_known l)
  all_known (declared k x names new {xs = xs} f l) = behind_known x xs f.knows (all_known l)
  all_known (both k {xs = xs} {ys = ys} i j) = places_both (λ (k : Known). k.spot) (known_at blocks) xs ys (all_known i) (all_known j)
  all_known (block k b e i l) = skip b.spot (all_known l)
  all_known (procedure k x b more {xs = xs} f i l) = behind_known x xs f.knows (all_known l)

  pub all_blocks : {k : ℕ} {spots : List Spot} {own : List Cell} {bs : List Block} {xs : List Site} → Listed blocks k spots own bs xs → Among (map (λ (b : Block). b.spot) bs) spots
  all_blocks (over k) = nothing
  all_blocks (passed k spot l) = skip spot (all_blocks l)
  all_blocks (turned k spot p q l) = turn_after spot p q (all_blocks l)
  all_blocks (site k x f l) = join (none_among (spots_of_names (names_in x.part))) (all_blocks l)
  all_blocks (given k x c g m l) = all_blocks l
  all_blocks (left k a n e listed b g l) = skip n.spot (all_blocks l)
  all_blocks (declared k x names new f l) = join (none_among names) (all_blocks l)
  all_blocks (both k {p = p} {q = q} {bs = bs} {cs = cs} i j) =
      subst (λ (z : List Spot). Among z (p ++ q)) (sym (map-append (λ (b : Block). b.spot) bs cs)) (join (all_blocks i) (all_blocks j))
  all_blocks (block k b e i l) = keep b.spot (all_blocks l)
  all_blocks (procedure k x b more f i l) = keep b.spot (join (none_among more) (all_blocks l))
