-- The places of the parameters, the variables, the actuals that have cells and the arrays of a program are among those of its text, so no two
-- stand at one place.
use Rattle.std.proofs.Common.{◌≡◌, inl, inr, ℕ, Bool, true, false, cond, List, [], ◌∷◌, ◌++◌, map, filter, Option, Some, None, refl, sym, ap, ◌∙◌, subst}
use Rattle.std.proofs.lemmas.List.{map-append}
use Rattle.std.proofs.lemmas.List.Concat.{flat_map-append}
use Rattle.std.proofs.lemmas.List.Elements.{filter-append}
use Rattle.std.specs.List.{flat_map}
use Rattle.algol_tree.specs.declared.token.Spot.{Spot}
use Rattle.algol_tree.specs.declared.tree.Kind.{Kind}
use Rattle.algol_tree.specs.declared.tree.Named.{Named}
use Rattle.algol_tree.specs.Ascending.{spots_of_names}
use Rattle.algol_tree.specs.Blocks.{Block, same_spot, number_at}
use Rattle.algol_tree.specs.Cells as cells
use Rattle.algol_tree.specs.Cells.{Cell, cells_for, cells_at}
use Rattle.algol_tree.specs.Scopes.{names_in}
use Rattle.algol_tree.specs.Sites.{Site}
use Rattle.algol_tree.proofs.Spots.{same_spot_itself}
use Rattle.b67_fitting.proofs.Among.{Among, nothing, skip, keep, none_among, turn_after, join}
use Rattle.b67_fitting.proofs.Apart.{IsIn, each_in, in_map, IsApart, Apart}
use Rattle.b67_fitting.proofs.Frames.{control_cell, result_cell, named_of, front_cells}
use Rattle.b67_fitting.proofs.Listed.{has_own_place, own_places, Listed, over, passed, turned, site, given, left, declared, both, block, procedure}

-- of the cells of a heading those of the parameters have places of their own
result_places : (o : Option Kind) (k : ℕ) (spot : Spot) (cs : List Cell) → own_places (result_cell o k spot ++ cs) ≡ own_places cs
result_places None k spot cs = refl
result_places (Some kind) k spot cs = refl

parameter_places : (k : ℕ) (ns : List Named) → own_places (cells_for k cells.parameter ns) ≡ spots_of_names ns
parameter_places k [] = refl
parameter_places k (n ∷ ns) = ap (λ z. n.spot ∷ z) (parameter_places k ns)

heading_places : (outer k : ℕ) (ns : List Named) (b : Block) → own_places ((control_cell outer b.spot ∷ []) ++ front_cells k ns b) ≡ spots_of_names ns
heading_places outer k ns b = result_places b.result k b.spot (cells_for k cells.parameter ns) ∙ parameter_places k ns

module _ (blocks : List Block) where
  abbrev pub places_in : List Site → List Spot
  places_in xs = own_places (flat_map (cells_at blocks) xs)

  abbrev kept_in : List Site → List Cell
  kept_in xs = filter (λ (c : Cell). has_own_place c.content) (flat_map (cells_at blocks) xs)

  pub joined : (cs ds : List Cell) → own_places (cs ++ ds) ≡ own_places cs ++ own_places ds
  joined cs ds =
      ap (map (λ (c : Cell). c.spot)) (filter-append (λ (c : Cell). has_own_place c.content) cs ds)
      ∙ map-append (λ (c : Cell). c.spot) (filter (λ (c : Cell). has_own_place c.content) cs) (filter (λ (c : Cell). has_own_place c.content) ds)

  behind : (x : Site) (xs : List Site) {p q : List Spot} → Among (own_places (cells_at blocks x)) p → Among (places_in xs) q → Among (places_in (x ∷ xs)) (p ++ q)
  behind x xs {p} {q} g h = subst (λ (z : List Spot). Among z (p ++ q)) (sym (joined (cells_at blocks x) (flat_map (cells_at blocks) xs))) (join g h)

  none : (x : Site) (spots : List Spot) → cells_at blocks x ≡ [] → Among (own_places (cells_at blocks x)) spots
  none x spots e = subst (λ (cs : List Cell). Among (own_places cs) spots) (sym e) (none_among spots)

  pub all_places : {k : ℕ} {spots : List Spot} {own : List Cell} {bs : List Block} {xs : List Site} → Listed blocks k spots own bs xs → Among (places_in xs) spots
  all_places (over k) = nothing
  all_places (passed k spot l) = skip spot (all_places l)
  all_places (turned k spot p q l) = turn_after spot p q (all_places l)
  all_places (site k x {xs = xs} f l) = behind x xs (none x (spots_of_names (names_in x.part)) f.cells) (all_places l)
  all_places (given k x c {spots = spots} {xs = xs} g m l) =
      subst (λ (cs : List Cell). Among (own_places (cs ++ flat_map (cells_at blocks) xs)) (c.spot ∷ spots)) (sym g.cells)
      (subst (λ (b : Bool). Among (map (λ (z : Cell). z.spot) (cond b (c ∷ kept_in xs) (kept_in xs))) (c.spot ∷ spots)) (sym (ap has_own_place g.content_is)) (keep c.spot m))
  all_places (left k a n e listed b g l) = skip n.spot (all_places l)
  all_places (declared k x names new {xs = xs} f l) = behind x xs (subst (λ (cs : List Cell). Among (own_places cs) names) (sym f.cells) f.places) (all_places l)
  all_places (both k {p = p} {q = q} {xs = xs} {ys = ys} i j) =
      subst (λ (z : List Spot). Among z (p ++ q)) (sym (ap own_places (flat_map-append (cells_at blocks) xs ys) ∙ joined (flat_map (cells_at blocks) xs) (flat_map (cells_at blocks) ys)))
      (join (all_places i) (all_places j))
  all_places (block k b e i l) = skip b.spot (all_places l)
  all_places (procedure k x b more {xs = xs} f i l) =
      behind x xs
      (subst (λ (z : List Spot). Among z (b.spot ∷ more)) (sym (ap own_places f.cells ∙ heading_places k (number_at blocks b.spot) (named_of blocks b) b)) (skip b.spot f.given))
      (all_places l)

-- what stands in one place is one, where the places are apart
pub one_there : {X : Type 0} (at : X → Spot) (xs : List X) (x y : X) → Apart (map at xs) → IsIn x xs → IsIn y xs → at x ≡ at y → x ≡ y
one_there at [] x y p i j e = absurd i
one_there at (z ∷ zs) x y p (inl i) (inl j) e = i ∙ sym j
one_there at (z ∷ zs) x y p (inl i) (inr j) e =
    let far : IsApart (at z) (at y) = each_in (IsApart (at z)) (at y) (map at zs) p.0 (in_map at y zs j) in
    let clash : true ≡ false = sym (same_spot_itself (at y)) ∙ ap (λ (s : Spot). same_spot s (at y)) (sym e ∙ ap at i) ∙ far in
    absurd cc
one_there at (z ∷ zs) x y p (inr i) (inl j) e =
    let far : IsApart (at z) (at x) = each_in (IsApart (at z)) (at x) (map at zs) p.0 (in_map at x zs i) in
    let clash : true ≡ false = sym (same_spot_itself (at x)) ∙ ap (λ (s : Spot). same_spot s (at x)) (e ∙ ap at j) ∙ far in
    absurd cc
one_there at (z ∷ zs) x y p (inr i) (inr j) e = one_there at zs x y p.1 i j e

pub in_kept : {X : Type 0} (test : X → Bool) (x : X) (xs : List X) → IsIn x xs → test x ≡ true → IsIn x (filter test xs)
in_kept test x [] i e = i
in_kept test x (y ∷ ys) i e = by (test y) refl (in_kept test x ys) i
  where
    by : (b : Bool) → test y ≡ b → (IsIn x ys → test x ≡ true → IsIn x (filter test ys)) → IsIn x (y ∷ ys) → IsIn x (cond b (y ∷ filter test ys) (filter test ys))
    by true f later (inl same) = inl same
    by true f later (inr j) = inr (later j e)
    by false f later (inl same) = absurd (let clash : true ≡ false = sym e ∙ ap test same ∙ f in cc)
    by false f later (inr j) = later j e
