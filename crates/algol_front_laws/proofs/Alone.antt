-- No two cells of a block stand at one place.
use Rattle.std.proofs.Common.{◌≡◌, inl, inr, ℕ, Bool, true, false, List, [], ◌∷◌, ◌++◌, refl, sym, subst, ap, ◌∙◌}
use Rattle.std.proofs.lemmas.Grind.{flat_map-append}
use Rattle.std.specs.Prelude.{if◌then◌else◌, is_some}
use Rattle.std.specs.List.{flat_map}
use Rattle.algol_tree.specs.declared.token.Spot.{Spot}
use Rattle.algol_tree.specs.declared.tree.Named.{Named}
use Rattle.algol_tree.specs.declared.tree.Heading.{Heading}
use Rattle.algol_tree.specs.Plain as tree
use Rattle.algol_tree.specs.Plain.{PDecl, PDecls, PProgram}
use Rattle.algol_tree.specs.Blocks.{Block, number_at, same_spot}
use Rattle.algol_tree.specs.Surroundings.{Surroundings}
use Rattle.algol_tree.specs.Sites as site
use Rattle.algol_tree.specs.Sites.{Part, Site}
use Rattle.algol_tree.specs.Cells as cells
use Rattle.algol_tree.specs.Cells.{Cell, Content, cells_at, cells_for, cells_of_decl, cells_of_part, first_spot, has_cell, result_cells}
use Rattle.algol_tree.specs.Ascending.{spots_of_names}
use Rattle.algol_tree.proofs.Spots.{same_spot_itself}
use Rattle.algol_told.proofs.Lists.{IsIn, false_not_true, of_in}
use Rattle.algol_told.proofs.Spots.{AreApart, AreSome, IsApart, some_both, some_more}
use Rattle.algol_told.proofs.Apart.{spots_at, spots_in_decl, spots_in_part}
use Rattle.algol_front_laws.proofs.CellSpots.{cell_spots, cells_in_decl, cells_in_part, spot_if}

-- ---- the places of the cells that are results, and of the others

abbrev pub is_result : Content → Bool
is_result cells.result = true
is_result _ = false

abbrev pub is_other : Content → Bool
is_other cells.result = false
is_other _ = true

abbrev picked : (Content → Bool) → Cell → List Spot
picked test c = spot_if (test c.content) c.spot

abbrev pub Picked : (Content → Bool) → List Cell → List Spot
Picked test cs = flat_map (picked test) cs

-- ---- of those that are picked, one stands at a place

there : (test : Content → Bool) (cs : List Cell) (c : Cell) → IsIn cs c → test c.content ≡ true → IsIn (Picked test cs) c.spot
there test [] c i t = absurd i
there test (x ∷ cs) c (inl e) t =
    let P : Cell → Type 0 = λ z. IsIn (spot_if (test z.content) z.spot ++ Picked test cs) c.spot in
    let Q : Bool → Type 0 = λ b. IsIn (spot_if b c.spot ++ Picked test cs) c.spot in
    let first : Q true = inl refl in
    subst P (sym e) (subst Q (sym t) first)
there test (x ∷ cs) c (inr i) t = decide (test x.content) (there test cs c i t)
  where
    decide : (b : Bool) → IsIn (Picked test cs) c.spot → IsIn (spot_if b x.spot ++ Picked test cs) c.spot
    decide true k = inr k
    decide false k = k

-- the first of these, and one after it
not_again : (test : Content → Bool) (x : Cell) (cs : List Cell) (c : Cell) → AreApart (Picked test (x ∷ cs)) → test x.content ≡ true → IsIn cs c → test c.content ≡ true →
    x.spot ≡ c.spot → ⊥
not_again test x cs c a t i u e =
    let P : Bool → Type 0 = λ b. AreApart (spot_if b x.spot ++ Picked test cs) in
    let all : P true = subst P t a in
    let other : same_spot x.spot c.spot ≡ false = of_in (IsApart x.spot) (Picked test cs) c.spot all.0 (there test cs c i u) in
    false_not_true (sym other ∙ ap (same_spot x.spot) (sym e) ∙ same_spot_itself x.spot)

behind : (test : Content → Bool) (x : Cell) (cs : List Cell) → AreApart (Picked test (x ∷ cs)) → AreApart (Picked test cs)
behind test x cs a = decide (test x.content) a
  where
    decide : (b : Bool) → AreApart (spot_if b x.spot ++ Picked test cs) → AreApart (Picked test cs)
    decide true k = k.1
    decide false k = k

pub alone : (test : Content → Bool) (cs : List Cell) (c d : Cell) → AreApart (Picked test cs) → IsIn cs c → IsIn cs d → test c.content ≡ true → test d.content ≡ true →
    c.spot ≡ d.spot → c ≡ d
alone test [] c d a i j t u e = absurd i
alone test (x ∷ cs) c d a (inl p) (inl q) t u e = sym p ∙ q
alone test (x ∷ cs) c d a (inl p) (inr j) t u e =
    absurd (not_again test x cs d a (ap (λ (z : Cell). test z.content) p ∙ t) j u (ap (λ (z : Cell). z.spot) p ∙ e))
alone test (x ∷ cs) c d a (inr i) (inl q) t u e =
    absurd (not_again test x cs c a (ap (λ (z : Cell). test z.content) q ∙ u) i t (ap (λ (z : Cell). z.spot) q ∙ sym e))
alone test (x ∷ cs) c d a (inr i) (inr j) t u e = alone test cs c d (behind test x cs a) i j t u e

-- ---- where the cells of a part stand

Picked_append : (test : Content → Bool) (cs ds : List Cell) → Picked test (cs ++ ds) ≡ Picked test cs ++ Picked test ds
Picked_append test cs ds = flat_map-append (picked test) cs ds

both : (test : Content → Bool) (cs ds : List Cell) (us vs : List Spot) → AreSome (Picked test cs) us → AreSome (Picked test ds) vs →
    AreSome (Picked test (cs ++ ds)) (us ++ vs)
both test cs ds us vs h k =
    let P : List Spot → Type 0 = λ zs. AreSome zs (us ++ vs) in
    subst P (sym (Picked_append test cs ds)) (some_both (Picked test cs) us (Picked test ds) vs h k)

some_names : (test : Content → Bool) (block : ℕ) (content : Content) (ns : List Named) → AreSome (Picked test (cells_for block content ns)) (spots_of_names ns)
some_names test block content [] = tt
some_names test block content (n ∷ ns) = decide (test content) (some_names test block content ns)
  where
    decide : (b : Bool) → AreSome (Picked test (cells_for block content ns)) (spots_of_names ns) →
        AreSome (spot_if b n.spot ++ Picked test (cells_for block content ns)) (n.spot ∷ spots_of_names ns)
    decide true k = inl (refl, k)
    decide false k = some_more n.spot (Picked test (cells_for block content ns)) (spots_of_names ns) k

no_names : (block : ℕ) (content : Content) → is_result content ≡ false → (ns : List Named) → Picked is_result (cells_for block content ns) ≡ []
no_names block content e [] = refl
no_names block content e (n ∷ ns) = ap (λ (b : Bool). spot_if b n.spot ++ Picked is_result (cells_for block content ns)) e ∙ no_names block content e ns

module _ (blocks : List Block) where
  no_result : (h : Heading) → Picked is_other (result_cells blocks h) ≡ []
  no_result h = decide (is_some h.kind)
    where
      decide : (b : Bool) → Picked is_other (if b then cells_for (number_at blocks h.name.spot) cells.result (h.name ∷ []) else []) ≡ []
      decide true = refl
      decide false = refl

  result_there : (h : Heading) → AreSome (Picked is_result (result_cells blocks h)) (h.name.spot ∷ [])
  result_there h = decide (is_some h.kind)
    where
      decide : (b : Bool) → AreSome (Picked is_result (if b then cells_for (number_at blocks h.name.spot) cells.result (h.name ∷ []) else [])) (h.name.spot ∷ [])
      decide true = inl (refl, tt)
      decide false = tt

  some_none : (xs ys : List Spot) → xs ≡ [] → AreSome xs ys
  some_none xs ys e = let P : List Spot → Type 0 = λ zs. AreSome zs ys in subst P (sym e) tt

  -- the cells of a procedure: its own, its result, and its parameters
  others_of_procedure : (h : Heading) (block : ℕ) →
      AreSome (Picked is_other (cells_for block cells.procedure (h.name ∷ []) ++ result_cells blocks h ++ cells_for (number_at blocks h.name.spot) cells.parameter h.params))
      (h.name.spot ∷ spots_of_names h.params)
  others_of_procedure h block =
      let its : List Cell = cells_for block cells.procedure (h.name ∷ []) in
      let params : List Cell = cells_for (number_at blocks h.name.spot) cells.parameter h.params in
      both is_other (its ++ result_cells blocks h) params (h.name.spot ∷ []) (spots_of_names h.params)
      (both is_other its (result_cells blocks h) (h.name.spot ∷ []) [] (inl (refl, tt)) (some_none (Picked is_other (result_cells blocks h)) [] (no_result h)))
      (some_names is_other (number_at blocks h.name.spot) cells.parameter h.params)

  results_of_procedure : (h : Heading) (block : ℕ) (rest : List Spot) →
      AreSome (Picked is_result (cells_for block cells.procedure (h.name ∷ []) ++ result_cells blocks h ++ cells_for (number_at blocks h.name.spot) cells.parameter h.params))
      (h.name.spot ∷ rest)
  results_of_procedure h block rest =
      let its : List Cell = cells_for block cells.procedure (h.name ∷ []) in
      let params : List Cell = cells_for (number_at blocks h.name.spot) cells.parameter h.params in
      both is_result (its ++ result_cells blocks h) params (h.name.spot ∷ []) rest (result_there h)
      (some_none (Picked is_result params) rest (no_names (number_at blocks h.name.spot) cells.parameter refl h.params))

  others_of_decl : (d : PDecl) (block : ℕ) → AreSome (Picked is_other (cells_of_decl blocks d block)) (cells_in_decl d)
  others_of_decl (tree.simple kind ns) block = some_names is_other block cells.variable ns
  others_of_decl (tree.files ns) block = tt
  others_of_decl (tree.events ns) block = some_names is_other block cells.made ns
  others_of_decl (tree.tasks ns) block = some_names is_other block cells.made ns
  others_of_decl (tree.labels ns) block = tt
  others_of_decl (tree.arrays kind ns pairs) block = some_names is_other block cells.made ns
  others_of_decl (tree.forward h) block = tt
  others_of_decl (tree.procedure h s) block = others_of_procedure h block

  results_of_decl : (d : PDecl) (block : ℕ) → AreSome (Picked is_result (cells_of_decl blocks d block)) (spots_in_decl d)
  results_of_decl (tree.simple kind ns) block = some_none _ (spots_of_names ns) (no_names block cells.variable refl ns)
  results_of_decl (tree.files ns) block = tt
  results_of_decl (tree.events ns) block = some_none _ (spots_of_names ns) (no_names block cells.made refl ns)
  results_of_decl (tree.tasks ns) block = some_none _ (spots_of_names ns) (no_names block cells.made refl ns)
  results_of_decl (tree.labels ns) block = tt
  results_of_decl (tree.arrays kind ns pairs) block = some_none _ (spots_of_names ns) (no_names block cells.made refl ns)
  results_of_decl (tree.forward h) block = tt
  results_of_decl (tree.procedure h s) block = results_of_procedure h block _

  actual_others : (b : Bool) (block : ℕ) (spot : Spot) →
      AreSome (Picked is_other (if b then record { block = block; spot = spot; content = cells.actual } ∷ [] else [])) (spot_if b spot)
  actual_others true block spot = inl (refl, tt)
  actual_others false block spot = tt

  actual_results : (b : Bool) (block : ℕ) (spot : Spot) (us : List Spot) →
      AreSome (Picked is_result (if b then record { block = block; spot = spot; content = cells.actual } ∷ [] else [])) us
  actual_results true block spot us = tt
  actual_results false block spot us = tt

  others_of_part : (p : Part) (a : Surroundings) → AreSome (Picked is_other (cells_of_part blocks p a)) (cells_in_part p a)
  others_of_part (site.name n) a = tt
  others_of_part (site.expression e) a = tt
  others_of_part (site.actual e f) a = actual_others (has_cell e f a) a.block (first_spot e)
  others_of_part (site.bound e) a = tt
  others_of_part (site.statement s listed) a = tt
  others_of_part (site.declaration d later) a = others_of_decl d a.block

  results_of_part : (p : Part) (a : Surroundings) → AreSome (Picked is_result (cells_of_part blocks p a)) (spots_in_part p)
  results_of_part (site.name n) a = tt
  results_of_part (site.expression e) a = tt
  results_of_part (site.actual e f) a = actual_results (has_cell e f a) a.block (first_spot e) []
  results_of_part (site.bound e) a = tt
  results_of_part (site.statement s listed) a = tt
  results_of_part (site.declaration d later) a = results_of_decl d a.block

  pub others_of : (xs : List Site) → AreSome (Picked is_other (flat_map (cells_at blocks) xs)) (flat_map cell_spots xs)
  others_of [] = tt
  others_of (x ∷ xs) = both is_other (cells_at blocks x) (flat_map (cells_at blocks) xs) (cell_spots x) (flat_map cell_spots xs) (others_of_part x.part x.around) (others_of xs)

  pub results_of : (xs : List Site) → AreSome (Picked is_result (flat_map (cells_at blocks) xs)) (flat_map spots_at xs)
  results_of [] = tt
  results_of (x ∷ xs) = both is_result (cells_at blocks x) (flat_map (cells_at blocks) xs) (spots_at x) (flat_map spots_at xs) (results_of_part x.part x.around) (results_of xs)
