-- Each cell of an accepted program that is built lies among the first of its frame, as many as its block may have.
use Rattle.std.proofs.Common.{arith, ◌≡◌, ℕ, ◌+◌, ◌<◌, ◌==◌, nat_lt, Bool, true, false, cond, List, [], ◌∷◌, ◌++◌, filter, map, length, Option, Some, None, refl, ap, subst, ◌∙◌, length-append, slice_get, if◌then◌else◌}
use Rattle.std.specs.List.{flat_map}
use Rattle.std.proofs.lemmas.Bool.{ne_eqb}
use Rattle.std.proofs.lemmas.Bool.Decides.{nat_tests}
use Rattle.std.proofs.lemmas.List.{length-map}
use Rattle.algol_tree.specs.declared.TheConstants.{MOST_BLOCK_CELLS}
use Rattle.algol_tree.specs.declared.token.Spot.{Spot}
use Rattle.algol_tree.specs.Blocks.{Block, block_numbered, number_at, same_spot}
use Rattle.algol_tree.specs.Cells as cells
use Rattle.algol_tree.specs.Cells.{Cell, Content, cells_at, cells_of, content_number, holding, index_from, layout, level_of, couple_at, couple_in}
use Rattle.algol_tree.specs.Couples.{Located, located, declaration_in, known_at, known_there, couple_of_cells}
use Rattle.algol_tree.specs.Names.{cells_beyond, place_beyond}
use Rattle.algol_tree.specs.Sites.{Site}
use Rattle.algol_tree.specs.Sorts.{Declared}
use Rattle.algol_tree.proofs.Spots.{not_found}
use Rattle.b67_fitting.proofs.Lists.{each_of, filter_none, nil_each}
use Rattle.b67_list.proofs.Lists.{no_longer}
use Rattle.b67_compile.proofs.Cells.{AreOfFew, HasFew, HaveFew}

-- ---- the layout of a frame has each cell once

abbrev one : Bool → ℕ
one true = 1
one false = 0

counted : {X : Type 0} (b : Bool) (x : X) (xs : List X) → length (cond b (x ∷ xs) xs) ≡ one b + length xs
counted true x xs = omega arith
counted false x xs = omega arith

once : (k : Content) →
    one (content_number k == 0) + one (content_number k == 1) + one (content_number k == 2) + one (content_number k == 3) + one (content_number k == 4) + one (content_number k == 5) ≡ 1
once cells.parameter = refl
once cells.result = refl
once cells.variable = refl
once cells.procedure = refl
once cells.actual = refl
once cells.made = refl

all_held : (cs : List Cell) →
    length (holding cells.parameter cs) + length (holding cells.result cs) + length (holding cells.variable cs) + length (holding cells.procedure cs) + length (holding cells.actual cs)
    + length (holding cells.made cs) ≡ length cs
all_held [] = refl
all_held (c ∷ cs) =
    let k = content_number c.content in
    omega (
      arith,
      counted (k == 0) c (holding cells.parameter cs),
      counted (k == 1) c (holding cells.result cs),
      counted (k == 2) c (holding cells.variable cs),
      counted (k == 3) c (holding cells.procedure cs),
      counted (k == 4) c (holding cells.actual cs),
      counted (k == 5) c (holding cells.made cs),
      once c.content,
      all_held cs,
    )

as_many_laid : (cs : List Cell) → length (layout cs) ≡ length cs
as_many_laid cs =
    let p = holding cells.parameter cs in
    let r = holding cells.result cs in
    let v = holding cells.variable cs in
    let q = holding cells.procedure cs in
    let a = holding cells.actual cs in
    let m = holding cells.made cs in
    omega (
      arith,
      length-append (p ++ r ++ v ++ q ++ a) m,
      length-append (p ++ r ++ v ++ q) a,
      length-append (p ++ r ++ v) q,
      length-append (p ++ r) v,
      length-append p r,
      all_held cs,
    )

-- an index is one of the cells'
index_within : (i : ℕ) (cs : List Cell) (spot : Spot) (found : ℕ) → index_from i cs spot ≡ Some found → found < i + length cs
index_within i [] spot found h = absurd (let clash : None ≡ Some found = h in cc)
index_within i (c ∷ cs) spot found h = by (same_spot c.spot spot) (index_within (i + 1) cs spot found) h
  where
    by : (b : Bool) → (index_from (i + 1) cs spot ≡ Some found → found < i + 1 + length cs) → (if b then Some i else index_from (i + 1) cs spot) ≡ Some found →
        found < i + length (c ∷ cs)
    by true later e =
        let same : i ≡ found = cc in
        omega (arith, same)
    by false later e = omega (arith, later e)

-- ---- limits that are kept

module _ (blocks : List Block) (all : List Site) where
  -- each block has few (rule TooManyCells)
  pub blocks_few : cells_beyond blocks all ≡ [] → HaveFew blocks all blocks
  blocks_few h =
      let spots : Block → List Spot = λ b. map (λ (c : Cell). c.spot) (cells_of blocks all (number_at blocks b.spot)) in
      each_of (λ (b : Block). place_beyond MOST_BLOCK_CELLS (spots b) ≡ []) (λ (b : Block). HasFew blocks all (number_at blocks b.spot)) blocks
      (λ b e.
      omega (arith, no_longer (spots b) MOST_BLOCK_CELLS (not_found (slice_get (spots b) MOST_BLOCK_CELLS) e), length-map (cells_of blocks all (number_at blocks b.spot)) (λ (c : Cell). c.spot)))
      (nil_each (λ (b : Block). place_beyond MOST_BLOCK_CELLS (spots b)) blocks h)

  module _ (few : AreOfFew blocks all all) where
    -- also a number that is no block's
    few_in : (block : ℕ) → HasFew blocks all block
    few_in block = by (nat_lt MOST_BLOCK_CELLS (length (cells_of blocks all block))) refl
      where
        by : (b : Bool) → nat_lt MOST_BLOCK_CELLS (length (cells_of blocks all block)) ≡ b → HasFew blocks all block
        by false e = grind (arith, nat_tests)
        by true e =
            let many : MOST_BLOCK_CELLS < length (cells_of blocks all block) = grind (arith, nat_tests) in
            let none : filter (λ (c : Cell). c.block == block) (flat_map (cells_at blocks) all) ≡ [] =
            filter_none (λ (c : Cell). c.block == block) (flat_map (cells_at blocks) all)
            (each_of (λ (c : Cell). HasFew blocks all c.block) (λ (c : Cell). (c.block == block) ≡ false) (flat_map (cells_at blocks) all)
            (λ c g.
            ne_eqb c.block block
            (λ same.
            let here : HasFew blocks all block = subst (HasFew blocks all) same g in
            omega (arith, here, many)))
            few) in
            omega (arith, ap (λ (cs : List Cell). length cs) none)

    couple_near : (level block : ℕ) (at : Spot) (o : Option ℕ) (c : cells.Couple) → index_from 2 (layout (cells_of blocks all block)) at ≡ o → couple_at level o ≡ Some c →
        c.index < 2 + MOST_BLOCK_CELLS
    couple_near level block at None c e h = absurd (let clash : None ≡ Some c = h in cc)
    couple_near level block at (Some i) c e h =
        let same : record { level = level; index = i } ≡ c = cc in
        let index : i ≡ c.index = ap (λ (z : cells.Couple). z.index) same in
        let cs = cells_of blocks all block in
        omega (arith, index, index_within 2 (layout cs) at i e, as_many_laid cs, few_in block)

    pub located_near : (at : Spot) (d : Located) (c : cells.Couple) → declaration_in blocks all at ≡ Some d → d.couple ≡ Some c → c.index < 2 + MOST_BLOCK_CELLS
    located_near at d c h g = by (known_there (flat_map (known_at blocks) all) at) h
      where
        by : (o : Option Declared) → located blocks all o ≡ Some d → c.index < 2 + MOST_BLOCK_CELLS
        by None e = absurd (let clash : None ≡ Some d = e in cc)
        by (Some x) e =
            let same : Some (record { spot = x.spot; level = x.depth + 2; couple = couple_in blocks all x.block x.spot }) ≡ Some d = e in
            let here : couple_in blocks all x.block x.spot ≡ d.couple = cc in
            couple_near (level_of (block_numbered blocks x.block)) x.block x.spot (index_from 2 (layout (cells_of blocks all x.block)) x.spot) c refl (here ∙ g)

    pub result_near : (spot : Spot) (c : cells.Couple) → couple_in blocks all (number_at blocks spot) spot ≡ Some c → c.index < 2 + MOST_BLOCK_CELLS
    result_near spot c h =
        let block = number_at blocks spot in
        couple_near (level_of (block_numbered blocks block)) block spot (index_from 2 (layout (cells_of blocks all block)) spot) c refl h

    pub actual_near : (cs : List Cell) (spot : Spot) (c : cells.Couple) → couple_of_cells blocks all cs spot ≡ Some c → c.index < 2 + MOST_BLOCK_CELLS
    actual_near [] spot c h = absurd (let clash : None ≡ Some c = h in cc)
    actual_near (x ∷ xs) spot c h = by (same_spot x.spot spot) h (λ e. actual_near xs spot c e)
      where
        by : (b : Bool) → (if b then couple_in blocks all x.block spot else couple_of_cells blocks all xs spot) ≡ Some c →
            (couple_of_cells blocks all xs spot ≡ Some c → c.index < 2 + MOST_BLOCK_CELLS) → c.index < 2 + MOST_BLOCK_CELLS
        by true e later = couple_near (level_of (block_numbered blocks x.block)) x.block spot (index_from 2 (layout (cells_of blocks all x.block)) spot) c refl e
        by false e later = later e
