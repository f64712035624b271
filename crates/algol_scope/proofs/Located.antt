-- What is laid out is what the definitions say of the cells and names of a program.
use Rattle.std.proofs.Common.{◌≡◌, ℕ, ◌+◌, ◌<◌, ◌≤◌, ◌⊎◌, Bool, true, false, List, [], ◌∷◌, ◌++◌, map, filter, Option, Some, None, refl, ap, sym, ◌∙◌, subst, arith, slice_get, inl, inr, suc}
use Rattle.std.specs.Prelude.{◌==◌, ◌&&◌, if◌then◌else◌, min}
use Rattle.std.specs.Option.{option_or, option_map}
use Rattle.std.specs.List.{flat_map}
use Rattle.std.specs.declared.alloc.Global.{Global}
use Rattle.std.specs.declared.vec.Vec.{Vec}
use Rattle.std.specs.BTreeMap.{BTreeMap}
use Rattle.std.proofs.lemmas.List.{map-append}
use Rattle.std.proofs.lemmas.Option.{slice_get-map}
use Rattle.algol_tree.specs.declared.token.Spot.{Spot}
use Rattle.algol_tree.specs.Blocks.{Block, block_numbered, number_at, same_spot}
use Rattle.algol_tree.specs.Sites.{Site}
use Rattle.algol_tree.specs.Sorts.{Declared}
use Rattle.algol_tree.specs.Cells as cells
use Rattle.algol_tree.specs.Cells.{Cell, Content, cells_at, cells_of, content_number, couple_at, couple_in, holding, index_from, layout, level_at, level_of}
use Rattle.algol_tree.specs.Couples as couples
use Rattle.algol_tree.specs.Couples.{Known, Located, couple_of_cells, known_there, level_if}
use Rattle.algol_tree.specs.Names.{deep_blocks}
use Rattle.algol_sorts.specs.Sorts.{sort_of}
use Rattle.algol_frames.specs.declared.found.Cell as finding
use Rattle.algol_frames.specs.declared.found.Content.TheVariants as content
use Rattle.algol_frames.specs.declared.found.Block as begun
use Rattle.algol_frames.specs.declared.scopes.Couple.{Couple}
use Rattle.algol_frames.specs.Framing.{framed_cells_in, those_in}
use Rattle.algol_scope.specs.Noting.{noted_cell_of, content_of, parameters_here, use_of}
use Rattle.algol_scope.specs.Stating.{AreNumbered, stated_block_of}
use Rattle.algol_scope.specs.Resolved.{couple, located, meaning, meant, number_among, parameters_among}
use Rattle.algol_frames.specs.Laying.{actual_from, couple_by, couple_from, declared_by, declared_from, is_of, laid_in, laid_out, levels_of, number_from, parameters_from, rank, result_from, those_holding}
use Rattle.algol_scope.proofs.FirstFault.{those_told}
use Rattle.algol_scope.proofs.Placed.{Each}
use Rattle.algol_scope.proofs.Founded.{AreKnownAt, at_number, no_cells, not_deep, not_deep_at}

-- ---- the cells of a block in the order in which they lie

ranked : (k : Content) → rank (content_of k) ≡ content_number k
ranked cells.parameter = refl
ranked cells.result = refl
ranked cells.variable = refl
ranked cells.procedure = refl
ranked cells.actual = refl
ranked cells.made = refl

same_rank : (k : Content) (c : Cell) → is_of (content_of k) (noted_cell_of c) ≡ (content_number c.content == content_number k)
same_rank k c = ap (λ z. z == rank (content_of k)) (ranked c.content) ∙ ap (λ z. content_number c.content == z) (ranked k)

held_told : (k : Content) (cs : List Cell) → those_holding (content_of k) (map noted_cell_of cs) ≡ map noted_cell_of (holding k cs)
held_told k [] = refl
held_told k (c ∷ cs) =
    ap (λ (b : Bool). if b then noted_cell_of c ∷ those_holding (content_of k) (map noted_cell_of cs) else those_holding (content_of k) (map noted_cell_of cs)) (same_rank k c)
    ∙ decide (content_number c.content == content_number k) (held_told k cs)
  where
    decide : (b : Bool) → those_holding (content_of k) (map noted_cell_of cs) ≡ map noted_cell_of (holding k cs) →
        (if b then noted_cell_of c ∷ those_holding (content_of k) (map noted_cell_of cs) else those_holding (content_of k) (map noted_cell_of cs)) ≡
        map noted_cell_of (if b then c ∷ holding k cs else holding k cs)
    decide true h = ap (λ z. noted_cell_of c ∷ z) h
    decide false h = h

both : (xs ys : List finding.Cell) (cs ds : List Cell) → xs ≡ map noted_cell_of cs → ys ≡ map noted_cell_of ds → xs ++ ys ≡ map noted_cell_of (cs ++ ds)
both xs ys cs ds e f = ap (λ z. z ++ ys) e ∙ ap (λ z. map noted_cell_of cs ++ z) f ∙ sym (map-append noted_cell_of cs ds)

laid_told : (cs : List Cell) → laid_out (map noted_cell_of cs) ≡ map noted_cell_of (layout cs)
laid_told cs =
    let m : List finding.Cell = map noted_cell_of cs in
    let p1 = both (those_holding content.Parameter m) (those_holding content.Result m) (holding cells.parameter cs) (holding cells.result cs)
    (held_told cells.parameter cs) (held_told cells.result cs) in
    let p2 = both _ (those_holding content.Variable m) _ (holding cells.variable cs) p1 (held_told cells.variable cs) in
    let p3 = both _ (those_holding content.Procedure m) _ (holding cells.procedure cs) p2 (held_told cells.procedure cs) in
    let p4 = both _ (those_holding content.Actual m) _ (holding cells.actual cs) p3 (held_told cells.actual cs) in
    both _ (those_holding content.Made m) _ (holding cells.made cs) p4 (held_told cells.made cs)

couple_told : (level index : ℕ) (cs : List Cell) (spot : Spot) → couple (couple_from level index (map noted_cell_of cs) spot) ≡ couple_at level (index_from index cs spot)
couple_told level index [] spot = refl
couple_told level index (c ∷ cs) spot = decide (same_spot c.spot spot) (couple_told level (index + 1) cs spot)
  where
    decide : (b : Bool) → couple (couple_from level (index + 1) (map noted_cell_of cs) spot) ≡ couple_at level (index_from (index + 1) cs spot) →
        couple (if b then Some (record { level = level; index = index }) else couple_from level (index + 1) (map noted_cell_of cs) spot) ≡
        couple_at level (if b then Some index else index_from (index + 1) cs spot)
    decide true h = refl
    decide false h = h

-- ---- what names mean

pub meanings_told : (there : ℕ → Spot → Option Couple) (ks : List Known) (spot : Spot) →
    meaning (declared_from there (map use_of ks) spot) ≡ meant (known_there ks spot)
meanings_told there [] spot = refl
meanings_told there (k ∷ ks) spot = decide (same_spot k.spot spot) (meanings_told there ks spot)
  where
    decide : (b : Bool) → meaning (declared_from there (map use_of ks) spot) ≡ meant (known_there ks spot) →
        meaning (if b then Some (declared_by there (use_of k)) else declared_from there (map use_of ks) spot) ≡
        meant (if b then Some k.declared else known_there ks spot)
    decide true h = refl
    decide false h = h

-- ---- parameters, and numbers of blocks

pub parameters_told : (ks : List Known) (spot : Spot) → parameters_from (map use_of ks) spot ≡ parameters_among ks spot
parameters_told [] spot = refl
parameters_told (k ∷ ks) spot =
    ap (option_or (if same_spot k.spot spot then parameters_here k.spot k.declared else None)) (parameters_told ks spot)

pub numbers_told : (n : ℕ) (bs : List Block) (spot : Spot) → number_from n (map stated_block_of bs) spot ≡ number_among n bs spot
numbers_told n [] spot = refl
numbers_told n (b ∷ bs) spot = ap (option_or (if same_spot b.spot spot then Some n else None)) (numbers_told (n + 1) bs spot)

-- ---- couples

fits : (n : ℕ) → n ≤ 31 → min n 255 ≡ n
fits n h = omega (arith, h)

module _ (blocks : List Block) (ss : List Site) (table : BTreeMap ℕ (Vec finding.Cell Global)) (told : (q : ℕ) → framed_cells_in table q ≡ those_in (map noted_cell_of (flat_map (cells_at blocks) ss)) q)
    (deep : deep_blocks blocks ≡ []) (each : Each blocks ss) (numbered : AreNumbered blocks 0 blocks) where
  abbrev there : ℕ → Spot → Option Couple
  there = laid_in (map stated_block_of blocks) table

  its_cells : (q : ℕ) → framed_cells_in table q ≡ map noted_cell_of (cells_of blocks ss q)
  its_cells q = told q ∙ those_told (flat_map (cells_at blocks) ss) q

  of_block : (q : ℕ) (spot : Spot) (o : Option Block) → slice_get blocks q ≡ o →
      couple (couple_by (option_map stated_block_of o) (map noted_cell_of (cells_of blocks ss q)) spot) ≡ couple_in blocks ss q spot
  of_block q spot None e =
      sym (ap (λ z. couple_at (level_of (block_numbered blocks q)) (index_from 2 (layout z) spot)) (no_cells blocks ss q each e))
  of_block q spot (Some b) e =
      let cs : List Cell = cells_of blocks ss q in
      let zero-more : 0 + q ≡ q = omega arith in
      let number : block_numbered blocks q ≡ b = ap (block_numbered blocks) (sym zero-more) ∙ (at_number blocks blocks 0 q b numbered e).1 in
      ap (λ z. couple (couple_from (min (level_of b) 255) 2 z spot)) (laid_told cs) ∙ couple_told (min (level_of b) 255) 2 (layout cs) spot
      ∙ ap (λ z. couple_at z (index_from 2 (layout cs) spot)) (fits (level_of b) (not_deep blocks q b deep e))
      ∙ ap (λ (z : Block). couple_at (level_of z) (index_from 2 (layout cs) spot)) (sym number)

  pub there_told : (q : ℕ) (spot : Spot) → couple (there q spot) ≡ couple_in blocks ss q spot
  there_told q spot =
      ap (λ z. couple (couple_by z (framed_cells_in table q) spot)) (slice_get-map stated_block_of blocks q)
      ∙ ap (λ z. couple (couple_by (option_map stated_block_of (slice_get blocks q)) z spot)) (its_cells q)
      ∙ of_block q spot (slice_get blocks q) refl

  -- ---- declarations

  one_declared : (d : Declared) → level_at d.depth ≤ 31 →
      located (Some (record { spot = d.spot; block = d.block; level = min (level_at d.depth) 255; sort = sort_of d; couple = there d.block d.spot })) ≡ couples.located blocks ss (Some d)
  one_declared d h =
      let L : ℕ → Option cells.Couple → Option Located = λ z c. Some (record { spot = d.spot; level = z; couple = c }) in
      ap (λ z. L z (couple (there d.block d.spot))) (fits (level_at d.depth) h) ∙ ap (L (level_at d.depth)) (there_told d.block d.spot)

  pub declared_told : (ks : List Known) (spot : Spot) → AreKnownAt blocks ks →
      located (declared_from there (map use_of ks) spot) ≡ couples.located blocks ss (known_there ks spot)
  declared_told [] spot h = refl
  declared_told (k ∷ ks) spot h = decide (same_spot k.spot spot) (declared_told ks spot h.1)
    where
      decide : (b : Bool) → located (declared_from there (map use_of ks) spot) ≡ couples.located blocks ss (known_there ks spot) →
          located
          (if b
          then Some
          (record {
            spot = k.declared.spot;
            block = k.declared.block;
            level = min (level_at k.declared.depth) 255;
            sort = sort_of k.declared;
            couple = there k.declared.block k.declared.spot;
          })
          else declared_from there (map use_of ks) spot)
          ≡ couples.located blocks ss (if b then Some k.declared else known_there ks spot)
      decide true e = one_declared k.declared (not_deep_at blocks k.declared.block k.declared.depth deep h.0)
      decide false e = e

  -- ---- results

  abbrev stands_among : List Block → Spot → Bool
  stands_among [] spot = false
  stands_among (b ∷ bs) spot = if same_spot b.spot spot then true else stands_among bs spot

  abbrev couple_if : Bool → Option cells.Couple → Option cells.Couple
  couple_if false c = None
  couple_if true c = c

  spot_same : (a b : Spot) → same_spot a b ≡ true → a ≡ b
  spot_same a b h = grind arith

  none_behind : (n m : ℕ) (bs : List Block) (spot : Spot) → AreNumbered blocks m bs → n < m → number_at blocks spot ≡ n → stands_among bs spot ≡ false
  none_behind n m [] spot h l e = refl
  none_behind n m (b ∷ bs) spot h l e =
      let more : n < m + 1 = omega (arith, l) in
      decide (same_spot b.spot spot) refl (none_behind n (m + 1) bs spot h.1.1 more e)
    where
      decide : (x : Bool) → same_spot b.spot spot ≡ x → stands_among bs spot ≡ false → (if x then true else stands_among bs spot) ≡ false
      decide false s k = k
      decide true s k =
          let same : b.spot ≡ spot = spot_same b.spot spot s in
          let clash : m ≡ n = sym h.0 ∙ ap (number_at blocks) same ∙ e in
          absurd (omega (arith, l, clash))

  none_couple : (o : Option Couple) → couple o ≡ None → o ≡ None
  none_couple None h = refl
  none_couple (Some c) h = absurd (let clash : Some (record { level = c.level; index = c.index }) ≡ None = h in cc)

  or_nothing : (o : Option Couple) → option_or o None ≡ o
  or_nothing None = refl
  or_nothing (Some c) = refl

  results_from : (n : ℕ) (bs : List Block) (spot : Spot) → AreNumbered blocks n bs →
      couple (result_from there n (map stated_block_of bs) spot) ≡ couple_if (stands_among bs spot) (couple_in blocks ss (n + number_at bs spot) spot)
  results_from n [] spot h = refl
  results_from n (b ∷ bs) spot h = decide (results_from (n + 1) bs spot h.1.1) (same_spot b.spot spot) refl
    where
      decide : couple (result_from there (n + 1) (map stated_block_of bs) spot) ≡ couple_if (stands_among bs spot) (couple_in blocks ss ((n + 1) + number_at bs spot) spot) →
          (x : Bool) → same_spot b.spot spot ≡ x →
          couple (option_or (if x then there n b.spot else None) (result_from there (n + 1) (map stated_block_of bs) spot)) ≡
          couple_if (if x then true else stands_among bs spot) (couple_in blocks ss (n + (if x then 0 else number_at bs spot + 1)) spot)
      decide rest false s =
          let next : (n + 1) + number_at bs spot ≡ n + (number_at bs spot + 1) = omega arith in
          rest ∙ ap (λ z. couple_if (stands_among bs spot) (couple_in blocks ss z spot)) next
      decide rest true s =
          let same : b.spot ≡ spot = spot_same b.spot spot s in
          let more : n < n + 1 = omega arith in
          let here : n ≡ n + 0 = omega arith in
          let none : stands_among bs spot ≡ false = none_behind n (n + 1) bs spot h.1.1 more (ap (number_at blocks) (sym same) ∙ h.0) in
          let nothing : result_from there (n + 1) (map stated_block_of bs) spot ≡ None =
          none_couple (result_from there (n + 1) (map stated_block_of bs) spot)
          (rest ∙ ap (λ z. couple_if z (couple_in blocks ss ((n + 1) + number_at bs spot) spot)) none) in
          ap (λ z. couple (option_or (there n b.spot) z)) nothing ∙ ap couple (or_nothing (there n b.spot)) ∙ ap (λ z. couple (there n z)) same
          ∙ there_told n spot ∙ ap (λ z. couple_in blocks ss z spot) here

  no_number : (bs : List Block) (spot : Spot) → stands_among bs spot ≡ false → slice_get bs (number_at bs spot) ≡ None
  no_number [] spot h = refl
  no_number (b ∷ bs) spot h = decide (no_number bs spot) (same_spot b.spot spot) h
    where
      decide : (stands_among bs spot ≡ false → slice_get bs (number_at bs spot) ≡ None) → (x : Bool) → (if x then true else stands_among bs spot) ≡ false →
          slice_get (b ∷ bs) (if x then 0 else number_at bs spot + 1) ≡ None
      decide rest true e = absurd (let clash : true ≡ false = e in cc)
      decide rest false e =
          let next : number_at bs spot + 1 ≡ suc (number_at bs spot) = omega arith in
          ap (slice_get (b ∷ bs)) next ∙ rest e

  pub results_told : (spot : Spot) → couple (result_from there 0 (map stated_block_of blocks) spot) ≡ couple_in blocks ss (number_at blocks spot) spot
  results_told spot = results_from 0 blocks spot numbered ∙ decide (stands_among blocks spot) refl
    where
      decide : (x : Bool) → stands_among blocks spot ≡ x →
          couple_if x (couple_in blocks ss (0 + number_at blocks spot) spot) ≡ couple_in blocks ss (number_at blocks spot) spot
      decide true s = let none : 0 + number_at blocks spot ≡ number_at blocks spot = omega arith in ap (λ z. couple_in blocks ss z spot) none
      decide false s =
          sym
          (ap (λ z. couple_at (level_of (block_numbered blocks (number_at blocks spot))) (index_from 2 (layout z) spot))
          (no_cells blocks ss (number_at blocks spot) each (no_number blocks spot s)))

  -- ---- actuals

  abbrev IsIn : Cell → List Cell → Type 0
  IsIn c [] = ⊥
  IsIn c (d ∷ ds) = (c ≡ d) ⊎ IsIn c ds

  in_first : (c : Cell) (cs ds : List Cell) → IsIn c cs → IsIn c (cs ++ ds)
  in_first c [] ds h = absurd h
  in_first c (x ∷ cs) ds (inl e) = inl e
  in_first c (x ∷ cs) ds (inr h) = inr (in_first c cs ds h)

  in_last : (c : Cell) (cs ds : List Cell) → IsIn c ds → IsIn c (cs ++ ds)
  in_last c [] ds h = h
  in_last c (x ∷ cs) ds h = inr (in_last c cs ds h)

  in_filter : (test : Cell → Bool) (c : Cell) (cs : List Cell) → test c ≡ true → IsIn c cs → IsIn c (filter test cs)
  in_filter test c [] t h = absurd h
  in_filter test c (x ∷ cs) t (inl e) =
      let P : Bool → Type 0 = λ z. IsIn c (if z then x ∷ filter test cs else filter test cs) in
      subst P (sym (ap test (sym e) ∙ t)) (inl e)
  in_filter test c (x ∷ cs) t (inr h) = decide (test x) (in_filter test c cs t h)
    where
      decide : (b : Bool) → IsIn c (filter test cs) → IsIn c (if b then x ∷ filter test cs else filter test cs)
      decide true k = inr k
      decide false k = k

  spot_itself : (a : Spot) → same_spot a a ≡ true
  spot_itself a = grind arith

  is_some : (c : cells.Couple) → Some c ≡ None → ⊥
  is_some c h = cc

  -- the cell that stands there has a couple
  some_couple : (level index : ℕ) (c : Cell) (cs : List Cell) → IsIn c cs → couple_at level (index_from index cs c.spot) ≡ None → ⊥
  some_couple level index c [] h e = h
  some_couple level index c (x ∷ cs) (inl s) e =
      let at : same_spot x.spot c.spot ≡ true = ap (λ (z : Cell). same_spot z.spot c.spot) (sym s) ∙ spot_itself c.spot in
      let first : couple_at level (Some index) ≡ None =
      ap (λ (b : Bool). couple_at level (if b then Some index else index_from (index + 1) cs c.spot)) (sym at) ∙ e in
      is_some (record { level = level; index = index }) first
  some_couple level index c (x ∷ cs) (inr h) e = decide (some_couple level (index + 1) c cs h) (same_spot x.spot c.spot) e
    where
      decide : (couple_at level (index_from (index + 1) cs c.spot) ≡ None → ⊥) → (b : Bool) →
          couple_at level (if b then Some index else index_from (index + 1) cs c.spot) ≡ None → ⊥
      decide rest true f = is_some (record { level = level; index = index }) f
      decide rest false f = rest f

  abbrev is_actual : Cell → Bool
  is_actual c = content_number c.content == content_number cells.actual

  abbrev all : List Cell
  all = flat_map (cells_at blocks) ss

  number_itself : (n : ℕ) → (n == n) ≡ true
  number_itself n = grind arith

  laid_there : (c : Cell) → is_actual c ≡ true → IsIn c all → IsIn c (layout (cells_of blocks ss c.block))
  laid_there c t h =
      let cs : List Cell = cells_of blocks ss c.block in
      let mine : IsIn c cs = in_filter (λ (d : Cell). d.block == c.block) c all (number_itself c.block) h in
      in_first c
      (((((holding cells.parameter cs ++ holding cells.result cs) ++ holding cells.variable cs) ++ holding cells.procedure cs) ++ holding cells.actual cs))
      (holding cells.made cs)
      (in_last c (((holding cells.parameter cs ++ holding cells.result cs) ++ holding cells.variable cs) ++ holding cells.procedure cs) (holding cells.actual cs)
      (in_filter is_actual c cs t mine))

  has_couple : (c : Cell) → is_actual c ≡ true → IsIn c all → couple_in blocks ss c.block c.spot ≡ None → ⊥
  has_couple c t h e = some_couple (level_of (block_numbered blocks c.block)) 2 c (layout (cells_of blocks ss c.block)) (laid_there c t h) e

  or_some : (o p : Option Couple) → (couple o ≡ None → ⊥) → couple (option_or o p) ≡ couple o
  or_some None p h = absurd (h refl)
  or_some (Some c) p h = refl

  pub actuals_from : (cs : List Cell) (spot : Spot) → ((c : Cell) → IsIn c cs → IsIn c all) →
      couple (actual_from there (map noted_cell_of cs) spot) ≡ couple_of_cells blocks ss (filter is_actual cs) spot
  actuals_from [] spot h = refl
  actuals_from (c ∷ cs) spot h =
      ap (λ (x : Bool). couple (option_or (if x && same_spot c.spot spot then there c.block c.spot else None) (actual_from there (map noted_cell_of cs) spot)))
      (same_rank cells.actual c) ∙ decide (actuals_from cs spot (λ d k. h d (inr k))) (is_actual c) refl (same_spot c.spot spot) refl
    where
      decide : couple (actual_from there (map noted_cell_of cs) spot) ≡ couple_of_cells blocks ss (filter is_actual cs) spot → (x : Bool) → is_actual c ≡ x → (y : Bool) → same_spot c.spot spot ≡ y →
          couple (option_or (if x && y then there c.block c.spot else None) (actual_from there (map noted_cell_of cs) spot)) ≡
          couple_of_cells blocks ss (if x then c ∷ filter is_actual cs else filter is_actual cs) spot
      decide rest false a y s = rest
      decide rest true a false s =
          rest ∙ ap (λ (b : Bool). if b then couple_in blocks ss c.block spot else couple_of_cells blocks ss (filter is_actual cs) spot) (sym s)
      decide rest true a true s =
          let same : c.spot ≡ spot = spot_same c.spot spot s in
          let its : couple (there c.block c.spot) ≡ couple_in blocks ss c.block c.spot = there_told c.block c.spot in
          or_some (there c.block c.spot) (actual_from there (map noted_cell_of cs) spot) (λ e. has_couple c a (h c (inl refl)) (sym its ∙ e)) ∙ its
          ∙ ap (couple_in blocks ss c.block) same
          ∙ ap (λ (b : Bool). if b then couple_in blocks ss c.block spot else couple_of_cells blocks ss (filter is_actual cs) spot) (sym s)

  pub actuals_told : (spot : Spot) → couple (actual_from there (map noted_cell_of all) spot) ≡ couple_of_cells blocks ss (filter is_actual all) spot
  actuals_told spot = actuals_from all spot (λ c h. h)

  -- ---- levels

  pub levels_told : (q : ℕ) → slice_get (levels_of (map stated_block_of blocks)) q ≡ level_if (slice_get blocks q)
  levels_told q =
      slice_get-map (λ (b : begun.Block). b.level) (map stated_block_of blocks) q
      ∙ ap (option_map (λ (b : begun.Block). b.level)) (slice_get-map stated_block_of blocks q) ∙ decide (slice_get blocks q) refl
    where
      decide : (o : Option Block) → slice_get blocks q ≡ o → option_map (λ (b : begun.Block). b.level) (option_map stated_block_of o) ≡ level_if o
      decide None e = refl
      decide (Some b) e = ap (λ z. Some z) (fits (level_of b) (not_deep blocks q b deep e))
