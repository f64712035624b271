-- Each cell has a couple, which is that of no other place in its block.
use Rattle.std.proofs.Common.{◌≡◌, inl, inr, ℕ, ◌+◌, ◌≤◌, Bool, true, false, List, [], ◌∷◌, ◌++◌, filter, Option, Some, None, refl, sym, subst, ap, ◌∙◌, arith}
use Rattle.std.specs.Prelude.{◌==◌, if◌then◌else◌}
use Rattle.std.specs.List.{flat_map}
use Rattle.algol_tree.specs.declared.token.Spot.{Spot}
use Rattle.algol_tree.specs.Blocks.{Block, same_spot, block_numbered}
use Rattle.algol_tree.specs.Sites.{Site}
use Rattle.algol_tree.specs.Cells as cells
use Rattle.algol_tree.specs.Cells.{Cell, Content, Couple, cells_at, cells_of, content_number, couple_at, couple_in, holding, index_from, layout, level_of}
use Rattle.algol_tree.proofs.Spots.{same_spot_is, same_spot_itself}
use Rattle.algol_told.proofs.Lists.{IsIn, in_left, in_right}
use Rattle.b67_list.proofs.Numbers.{number_told}

pub in_filter : (test : Cell → Bool) (cs : List Cell) (c : Cell) → test c ≡ true → IsIn cs c → IsIn (filter test cs) c
in_filter test [] c h i = absurd i
in_filter test (d ∷ cs) c h (inl e) =
    let so : test d ≡ true = ap test e ∙ h in
    let P : Bool → Type 0 = λ b. IsIn (if b then d ∷ filter test cs else filter test cs) c in
    let here : P true = inl e in
    subst P (sym so) here
in_filter test (d ∷ cs) c h (inr i) = decide (test d) (in_filter test cs c h i)
  where
    decide : (b : Bool) → IsIn (filter test cs) c → IsIn (if b then d ∷ filter test cs else filter test cs) c
    decide true k = inr k
    decide false k = k

-- ---- the layout has each cell

laid : (cs : List Cell) (c : Cell) → IsIn cs c → IsIn (layout cs) c
laid cs c i = decide c.content refl
  where
    held : (content : Content) → c.content ≡ content → IsIn (holding content cs) c
    held content e =
        in_filter (λ (d : Cell). content_number d.content == content_number content) cs c
        (number_told (content_number c.content) (content_number content) (ap content_number e)) i

    decide : (content : Content) → c.content ≡ content → IsIn (layout cs) c
    decide cells.parameter e =
        in_left _ (holding cells.made cs) c (in_left _ (holding cells.actual cs) c (in_left _ (holding cells.procedure cs) c
        (in_left _ (holding cells.variable cs) c (in_left (holding cells.parameter cs) (holding cells.result cs) c (held cells.parameter e)))))
    decide cells.result e =
        in_left _ (holding cells.made cs) c (in_left _ (holding cells.actual cs) c (in_left _ (holding cells.procedure cs) c
        (in_left _ (holding cells.variable cs) c (in_right (holding cells.parameter cs) (holding cells.result cs) c (held cells.result e)))))
    decide cells.variable e =
        in_left _ (holding cells.made cs) c (in_left _ (holding cells.actual cs) c (in_left _ (holding cells.procedure cs) c
        (in_right (holding cells.parameter cs ++ holding cells.result cs) (holding cells.variable cs) c (held cells.variable e))))
    decide cells.procedure e =
        in_left _ (holding cells.made cs) c (in_left _ (holding cells.actual cs) c
        (in_right (holding cells.parameter cs ++ holding cells.result cs ++ holding cells.variable cs) (holding cells.procedure cs) c (held cells.procedure e)))
    decide cells.actual e =
        in_left _ (holding cells.made cs) c
        (in_right (holding cells.parameter cs ++ holding cells.result cs ++ holding cells.variable cs ++ holding cells.procedure cs) (holding cells.actual cs) c
        (held cells.actual e))
    decide cells.made e =
        in_right
        (holding cells.parameter cs ++ holding cells.result cs ++ holding cells.variable cs ++ holding cells.procedure cs ++ holding cells.actual cs)
        (holding cells.made cs) c (held cells.made e)

-- ---- indices

indexed : (i : ℕ) (cs : List Cell) (c : Cell) → IsIn cs c → (k : ℕ) × (index_from i cs c.spot ≡ Some k)
indexed i [] c h = absurd h
indexed i (d ∷ cs) c (inl e) =
    let there : same_spot d.spot c.spot ≡ true = ap (λ (x : Cell). same_spot x.spot c.spot) e ∙ same_spot_itself c.spot in
    (i, ap (λ (b : Bool). if b then Some i else index_from (i + 1) cs c.spot) there)
indexed i (d ∷ cs) c (inr h) = decide (same_spot d.spot c.spot) (indexed (i + 1) cs c h)
  where
    decide : (b : Bool) → (k : ℕ) × (index_from (i + 1) cs c.spot ≡ Some k) → (k : ℕ) × ((if b then Some i else index_from (i + 1) cs c.spot) ≡ Some k)
    decide true k = (i, refl)
    decide false k = k

index_from_least : (i : ℕ) (cs : List Cell) (s : Spot) (k : ℕ) → index_from i cs s ≡ Some k → i ≤ k
index_from_least i [] s k h = absurd (let clash : None ≡ Some k = h in cc)
index_from_least i (c ∷ cs) s k h = decide (same_spot c.spot s) h (λ e. index_from_least (i + 1) cs s k e)
  where
    decide : (b : Bool) → (if b then Some i else index_from (i + 1) cs s) ≡ Some k → (index_from (i + 1) cs s ≡ Some k → i + 1 ≤ k) → i ≤ k
    decide true e on = let same : i ≡ k = cc in omega (arith, same)
    decide false e on = let more : i + 1 ≤ k = on e in omega (arith, more)

one_place : (i : ℕ) (cs : List Cell) (s t : Spot) (k : ℕ) → index_from i cs s ≡ Some k → index_from i cs t ≡ Some k → s ≡ t
one_place i [] s t k h j = absurd (let clash : None ≡ Some k = h in cc)
one_place i (c ∷ cs) s t k h j =
    decide (same_spot c.spot s) (same_spot c.spot t) refl refl h j (λ e f. one_place (i + 1) cs s t k e f)
  where
    clash : (u : Spot) → Some i ≡ Some k → index_from (i + 1) cs u ≡ Some k → ⊥
    clash u e f =
        let same : i ≡ k = cc in
        let more : i + 1 ≤ k = index_from_least (i + 1) cs u k f in omega (arith, same, more)

    decide : (b d : Bool) → same_spot c.spot s ≡ b → same_spot c.spot t ≡ d → (if b then Some i else index_from (i + 1) cs s) ≡ Some k →
        (if d then Some i else index_from (i + 1) cs t) ≡ Some k → (index_from (i + 1) cs s ≡ Some k → index_from (i + 1) cs t ≡ Some k → s ≡ t) → s ≡ t
    decide true true p q e f on = sym (same_spot_is c.spot s p) ∙ same_spot_is c.spot t q
    decide true false p q e f on = absurd (clash t e f)
    decide false true p q e f on = absurd (clash s f e)
    decide false false p q e f on = on e f

-- ---- couples

module _ (blocks : List Block) (ss : List Site) where
  coupled_at : (level : ℕ) (o : Option ℕ) → ((k : ℕ) × (o ≡ Some k)) → (q : Couple) × (couple_at level o ≡ Some q)
  coupled_at level o h = (record { level = level; index = h.0 }, ap (couple_at level) h.1)

  pub coupled : (c : Cell) → IsIn (flat_map (cells_at blocks) ss) c → (q : Couple) × (couple_in blocks ss c.block c.spot ≡ Some q)
  coupled c i =
      let all : List Cell = flat_map (cells_at blocks) ss in
      let here : IsIn (cells_of blocks ss c.block) c = in_filter (λ (d : Cell). d.block == c.block) all c (number_told c.block c.block refl) i in
      coupled_at (level_of (block_numbered blocks c.block)) (index_from 2 (layout (cells_of blocks ss c.block)) c.spot)
      (indexed 2 (layout (cells_of blocks ss c.block)) c (laid (cells_of blocks ss c.block) c here))

  index_of : (level : ℕ) (o : Option ℕ) (q : Couple) → couple_at level o ≡ Some q → o ≡ Some q.index
  index_of level None q h = absurd (let clash : None ≡ Some q = h in cc)
  index_of level (Some k) q h = let same : record { level = level; index = k } ≡ q = cc in ap (λ (c : Couple). Some c.index) same

  pub couple_tells : (block : ℕ) (s t : Spot) (q : Couple) → couple_in blocks ss block s ≡ Some q → couple_in blocks ss block t ≡ Some q → s ≡ t
  couple_tells block s t q h k =
      let cs : List Cell = layout (cells_of blocks ss block) in
      let level : ℕ = level_of (block_numbered blocks block) in
      one_place 2 cs s t q.index (index_of level (index_from 2 cs s) q h) (index_of level (index_from 2 cs t) q k)
