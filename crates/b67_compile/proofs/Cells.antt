-- Each cell of a program is of one of its blocks: the place of its declaration stands in one, and each procedure has one. So it is of a
-- block with few, if each block has few.
use Rattle.std.proofs.Common.{ℕ, ◌<◌, ◌≤◌, Bool, true, false, List, [], ◌∷◌, ◌++◌, length, sym, subst, if◌then◌else◌, is_some}
use Rattle.std.specs.List.{flat_map, AllByRecursion}
use Rattle.algol_tree.specs.declared.TheConstants.{MOST_BLOCK_CELLS}
use Rattle.algol_tree.specs.declared.token.Spot.{Spot}
use Rattle.algol_tree.specs.declared.tree.Named.{Named}
use Rattle.algol_tree.specs.Blocks.{Block, number_at}
use Rattle.algol_tree.specs.Cells as cells
use Rattle.algol_tree.specs.Cells.{Cell, Content, cells_at, cells_for, cells_of, cells_of_decl, cells_of_part, first_spot, has_cell, result_cells}
use Rattle.algol_tree.specs.Names.{Segment, segments_of_part}
use Rattle.algol_tree.specs.Plain as tree
use Rattle.algol_tree.specs.Plain.{PDecl, PDecls}
use Rattle.algol_tree.specs.Sites as site
use Rattle.algol_tree.specs.Sites.{Part, Site}
use Rattle.algol_tree.specs.Surroundings.{Surroundings}
use Rattle.b67_emit_text.specs.Texts.{Text}
use Rattle.b67_list.proofs.Lists.{each_back, each_both, each_front}
use Rattle.b67_compile.proofs.Matching.{Triples, segs}

module _ (blocks : List Block) (all : List Site) where
  abbrev pub HasFew : ℕ → Type 0
  HasFew block = length (cells_of blocks all block) ≤ MOST_BLOCK_CELLS

  abbrev pub HaveFew : List Block → Type 0
  HaveFew bs = AllByRecursion (λ (b : Block). HasFew (number_at blocks b.spot)) bs

  abbrev pub AreOfFew : List Site → Type 0
  AreOfFew xs = AllByRecursion (λ (c : Cell). HasFew c.block) (flat_map (cells_at blocks) xs)

module _ (blocks : List Block) where
  abbrev pub IsOfOne : Cell → Type 0
  IsOfOne c = c.block < length blocks

  -- the segment's procedure has a block
  abbrev pub HasBlock : Segment → Type 0
  HasBlock s = number_at blocks s.spot < length blocks

  segments_have : (bs : List Block) (ss : List Segment) (ts : List Text) → Triples bs ss ts → AllByRecursion (λ (b : Block). number_at blocks b.spot < length blocks) bs → AllByRecursion HasBlock ss
  segments_have [] [] [] h f = tt
  segments_have [] [] (t ∷ ts) h f = absurd h
  segments_have [] (s ∷ ss) [] h f = absurd h
  segments_have [] (s ∷ ss) (t ∷ ts) h f = absurd h
  segments_have (b ∷ bs) [] [] h f = absurd h
  segments_have (b ∷ bs) [] (t ∷ ts) h f = absurd h
  segments_have (b ∷ bs) (s ∷ ss) [] h f = absurd h
  segments_have (b ∷ bs) (s ∷ ss) (t ∷ ts) h f =
      (subst (λ (z : Spot). number_at blocks z < length blocks) (sym h.0.place) f.0, segments_have bs ss ts h.1 f.1)

  for_names : (block : ℕ) (content : Content) (ns : List Named) → block < length blocks → AllByRecursion IsOfOne (cells_for block content ns)
  for_names block content [] h = tt
  for_names block content (n ∷ ns) h = (h, for_names block content ns h)

  for_result : (b : Bool) (block : ℕ) (n : Named) → block < length blocks → AllByRecursion IsOfOne (if b then cells_for block cells.result (n ∷ []) else [])
  for_result true block n h = (h, tt)
  for_result false block n h = tt

  for_actual : (b : Bool) (c : Cell) → IsOfOne c → AllByRecursion IsOfOne (if b then c ∷ [] else [])
  for_actual true c h = (h, tt)
  for_actual false c h = tt

  decl_of_one : (d : PDecl) (later : PDecls) (block : ℕ) → block < length blocks → AllByRecursion HasBlock (segments_of_part (site.declaration d later)) →
      AllByRecursion IsOfOne (cells_of_decl blocks d block)
  decl_of_one (tree.simple kind ns) later block h k = for_names block cells.variable ns h
  decl_of_one (tree.files ns) later block h k = tt
  decl_of_one (tree.events ns) later block h k = for_names block cells.made ns h
  decl_of_one (tree.tasks ns) later block h k = for_names block cells.made ns h
  decl_of_one (tree.labels ns) later block h k = tt
  decl_of_one (tree.arrays kind ns pairs) later block h k = for_names block cells.made ns h
  decl_of_one (tree.forward g) later block h k = tt
  decl_of_one (tree.procedure g s) later block h k =
      let own = number_at blocks g.name.spot in
      let its = result_cells blocks g in
      let ps = cells_for own cells.parameter g.params in
      each_both IsOfOne (cells_for block cells.procedure (g.name ∷ [])) (its ++ ps) (h, tt)
      (each_both IsOfOne its ps (for_result (is_some g.kind) own g.name k.0) (for_names own cells.parameter g.params k.0))

  part_of_one : (part : Part) (a : Surroundings) → a.block < length blocks → AllByRecursion HasBlock (segments_of_part part) → AllByRecursion IsOfOne (cells_of_part blocks part a)
  part_of_one (site.name n) a h k = tt
  part_of_one (site.expression e) a h k = tt
  part_of_one (site.actual e f) a h k = for_actual (has_cell e f a) (record { block = a.block; spot = first_spot e; content = cells.actual }) h
  part_of_one (site.bound e) a h k = tt
  part_of_one (site.statement s listed) a h k = tt
  part_of_one (site.declaration d later) a h k = decl_of_one d later a.block h k

  each_of_one : (xs : List Site) → AllByRecursion (λ (x : Site). x.around.block < length blocks) xs → AllByRecursion HasBlock (segs xs) → AllByRecursion IsOfOne (flat_map (cells_at blocks) xs)
  each_of_one [] h k = tt
  each_of_one (x ∷ xs) h k =
      let its = segments_of_part x.part in
      each_both IsOfOne (cells_at blocks x) (flat_map (cells_at blocks) xs) (part_of_one x.part x.around h.0 (each_front HasBlock its (segs xs) k))
      (each_of_one xs h.1 (each_back HasBlock its (segs xs) k))

  -- where the blocks of the segments are known
  pub all_of_one : (bs : List Block) (xs : List Site) (ts : List Text) → Triples bs (segs xs) ts → AllByRecursion (λ (b : Block). number_at blocks b.spot < length blocks) bs →
      AllByRecursion (λ (x : Site). x.around.block < length blocks) xs → AllByRecursion IsOfOne (flat_map (cells_at blocks) xs)
  all_of_one bs xs ts h f s = each_of_one xs s (segments_have bs (segs xs) ts h f)
