-- The blocks of an accepted program keep to the limits of levels and of cells.
use Rattle.std.proofs.Common.{arith, ◌≡◌, ℕ, ◌+◌, ◌≤◌, List, [], ◌∷◌, map, length, slice_get, refl, ap}
use Rattle.std.proofs.lemmas.Bool.{ltb-false}
use Rattle.std.proofs.lemmas.List.{length-append, length-map}
use Rattle.algol_tree.specs.declared.TheConstants.{MOST_BLOCK_CELLS, MOST_LEVEL}
use Rattle.algol_tree.specs.declared.token.Spot.{Spot}
use Rattle.algol_tree.specs.declared.tree.Named.{Named}
use Rattle.algol_tree.specs.Accepted.{scope_faults_in}
use Rattle.algol_tree.specs.Blocks.{Block, number_at}
use Rattle.algol_tree.specs.Cells.{Cell, actual, holding, cells_of, level_of}
use Rattle.algol_tree.specs.Names.{if_so, is_too_deep, place_beyond, deep_blocks, cells_beyond}
use Rattle.algol_tree.specs.Plain as tree
use Rattle.algol_tree.specs.Plain.{PDecls, PProgram}
use Rattle.algol_tree.specs.Sites.{Site}
use Rattle.algol_tree.proofs.Spots.{not_found, not_so}
use Rattle.b67_templates.specs.Cells.{variables, procedures, made_of}
use Rattle.b67_list.proofs.Lists.{append_none_left, append_none_right, no_longer, none_mapped}
use Rattle.b67_fitting.proofs.Frames.{plain, named_of, front_cells, decl_cells, cells_of_block, as_many as all_many}
use Rattle.b67_fitting.proofs.Apart.{IsIn, each_in}
use Rattle.b67_fitting.proofs.Lists.{nil_each}

pub none_beyond : (most : ℕ) (spots : List Spot) → place_beyond most spots ≡ [] → length spots ≤ most
none_beyond most spots h = no_longer spots most (not_found (slice_get spots most) h)

-- declarations have as many cells as simple variables, procedures, arrays, events and tasks
as_many : (block : ℕ) (ds : PDecls) → length (decl_cells block ds) ≡ length (variables ds) + length (procedures ds) + length (made_of ds)
as_many block tree.no_decls = refl
as_many block (tree.decls (tree.simple kind ns) ds) = more ns (as_many block ds)
  where
    more : (ms : List Named) → length (decl_cells block ds) ≡ length (variables ds) + length (procedures ds) + length (made_of ds) →
        length (decl_cells block (tree.decls (tree.simple kind ms) ds)) ≡ length (variables (tree.decls (tree.simple kind ms) ds)) + length (procedures ds) + length (made_of ds)
    more [] h = h
    more (m ∷ ms) h = omega (arith, more ms h)
as_many block (tree.decls (tree.arrays kind ns pairs) ds) = more ns (as_many block ds)
  where
    more : (ms : List Named) → length (decl_cells block ds) ≡ length (variables ds) + length (procedures ds) + length (made_of ds) →
        length (decl_cells block (tree.decls (tree.arrays kind ms pairs) ds)) ≡ length (variables ds) + length (procedures ds) + length (made_of (tree.decls (tree.arrays kind ms pairs) ds))
    more [] h = h
    more (m ∷ ms) h = omega (arith, more ms h)
as_many block (tree.decls (tree.events ns) ds) = more ns (as_many block ds)
  where
    more : (ms : List Named) → length (decl_cells block ds) ≡ length (variables ds) + length (procedures ds) + length (made_of ds) →
        length (decl_cells block (tree.decls (tree.events ms) ds)) ≡ length (variables ds) + length (procedures ds) + length (made_of (tree.decls (tree.events ms) ds))
    more [] h = h
    more (m ∷ ms) h = omega (arith, more ms h)
as_many block (tree.decls (tree.tasks ns) ds) = more ns (as_many block ds)
  where
    more : (ms : List Named) → length (decl_cells block ds) ≡ length (variables ds) + length (procedures ds) + length (made_of ds) →
        length (decl_cells block (tree.decls (tree.tasks ms) ds)) ≡ length (variables ds) + length (procedures ds) + length (made_of (tree.decls (tree.tasks ms) ds))
    more [] h = h
    more (m ∷ ms) h = omega (arith, more ms h)
as_many block (tree.decls (tree.procedure h s) ds) = omega (arith, as_many block ds)
as_many block (tree.decls d ds) = as_many block ds

module _ (p : PProgram) (blocks : List Block) (sites : List Site) (accepted : scope_faults_in p blocks sites ≡ []) where
  few_places : (b : Block) → IsIn b blocks → length (map (λ (c : Cell). c.spot) (cells_of blocks sites (number_at blocks b.spot))) ≤ MOST_BLOCK_CELLS
  few_places b i =
      let beyond : cells_beyond blocks sites ≡ [] = none_mapped _ _ (append_none_right _ _ (append_none_left _ _ (append_none_left _ _ accepted))) in
      none_beyond MOST_BLOCK_CELLS (map (λ (c : Cell). c.spot) (cells_of blocks sites (number_at blocks b.spot)))
      (each_in (λ (c : Block). place_beyond MOST_BLOCK_CELLS (map (λ (c : Cell). c.spot) (cells_of blocks sites (number_at blocks c.spot))) ≡ []) b blocks (nil_each _ blocks beyond) i)

  pub few_cells : (b : Block) → IsIn b blocks → plain (cells_of blocks sites (number_at blocks b.spot)) ≡ cells_of_block (number_at blocks b.spot) (named_of blocks b) b →
      length (variables b.decls) + length (procedures b.decls) + length (holding actual (cells_of blocks sites (number_at blocks b.spot))) + length (made_of b.decls) ≤ MOST_BLOCK_CELLS
  few_cells b i own =
      omega (
        arith,
        few_places b i,
        length-map (cells_of blocks sites (number_at blocks b.spot)) (λ (c : Cell). c.spot),
        all_many (cells_of blocks sites (number_at blocks b.spot)),
        ap length own,
        as_many (number_at blocks b.spot) b.decls,
        length-append (front_cells (number_at blocks b.spot) (named_of blocks b) b) (decl_cells (number_at blocks b.spot) b.decls),
      )

  pub not_deep : (b : Block) → IsIn b blocks → level_of b ≤ MOST_LEVEL
  not_deep b i =
      let deep : deep_blocks blocks ≡ [] = append_none_left _ _ (none_mapped _ _ (append_none_right _ _ (append_none_left _ _ (append_none_left _ _ (append_none_left _ _ accepted))))) in
      ltb-false MOST_LEVEL (level_of b)
      (not_so (is_too_deep (level_of b)) b.spot (each_in (λ (c : Block). if_so (is_too_deep (level_of c)) c.spot ≡ []) b blocks (nil_each _ blocks deep) i))
