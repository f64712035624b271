-- The code of each actual of an accepted program that has a cell runs at a level that the machine has (rule TooManyLevels).
use Rattle.std.proofs.Common.{arith, ◌≡◌, ℕ, ◌+◌, ◌≤◌, ◌==◌, ◌&&◌, Bool, true, false, List, [], ◌∷◌, ◌++◌, filter, length, Option, Some, None, refl, sym, ap, ◌∙◌, if◌then◌else◌, is_some}
use Rattle.std.specs.List.{flat_map, AllByRecursion}
use Rattle.std.proofs.lemmas.Bool.Decides.{nat_tests}
use Rattle.std.proofs.lemmas.List.{length-map}
use Rattle.algol_tree.specs.declared.TheConstants.{MOST_LEVEL}
use Rattle.algol_tree.specs.declared.token.Spot.{Spot}
use Rattle.algol_tree.specs.declared.tree.Named.{Named}
use Rattle.algol_tree.specs.Accepted.{Accepted, scope_faults, sites_of}
use Rattle.algol_tree.specs.Blocks.{Block, around, block_numbered, number_at, same_spot}
use Rattle.algol_tree.specs.Cells as cells
use Rattle.algol_tree.specs.Cells.{Cell, Content, Couple, cells_at, cells_for, cells_of, cells_of_decl, cells_of_part, content_number, couple_at, couple_in, first_spot, has_cell, index_from, layout, level_at, level_of, result_cells}
use Rattle.algol_tree.specs.Couples.{actual_cells, couple_of_cells}
use Rattle.algol_tree.specs.Names.{deep_actuals, deep_part, if_so, is_too_deep}
use Rattle.algol_tree.specs.Plain as tree
use Rattle.algol_tree.specs.Plain.{PDecl, PProgram}
use Rattle.algol_tree.specs.Sites as site
use Rattle.algol_tree.specs.Sites.{Part, Site}
use Rattle.algol_tree.specs.Surroundings.{Surroundings}
use Rattle.algol_tree.proofs.Spots.{not_so}
use Rattle.b67_fitting.proofs.Lists.{nil_each}
use Rattle.b67_fitting.proofs.SurroundedSites.{IsSurrounded}
use Rattle.b67_list.proofs.Lists.{append_none_left, append_none_right, each_both, none_mapped}

-- ---- where an actual with a cell stands

low : (level : ℕ) → is_too_deep level ≡ false → level ≤ MOST_LEVEL
low level h = grind (arith, nat_tests)

module _ (blocks : List Block) where
  -- the block of the cell has a level below the last one
  abbrev pub IsLow : Cell → Type 0
  IsLow c = level_of (block_numbered blocks c.block) + 1 ≤ MOST_LEVEL

  -- .. if it is that of an actual
  abbrev IsLowActual : Cell → Type 0
  IsLowActual c = (content_number c.content == content_number cells.actual) ≡ true → IsLow c

  for_names : (block : ℕ) (content : Content) (ns : List Named) → (content_number content == content_number cells.actual) ≡ false →
      AllByRecursion IsLowActual (cells_for block content ns)
  for_names block content [] none = tt
  for_names block content (n ∷ ns) none = (λ h. absurd (let clash : true ≡ false = sym h ∙ none in cc), for_names block content ns none)

  for_result : (b : Bool) (block : ℕ) (n : Named) → AllByRecursion IsLowActual (if b then cells_for block cells.result (n ∷ []) else [])
  for_result true block n = for_names block cells.result (n ∷ []) refl
  for_result false block n = tt

  for_decl : (d : PDecl) (block : ℕ) → AllByRecursion IsLowActual (cells_of_decl blocks d block)
  for_decl (tree.simple kind ns) block = for_names block cells.variable ns refl
  for_decl (tree.files ns) block = tt
  for_decl (tree.events ns) block = for_names block cells.made ns refl
  for_decl (tree.tasks ns) block = for_names block cells.made ns refl
  for_decl (tree.labels ns) block = tt
  for_decl (tree.arrays kind ns pairs) block = for_names block cells.made ns refl
  for_decl (tree.forward g) block = tt
  for_decl (tree.procedure g s) block =
      let own = number_at blocks g.name.spot in
      let its = result_cells blocks g in
      let ps = cells_for own cells.parameter g.params in
      each_both IsLowActual (cells_for block cells.procedure (g.name ∷ []) ++ its) ps
      (each_both IsLowActual (cells_for block cells.procedure (g.name ∷ [])) its (for_names block cells.procedure (g.name ∷ []) refl) (for_result (is_some g.kind) own g.name))
      (for_names own cells.parameter g.params refl)

  level_is : (a : Surroundings) → IsSurrounded blocks a → level_of (block_numbered blocks a.block) ≡ level_at a.depth
  level_is a s =
      let many : length (around blocks a.block) ≡ length ((block_numbered blocks a.block).outer) = length-map ((block_numbered blocks a.block).outer) (number_at blocks) in
      omega (arith, many, s.deep)

  for_actual : (b deep : Bool) (a : Surroundings) (spot : Spot) → IsSurrounded blocks a → is_too_deep (level_at (a.depth + 1)) ≡ deep → if_so (b && deep) spot ≡ [] →
      AllByRecursion IsLowActual (if b then record { block = a.block; spot = spot; content = cells.actual } ∷ [] else [])
  for_actual false deep a spot s e h = tt
  for_actual true deep a spot s e h = (λ k. omega (arith, level_is a s, low (level_at (a.depth + 1)) (e ∙ not_so deep spot h)), tt)

  for_part : (x : Part) (a : Surroundings) → IsSurrounded blocks a → deep_part x a ≡ [] → AllByRecursion IsLowActual (cells_of_part blocks x a)
  for_part (site.name n) a s h = tt
  for_part (site.expression e) a s h = tt
  for_part (site.actual e f) a s h = for_actual (has_cell e f a) (is_too_deep (level_at (a.depth + 1))) a (first_spot e) s refl h
  for_part (site.bound e) a s h = tt
  for_part (site.statement q listed) a s h = tt
  for_part (site.declaration d later) a s h = for_decl d a.block

  for_sites : (xs : List Site) → AllByRecursion (λ (x : Site). IsSurrounded blocks x.around) xs → AllByRecursion (λ (x : Site). deep_actuals x ≡ []) xs →
      AllByRecursion IsLowActual (flat_map (cells_at blocks) xs)
  for_sites [] s h = tt
  for_sites (x ∷ xs) s h = each_both IsLowActual (cells_at blocks x) (flat_map (cells_at blocks) xs) (for_part x.part x.around s.0 h.0) (for_sites xs s.1 h.1)

  kept : (cs : List Cell) → AllByRecursion IsLowActual cs → AllByRecursion IsLow (filter (λ (c : Cell). content_number c.content == content_number cells.actual) cs)
  kept [] h = tt
  kept (c ∷ cs) h = by (content_number c.content == content_number cells.actual) h.0 (kept cs h.1)
    where
      rest : List Cell
      rest = filter (λ (z : Cell). content_number z.content == content_number cells.actual) cs

      by : (b : Bool) → (b ≡ true → IsLow c) → AllByRecursion IsLow rest → AllByRecursion IsLow (if b then c ∷ rest else rest)
      by true own later = (own refl, later)
      by false own later = later

-- ---- its couple

module _ (blocks : List Block) (all : List Site) where
  at_level : (level : ℕ) (o : Option ℕ) (c : Couple) → couple_at level o ≡ Some c → level ≡ c.level
  at_level level None c h = absurd (let clash : None ≡ Some c = h in cc)
  at_level level (Some i) c h =
      let same : record { level = level; index = i } ≡ c = cc in
      ap (λ (z : Couple). z.level) same

  couple_low : (cs : List Cell) (spot : Spot) (c : Couple) → AllByRecursion (IsLow blocks) cs → couple_of_cells blocks all cs spot ≡ Some c → c.level + 1 ≤ MOST_LEVEL
  couple_low [] spot c h e = absurd (let clash : None ≡ Some c = e in cc)
  couple_low (x ∷ xs) spot c h e = by (same_spot x.spot spot) e (λ q. couple_low xs spot c h.1 q)
    where
      by : (b : Bool) → (if b then couple_in blocks all x.block spot else couple_of_cells blocks all xs spot) ≡ Some c →
          (couple_of_cells blocks all xs spot ≡ Some c → c.level + 1 ≤ MOST_LEVEL) → c.level + 1 ≤ MOST_LEVEL
      by true q later =
          let own = h.0 in
          omega (arith, own, at_level (level_of (block_numbered blocks x.block)) (index_from 2 (layout (cells_of blocks all x.block)) spot) c q)
      by false q later = later q

  pub actuals_low : AllByRecursion (λ (x : Site). IsSurrounded blocks x.around) all → flat_map deep_actuals all ≡ [] → (spot : Spot) (c : Couple) →
      couple_of_cells blocks all (actual_cells blocks all) spot ≡ Some c → c.level + 1 ≤ MOST_LEVEL
  actuals_low around none spot c h =
      couple_low (actual_cells blocks all) spot c (kept blocks (flat_map (cells_at blocks) all) (for_sites blocks all around (nil_each deep_actuals all none))) h

-- no actual is too deep
pub none_deep : (p : PProgram) → Accepted p → flat_map deep_actuals (sites_of p) ≡ []
unfolding scope_faults
none_deep p accepted = append_none_right _ _ (none_mapped _ _ (append_none_right _ _ (append_none_left _ _ (append_none_left _ _ (append_none_left _ _ accepted.scoped)))))
