-- What holds of an accepted source, whose tree is in order.
use Rattle.std.proofs.Common.{◌≡◌, ℕ, ◌+◌, List, [], ◌∷◌, Some, sym, ap, ◌∙◌, arith, slice_get}
use Rattle.std.specs.List.{AllByRecursion, Contains}
use Rattle.algol_tree.specs.declared.tree.Named.{Named}
use Rattle.algol_tree.specs.Plain as tree
use Rattle.algol_tree.specs.Plain.{PProgram}
use Rattle.algol_tree.specs.Sorts.{Declared}
use Rattle.algol_tree.specs.Blocks.{Block, blocks_of_program, number_at}
use Rattle.algol_tree.specs.Surroundings.{Surroundings}
use Rattle.algol_tree.specs.Sites as site
use Rattle.algol_tree.specs.Sites.{Part, Site}
use Rattle.algol_tree.specs.Scopes.{names_in}
use Rattle.algol_tree.specs.Cells.{Cell, level_at}
use Rattle.algol_tree.specs.Couples.{level_if}
use Rattle.algol_tree.specs.Accepted.{scope_faults, sites_of}
use Rattle.algol_tree.specs.Ascending.{IsInOrder}
use Rattle.algol_tree.specs.First.{Source}
use Rattle.algol_lexer.proofs.LexOrder.{tokens_ascend}
use Rattle.algol_grammar.proofs.InOrder.{in_order}
use Rattle.algol_scope.proofs.Placed as placed
use Rattle.algol_front_laws.specs.Couples.{HasCouple, cells_in_tree}
use Rattle.algol_front_laws.specs.Declarations.{EachHasOne, EachOnce}
use Rattle.algol_front_laws.specs.Uses.{IsLookedUp}
use Rattle.algol_front_laws.proofs.Frames.{IsOutside, each_has_couple}
use Rattle.algol_told.proofs.Lists.{of_contained}
use Rattle.algol_told.proofs.Known.{alike}
use Rattle.algol_front_laws.proofs.Tidy.{Tidy}
use Rattle.algol_front_laws.proofs.Declarations.{each_has_one}
use Rattle.algol_front_laws.proofs.Uses.{each_looked_up}
use Rattle.algol_front_laws.proofs.Ready.{ReadyIn, all_ready, one_there}
use Rattle.algol_told.proofs.Walk.{HoldsAt}

module _ (blocks : List Block) where
  same_depth : (d e : Declared) → placed.IsAt blocks d.block d.depth → placed.IsAt blocks e.block e.depth → d.block ≡ e.block → d.depth ≡ e.depth
  same_depth d e h k same =
      let levels : Some (level_at d.depth) ≡ Some (level_at e.depth) = sym h ∙ ap (λ (n : ℕ). level_if (slice_get blocks n)) same ∙ k in
      let level : level_at d.depth ≡ level_at e.depth = cc in
      omega (arith, level)

  at_each : (ds : List Declared) → placed.AllAt blocks ds → AllByRecursion (λ (d : Declared). placed.IsAt blocks d.block d.depth) ds
  at_each [] h = tt
  at_each (d ∷ ds) h = (h.0, at_each ds h.1)

  each_once : (a : Surroundings) → Tidy a → placed.AllAt blocks a.known → (d other : Declared) → Contains a.known d → Contains a.known other →
      d.block ≡ other.block → d.name ≡ other.name → d.spot ≡ other.spot
  each_once a t h d other c k same named =
      let at : AllByRecursion (λ (x : Declared). placed.IsAt blocks x.block x.depth) a.known = at_each a.known h in
      alike a.known t.tidied d other c k
      (same_depth d other (of_contained (λ (x : Declared). placed.IsAt blocks x.block x.depth) a.known d at c)
      (of_contained (λ (x : Declared). placed.IsAt blocks x.block x.depth) a.known other at k) same) named

  -- ---- a procedure is declared outside its block

  no_deeper : (n depth : ℕ) → level_if (slice_get blocks n) ≡ Some (level_at depth) → level_if (slice_get blocks n) ≡ Some (level_at (depth + 1)) → ⊥
  no_deeper n depth h k =
      let levels : Some (level_at depth) ≡ Some (level_at (depth + 1)) = sym h ∙ k in
      let level : level_at depth ≡ level_at (depth + 1) = cc in
      omega (arith, level)

  outside : (all : List Cell) (p : Part) (a : Surroundings) → placed.Stands blocks a → placed.HasBlock blocks p a → IsOutside blocks all p a
  outside all (site.name n) a s h = tt
  outside all (site.expression e) a s h = tt
  outside all (site.actual e f) a s h = tt
  outside all (site.bound e) a s h = tt
  outside all (site.statement t listed) a s h = tt
  outside all (site.declaration (tree.simple kind ns) later) a s h = tt
  outside all (site.declaration (tree.files ns) later) a s h = tt
  outside all (site.declaration (tree.events ns) later) a s h = tt
  outside all (site.declaration (tree.tasks ns) later) a s h = tt
  outside all (site.declaration (tree.labels ns) later) a s h = tt
  outside all (site.declaration (tree.arrays kind ns pairs) later) a s h = tt
  outside all (site.declaration (tree.forward g) later) a s h = tt
  outside all (site.declaration (tree.procedure g t) later) a s h =
      λ same. no_deeper (number_at blocks g.name.spot) a.depth (ap (λ (n : ℕ). level_if (slice_get blocks n)) (sym same) ∙ s.here) h

  all_outside : (all : List Cell) (xs : List Site) → placed.Each blocks xs → AllByRecursion (λ (x : Site). IsOutside blocks all x.part x.around) xs
  all_outside all [] k = tt
  all_outside all (x ∷ xs) k = (outside all x.part x.around k.0.stands k.0.block, all_outside all xs k.1)

sites_once : (p : PProgram) (xs : List Site) → AllByRecursion (HoldsAt (blocks_of_program p) (ReadyIn p)) xs → placed.Each (blocks_of_program p) xs →
    AllByRecursion (λ (x : Site). EachOnce x.around) xs
sites_once p [] h k = tt
sites_once p (x ∷ xs) h k = (
  λ d other c e same named.
      one_there p x.around h.0.around d other c e (each_once (blocks_of_program p) x.around h.0.around.tidy k.0.stands.known d other c e same named),
  sites_once p xs h.1 k.1,
)

pub source_in_order : (bytes : List ℕ) (tree : PProgram) → Source bytes tree → IsInOrder tree
source_in_order bytes tree s = in_order s.tokens tree (tokens_ascend bytes s.tokens s.lexes) s.reads

pub each_site_once : (p : PProgram) → scope_faults p ≡ [] → IsInOrder p → AllByRecursion (λ (x : Site). EachOnce x.around) (sites_of p)
each_site_once p scoped order = sites_once p (sites_of p) (all_ready p scoped order) (placed.placed p order)

pub none_twice : (bytes : List ℕ) (tree : PProgram) → Source bytes tree → AllByRecursion (λ (x : Site). EachOnce x.around) (sites_of tree)
none_twice bytes tree s = each_site_once tree s.accepted.scoped (source_in_order bytes tree s)

pub names_have_one : (bytes : List ℕ) (tree : PProgram) → Source bytes tree → EachHasOne tree
names_have_one bytes tree s = each_has_one tree s.accepted.scoped (source_in_order bytes tree s)

pub cells_have_one : (bytes : List ℕ) (tree : PProgram) → Source bytes tree → AllByRecursion (HasCouple tree) (cells_in_tree tree)
cells_have_one bytes tree s =
    let order = source_in_order bytes tree s in
    each_has_couple tree order (all_outside (blocks_of_program tree) (cells_in_tree tree) (sites_of tree) (placed.placed tree order))

pub uses_are_looked_up : (bytes : List ℕ) (tree : PProgram) → Source bytes tree →
    AllByRecursion (λ (x : Site). AllByRecursion (λ (n : Named). IsLookedUp tree x.part x.around n) (names_in x.part)) (sites_of tree)
uses_are_looked_up bytes tree s = each_looked_up tree s.accepted.scoped (source_in_order bytes tree s)
