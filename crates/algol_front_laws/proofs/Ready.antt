-- The surroundings of each part of an accepted tree: which rules of names hold there, and what follows from part to part.
use Rattle.std.proofs.Common.{◌≡◌, ◌+◌, List, [], Some, sym, ap, ◌∙◌}
use Rattle.std.specs.List.{AllByRecursion, Contains}
use Rattle.algol_tree.specs.declared.token.Spot.{Spot}
use Rattle.algol_tree.specs.declared.tree.Heading.{Heading}
use Rattle.algol_tree.specs.Plain as tree
use Rattle.algol_tree.specs.Plain.{PDecl, PDecls, PProgram, PStmt}
use Rattle.algol_tree.specs.Sorts.{Declared}
use Rattle.algol_tree.specs.Blocks.{Block, blocks_of_program, number_at}
use Rattle.algol_tree.specs.Surroundings.{Surroundings, inside_procedure, knowing}
use Rattle.algol_tree.specs.Sites as site
use Rattle.algol_tree.specs.Sites.{Site, sites_in_decls}
use Rattle.algol_tree.specs.Cells.{Cell, cells_at}
use Rattle.algol_tree.specs.Couples.{Known, known_at, known_there}
use Rattle.algol_tree.specs.Names.{declared_twice, unknown_names}
use Rattle.algol_tree.specs.Accepted.{scope_faults, sites_of}
use Rattle.algol_tree.specs.Ascending.{IsInOrder}
use Rattle.algol_front_laws.specs.Couples.{cells_in_tree}
use Rattle.algol_told.proofs.Lists.{IsIn, all_both, all_in, all_weaker, each_of, none_of, of_contained}
use Rattle.algol_told.proofs.Walk.{HoldsAt, all_hold}
use Rattle.algol_front_laws.proofs.Tidy as tidies
use Rattle.algol_front_laws.proofs.Tidy.{Tidy}
use Rattle.algol_front_laws.proofs.Cells as has
use Rattle.algol_told.proofs.Held as held
use Rattle.algol_told.proofs.Places.{IsThere, each_there, names_known}
use Rattle.algol_told.proofs.Unbroken.{named}

-- ---- what holds of the surroundings

-- `all`: the cells of the tree, and `stand`: the names that stand in it
module _ (blocks : List Block) (all : List Cell) (stand : List Known) where
  pub record IsReady (a : Surroundings) : Type 0 where
    pub tidy : Tidy a
    pub cells : has.AllHave blocks all a
    pub held : held.AllHeld blocks stand a

  -- the rules that a site keeps, with its cells and its names
  pub record Passes (x : Site) : Type 0 where
    pub once : declared_twice blocks x ≡ []
    pub known : unknown_names x ≡ []
    pub its_cells : AllByRecursion (IsIn all) (cells_at blocks x)
    pub its_names : AllByRecursion (IsThere stand) (known_at blocks x)

  as_once : (xs : List Site) → AllByRecursion Passes xs → AllByRecursion (tidies.IsOnce blocks) xs
  as_once xs o = all_weaker Passes (tidies.IsOnce blocks) (λ x p. p.once) xs o

  as_celled : (xs : List Site) → AllByRecursion Passes xs → AllByRecursion (has.Passes blocks all) xs
  as_celled xs o = all_weaker Passes (has.Passes blocks all) (λ x p. record { its_cells = p.its_cells; known = p.known }) xs o

  as_named : (xs : List Site) → AllByRecursion Passes xs → AllByRecursion (held.Passes blocks stand) xs
  as_named xs o = all_weaker Passes (held.Passes blocks stand) (λ x p. record { its_names = p.its_names; once = p.once; known = p.known }) xs o

  begins : (spot : Spot) (a : Surroundings) → IsReady a → IsReady (record { block = number_at blocks spot; depth = a.depth + 1; known = a.known })
  begins spot a r =
      record { tidy = tidies.begins_at blocks spot a r.tidy; cells = has.begins blocks all spot a r.cells; held = held.begins blocks stand spot a r.held }

  knows : (d : PDecl) (ds : PDecls) (a : Surroundings) (begun : List Declared) → IsReady a → AllByRecursion Passes (sites_in_decls blocks (tree.decls d ds) a begun) →
      IsReady (knowing blocks d ds a)
  knows d ds a begun r o =
      let xs : List Site = sites_in_decls blocks (tree.decls d ds) a begun in
      record {
        tidy = tidies.knows_at blocks d ds a begun r.tidy (as_once xs o);
        cells = has.knows blocks all d ds a begun r.cells (as_celled xs o);
        held = held.knows blocks stand d ds a begun r.held (as_named xs o);
      }

  enters : (h : Heading) (s : PStmt) (ds : PDecls) (a : Surroundings) → IsReady (knowing blocks (tree.procedure h s) ds a) →
      Passes (record { part = site.declaration (tree.procedure h s) ds; around = a }) → IsReady (inside_procedure blocks h (knowing blocks (tree.procedure h s) ds a))
  enters h s ds a r p =
      record {
        tidy = tidies.enters_at blocks h s ds a r.tidy p.once;
        cells = has.enters blocks all h s ds a r.cells (record { its_cells = p.its_cells; known = p.known });
        held = held.enters blocks stand h s ds a r.held (record { its_names = p.its_names; once = p.once; known = p.known });
      }

-- ---- the whole tree

abbrev pub ReadyIn : PProgram → Surroundings → Type 0
ReadyIn p a = IsReady (blocks_of_program p) (cells_in_tree p) (names_known p) a

abbrev pub PassesIn : PProgram → Site → Type 0
PassesIn p x = Passes (blocks_of_program p) (cells_in_tree p) (names_known p) x

pub all_pass : (p : PProgram) → scope_faults p ≡ [] → IsInOrder p → AllByRecursion (PassesIn p) (sites_of p)
all_pass p h o =
    let blocks = blocks_of_program p in
    let n = named p h in
    all_both (λ (x : Site). (declared_twice blocks x ≡ []) × (unknown_names x ≡ []))
    (λ (x : Site). AllByRecursion (IsIn (cells_in_tree p)) (cells_at blocks x) × AllByRecursion (IsThere (names_known p)) (known_at blocks x)) (PassesIn p)
    (λ x r i. record { once = r.0; known = r.1; its_cells = i.0; its_names = i.1 }) (sites_of p)
    (all_both (λ (x : Site). declared_twice blocks x ≡ []) (λ (x : Site). unknown_names x ≡ []) (λ (x : Site). (declared_twice blocks x ≡ []) × (unknown_names x ≡ []))
    (λ x d u. (d, u)) (sites_of p) (none_of (declared_twice blocks) (sites_of p) n.once) (none_of unknown_names (sites_of p) n.known))
    (all_both (λ (x : Site). AllByRecursion (IsIn (cells_in_tree p)) (cells_at blocks x)) (λ (x : Site). AllByRecursion (IsThere (names_known p)) (known_at blocks x))
    (λ (x : Site). AllByRecursion (IsIn (cells_in_tree p)) (cells_at blocks x) × AllByRecursion (IsThere (names_known p)) (known_at blocks x)) (λ x c k. (c, k))
    (sites_of p) (each_of (IsIn (cells_in_tree p)) (cells_at blocks) (sites_of p) (all_in (cells_in_tree p)))
    (each_of (IsThere (names_known p)) (known_at blocks) (sites_of p) (each_there p o)))

pub all_ready : (p : PProgram) → scope_faults p ≡ [] → IsInOrder p → AllByRecursion (HoldsAt (blocks_of_program p) (ReadyIn p)) (sites_of p)
all_ready p h o =
    let blocks = blocks_of_program p in
    all_hold blocks (ReadyIn p) (PassesIn p) (begins blocks (cells_in_tree p) (names_known p)) (knows blocks (cells_in_tree p) (names_known p))
    (enters blocks (cells_in_tree p) (names_known p)) p (record { tidy = record { within = tt; tidied = tt }; cells = tt; held = tt }) (all_pass p h o)

-- two that are known at a place, and stand at one, are one
pub one_there : (p : PProgram) (a : Surroundings) → ReadyIn p a → (d e : Declared) → Contains a.known d → Contains a.known e → d.spot ≡ e.spot → d ≡ e
one_there p a r d e c k same =
    let first : known_there (names_known p) d.spot ≡ Some d = of_contained (held.IsHeld (blocks_of_program p) (names_known p)) a.known d r.held c in
    let second : known_there (names_known p) e.spot ≡ Some e = of_contained (held.IsHeld (blocks_of_program p) (names_known p)) a.known e r.held k in
    let both : Some d ≡ Some e = sym first ∙ ap (known_there (names_known p)) same ∙ second in
    cc
