-- The parts of a tree in the order of the text, with the places of their names, and the cells and blocks that stand there.
use Rattle.std.proofs.Common.{◌≡◌, ℕ, Bool, true, false, List, [], ◌∷◌, ◌++◌, map, filter, None}
use Rattle.std.specs.List.{flat_map, AllByRecursion}
use Rattle.algol_tree.specs.declared.token.Spot.{Spot}
use Rattle.algol_tree.specs.declared.tree.Named.{Named}
use Rattle.algol_tree.specs.Ascending.{spots_of_names, spots_of_decls}
use Rattle.algol_tree.specs.Blocks.{Block, number_at, blocks_in_stmts}
use Rattle.algol_tree.specs.Cells as contents
use Rattle.algol_tree.specs.Cells.{Cell, Content, cells_at, holding}
use Rattle.algol_tree.specs.Couples.{Known, known_names, known_at}
use Rattle.algol_tree.specs.Plain as tree
use Rattle.algol_tree.specs.Plain.{PExpr}
use Rattle.algol_tree.specs.Scopes.{used, names_in, uses_at}
use Rattle.algol_tree.specs.Sites as parts
use Rattle.algol_tree.specs.Sites.{Part, Site, here_stmt, sites_in_stmts, sites_in_decls}
use Rattle.algol_tree.specs.Surroundings.{Surroundings}
use Rattle.b67_fitting.specs.Typing.{TypedStmts, TypedDecls}
use Rattle.b67_fitting.proofs.ActualCells.{cells_in_bounds, cells_in_stmts}
use Rattle.b67_fitting.proofs.Among.{Among}
use Rattle.b67_fitting.proofs.Apart.{IsIn, Apart}
use Rattle.b67_fitting.proofs.Frames.{IsOwn, plain, control_cell, named_of, front_cells, decl_cells}
use Rattle.b67_fitting.proofs.Known.{Stands}
use Rattle.b67_fitting.proofs.Started.{HasCallees}

-- all of these are blocks of the program
abbrev pub AllThere : List Block → List Block → Type 0
AllThere blocks bs = (b : Block) → IsIn b bs → IsIn b blocks

-- the names that a part reads or calls, and the name on its left side
abbrev pub reads_in : Part → List Named
reads_in (parts.statement (tree.assign (tree.subscripted n tree.none) e) listed) = []
reads_in p = names_in p

abbrev pub lefts_in : Part → List Named
lefts_in (parts.statement (tree.assign (tree.subscripted n tree.none) e) listed) = n ∷ []
lefts_in _ = []

-- a cell that has its place by itself: that of a parameter, of a variable, of an actual or of an array
abbrev pub has_own_place : Content → Bool
has_own_place contents.parameter = true
has_own_place contents.variable = true
has_own_place contents.actual = true
has_own_place contents.made = true
has_own_place _ = false

-- where such cells stand
abbrev pub own_places : List Cell → List Spot
own_places cs = map (λ (c : Cell). c.spot) (filter (λ (c : Cell). has_own_place c.content) cs)

module _ (blocks : List Block) where
  -- A part whose names are used and known where these names are, and that has no cell and no left side.
  pub record IsFair (x : Site) : Type 0 where
    pub uses : uses_at x ≡ flat_map (used x.around) (names_in x.part)
    pub knows : known_at blocks x ≡ known_names x.around (names_in x.part)
    pub cells : cells_at blocks x ≡ []
    pub reads : reads_in x.part ≡ names_in x.part
    pub lefts : lefts_in x.part ≡ []
    pub in_block : Block
    pub stands : Stands blocks in_block x.around

  -- An actual in the block with this number that has this cell.
  pub record IsGiving (block : ℕ) (x : Site) (c : Cell) : Type 0 where
    pub uses : uses_at x ≡ []
    pub knows : known_at blocks x ≡ []
    pub cells : cells_at blocks x ≡ c ∷ []
    pub owns : c.block ≡ block
    pub content_is : c.content ≡ contents.actual
    pub reads : reads_in x.part ≡ []
    pub lefts : lefts_in x.part ≡ []

  -- A declaration of the block with this number, with the places of its names, and its cells, of which none is another block's.
  pub record IsDeclaring (block : ℕ) (x : Site) (spots : List Spot) (own : List Cell) : Type 0 where
    pub uses : uses_at x ≡ []
    pub knows : Among (map (λ (k : Known). k.spot) (known_at blocks x)) spots
    pub cells : cells_at blocks x ≡ own
    pub owns : AllByRecursion (IsOwn block) own
    pub among : AllByRecursion (λ (c : Cell). IsIn c.spot spots) own
    pub places : Among (own_places own) spots
    pub reads : reads_in x.part ≡ []
    pub lefts : lefts_in x.part ≡ []

  -- The declaration of a procedure in the block with this number: the procedure's block is b.
  pub record IsProcedure (block : ℕ) (x : Site) (b : Block) (more : List Spot) : Type 0 where
    pub uses : uses_at x ≡ []
    pub knows : Among (map (λ (k : Known). k.spot) (known_at blocks x)) (b.spot ∷ more)
    pub cells : cells_at blocks x ≡ (control_cell block b.spot ∷ []) ++ front_cells (number_at blocks b.spot) (named_of blocks b) b
    pub among : AllByRecursion (λ (n : Named). IsIn n.spot more) (named_of blocks b)
    pub given : Among (spots_of_names (named_of blocks b)) more
    pub reads : reads_in x.part ≡ []
    pub lefts : lefts_in x.part ≡ []

  -- A block of the program whose text has these cells. Of its parts the last are those of its declarations and its statements.
  pub record IsBlock (b : Block) (own : List Cell) (xs : List Site) : Type 0 where
    pub there : IsIn b blocks
    pub apart : Apart (b.spot ∷ (spots_of_names (named_of blocks b) ++ spots_of_decls b.decls))
    pub own_is : plain own ≡ decl_cells (number_at blocks b.spot) b.decls
    pub begin : Surroundings
    pub begins : Stands blocks b begin
    pub declares : TypedDecls blocks begin begin.known b.decls
    pub callees : HasCallees blocks b b.decls
    pub around : Surroundings
    pub stands : Stands blocks b around
    pub typed : TypedStmts blocks around b.stmts
    pub inner : AllThere blocks (blocks_in_stmts b.stmts (b.spot ∷ b.outer))
    pub actuals_are : holding contents.actual own ≡ cells_in_bounds blocks begin b.decls ++ cells_in_stmts around b.stmts
    pub front : List Site
    pub listed : Bool
    pub sites_are : xs ≡ front ++ sites_in_decls blocks b.decls begin begin.known ++ sites_in_stmts blocks b.stmts listed around

  -- Parts in the block with this number. The places of their names and of the blocks in them are among these, in this order, but that the task
  -- of a process, whose name is used with the procedure's, stands after the actuals. These are the cells of the block that they have, and the
  -- blocks in them.
  pub data Listed : ℕ → List Spot → List Cell → List Block → List Site → Type 0 where
    over : (k : ℕ) → Listed k [] [] [] []
    passed : (k : ℕ) (spot : Spot) {spots : List Spot} {own : List Cell} {bs : List Block} {xs : List Site} → Listed k spots own bs xs → Listed k (spot ∷ spots) own bs xs
    turned : (k : ℕ) (spot : Spot) (p q : List Spot) {own : List Cell} {bs : List Block} {xs : List Site} → Listed k (spot ∷ (p ++ q)) own bs xs → Listed k (spot ∷ (q ++ p)) own bs xs
    site : (k : ℕ) (x : Site) {spots : List Spot} {own : List Cell} {bs : List Block} {xs : List Site} → IsFair x → Listed k spots own bs xs →
        Listed k (spots_of_names (names_in x.part) ++ spots) own bs (x ∷ xs)
    given : (k : ℕ) (x : Site) (c : Cell) {spots : List Spot} {own : List Cell} {xs : List Site} → IsGiving k x c → Among (own_places (flat_map (cells_at blocks) xs)) spots →
        Listed k (c.spot ∷ spots) own [] xs → Listed k (c.spot ∷ spots) (c ∷ own) [] (x ∷ xs)
    left : (k : ℕ) (a : Surroundings) (n : Named) (e : PExpr) (listed : Bool) (b : Block) {spots : List Spot} {own : List Cell} {bs : List Block} {xs : List Site} → Stands blocks b a →
        Listed k spots own bs xs → Listed k (n.spot ∷ spots) own bs (here_stmt (tree.assign (tree.subscripted n tree.none) e) listed a ∷ xs)
    declared : (k : ℕ) (x : Site) (names : List Spot) (new : List Cell) {spots : List Spot} {own : List Cell} {bs : List Block} {xs : List Site} → IsDeclaring k x names new →
        Listed k spots own bs xs → Listed k (names ++ spots) (new ++ own) bs (x ∷ xs)
    both : (k : ℕ) {p q : List Spot} {os ns : List Cell} {bs cs : List Block} {xs ys : List Site} → Listed k p os bs xs → Listed k q ns cs ys →
        Listed k (p ++ q) (os ++ ns) (bs ++ cs) (xs ++ ys)
    block : (k : ℕ) (b : Block) {spots : List Spot} {own : List Cell} {bs : List Block} {xs : List Site} → (b.result ≡ None) × (named_of blocks b ≡ []) → IsBlock b own xs →
        Listed (number_at blocks b.spot) spots own bs xs → Listed k (b.spot ∷ spots) [] (b ∷ bs) xs
    procedure : (k : ℕ) (x : Site) (b : Block) (more : List Spot) {spots : List Spot} {own : List Cell} {bs : List Block} {xs : List Site} → IsProcedure k x b more → IsBlock b own xs →
        Listed (number_at blocks b.spot) spots own bs xs → Listed k ((b.spot ∷ more) ++ spots) (control_cell k b.spot ∷ []) (b ∷ bs) (x ∷ xs)
