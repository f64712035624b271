-- The items of a block keep to its text and their calls fit, where it is so with its bounds and its statements. What is made by actions
-- comes first.
use Rattle.std.proofs.Common.{◌++◌, ℕ, List, [], ◌∷◌, Option, Some, None, sym, subst, append_assoc}
use Rattle.algol_tree.specs.declared.tree.Kind.{Kind}
use Rattle.algol_tree.specs.declared.tree.Named.{Named}
use Rattle.algol_tree.specs.Blocks.{Block, block_numbered, number_at}
use Rattle.algol_tree.specs.Plain as tree
use Rattle.algol_tree.specs.Plain.{PStmt, PStmts, PDecl, PDecls}
use Rattle.algol_tree.specs.Scopes.{Scopes}
use Rattle.algol_meaning.specs.Rest.{Item}
use Rattle.algol_meaning.specs.Statements.{items, event_items, decl_items, decls_items, ending, items_of}
use Rattle.algol_paths.specs.Blocks.{BlockIsSeen, IsSeenAround, IsInner}
use Rattle.algol_paths.specs.Texts.{InPairs, InStmt, InStmts, InItems, InDeclared}
use Rattle.algol_calls.specs.Fits.{PairsFit, CalledStmtFits, CalledStmtsFit, ItemsFit}
use Rattle.algol_texts.proofs.Callees.{IsFine}

module _ (sc : Scopes) (j : ℕ) where
  -- in the text of the block j
  abbrev pub InText : PStmt → Type 0
  InText t = InStmt (BlockIsSeen sc j) (IsInner sc j) t × CalledStmtFits sc t

  abbrev pub AllInText : PStmts → Type 0
  AllInText ss = InStmts (BlockIsSeen sc j) (IsInner sc j) ss × CalledStmtsFit sc ss

  -- the bounds of a declaration of its own
  abbrev pub HasBounds : PDecl → Type 0
  HasBounds (tree.arrays kind ns pairs) = InPairs (IsSeenAround sc j) pairs × PairsFit sc pairs
  HasBounds d = Unit {0}

  abbrev pub HaveBounds : PDecls → Type 0
  HaveBounds tree.no_decls = Unit {0}
  HaveBounds (tree.decls d ds) = HasBounds d × HaveBounds ds

  -- the items of its declarations, and what comes after them; the others
  abbrev Whole : List Item → Type 0
  Whole k = InDeclared (BlockIsSeen sc j) (IsInner sc j) (IsSeenAround sc j) k × ItemsFit sc k

  abbrev Stated : List Item → Type 0
  Stated k = InItems (BlockIsSeen sc j) (IsInner sc j) k × ItemsFit sc k

  stated : (ss : PStmts) (k : List Item) → AllInText ss → Stated k → Stated (items ss k)
  stated tree.no_stmts k i h = h
  stated (tree.stmts s ss) k i h = let more = stated ss k (i.0.1, i.1.1) h in ((i.0.0, more.0), (i.1.0, more.1))

  stated_ending : (b : Block) → Stated (ending b)
  stated_ending b = by b.result
    where
      by : (o : Option Kind) → Stated (ending (record b { result = o }))
      by None = (tt, tt)
      by (Some kind) = ((tt, tt), (tt, tt))

  declared_ending : (b : Block) → Whole (ending b)
  declared_ending b = by b.result
    where
      by : (o : Option Kind) → Whole (ending (record b { result = o }))
      by None = (tt, tt)
      by (Some kind) = ((tt, tt), (tt, tt))

  after_declarations : (b : Block) (ss : PStmts) → AllInText ss → Whole (items ss (ending b))
  after_declarations b tree.no_stmts i = declared_ending b
  after_declarations b (tree.stmts s ss) i = let more = stated ss (ending b) (i.0.1, i.1.1) (stated_ending b) in ((i.0.0, more.0), (i.1.0, more.1))

  events_first : (ns : List Named) (k : List Item) → Whole k → Whole (event_items ns ++ k)
  events_first [] k h = h
  events_first (n ∷ ns) k h = let more = events_first ns k h in (more.0, (tt, more.1))

  one_first : (d : PDecl) (k : List Item) → HasBounds d → Whole k → Whole (decl_items d ++ k)
  one_first (tree.arrays kind ns pairs) k i h = ((i.0, h.0), (i.1, h.1))
  one_first (tree.events ns) k i h = events_first ns k h
  one_first (tree.tasks ns) k i h = events_first ns k h
  one_first d k i h = h

  all_first : (ds : PDecls) (k : List Item) → HaveBounds ds → Whole k → Whole (decls_items ds ++ k)
  all_first tree.no_decls k i h = h
  all_first (tree.decls d ds) k i h =
      subst Whole (sym (append_assoc (decl_items d) (decls_items ds) k)) (one_first d (decls_items ds ++ k) i.0 (all_first ds k i.1 h))

  pub items_in : (b : Block) → HaveBounds b.decls → AllInText b.stmts → Whole (items_of b)
  items_in b bounds stmts = all_first b.decls (items b.stmts (ending b)) bounds (after_declarations b b.stmts stmts)

-- The items of the block with the number of this one keep to its text, and their calls fit.
abbrev pub IsTextOf : Scopes → Block → Type 0
IsTextOf sc b =
    InDeclared (BlockIsSeen sc (number_at sc.blocks b.spot)) (IsInner sc (number_at sc.blocks b.spot)) (IsSeenAround sc (number_at sc.blocks b.spot)) (items_of (block_numbered sc.blocks (number_at sc.blocks b.spot)))
    × ItemsFit sc (items_of (block_numbered sc.blocks (number_at sc.blocks b.spot)))

pub is_text : (sc : Scopes) (b : Block) → IsFine sc.blocks b → HaveBounds sc (number_at sc.blocks b.spot) b.decls → AllInText sc (number_at sc.blocks b.spot) b.stmts → IsTextOf sc b
is_text sc b f bounds stmts =
    let k = number_at sc.blocks b.spot in
    subst (λ (z : Block). InDeclared (BlockIsSeen sc k) (IsInner sc k) (IsSeenAround sc k) (items_of z) × ItemsFit sc (items_of z)) (sym f.it_is) (items_in sc k b bounds stmts)
