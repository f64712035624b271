-- Where the names and the blocks of a text stand among the blocks around it.
use Rattle.std.specs.Prelude.{◌≡◌, ◌⊎◌, ℕ, ◌<◌, ◌≤◌, true, [], ◌∷◌, length, Some, None, slice_get}
use Rattle.algol_tree.specs.declared.TheConstants.{MOST_LEVEL}
use Rattle.algol_tree.specs.declared.tree.Named.{Named}
use Rattle.algol_tree.specs.Plain as tree
use Rattle.algol_tree.specs.Plain.{PStmts, PDecls, PBody}
use Rattle.algol_tree.specs.Blocks.{block_numbered, number_at, around, spot_of}
use Rattle.algol_tree.specs.Cells.{level_of}
use Rattle.algol_tree.specs.Sorts.{is_variable, is_formal}
use Rattle.algol_tree.specs.Scopes.{Scopes, use_of}

-- The name, in the text of the block with this number, means a declaration of the block that is so many up.
abbrev pub BlockIsSeen : Scopes → ℕ → Named → Type 0
BlockIsSeen sc j n = slice_get (j ∷ around sc.blocks j) ((use_of sc n).up) ≡ Some ((use_of sc n).block)

-- .. of one around it, or of a parameter: a bound of an array knows nothing else of its own block
abbrev pub IsSeenAround : Scopes → ℕ → Named → Type 0
IsSeenAround sc j n =
    BlockIsSeen sc j n × ((1 ≤ (use_of sc n).up) ⊎ (is_variable ((use_of sc n).sort) ≡ true) ⊎ (is_formal ((use_of sc n).sort) ≡ true))

abbrev pub decls_in : PBody → PDecls
decls_in (tree.body spot ds ss) = ds

abbrev pub stmts_in : PBody → PStmts
stmts_in (tree.body spot ds ss) = ss

-- The block of a statement stands in the text of the block with this number: it is one of those of the scopes, with its declarations and
-- statements, and without parameters and result.
pub record IsInner (sc : Scopes) (j : ℕ) (b : PBody) : Type 0 where
  pub known : number_at sc.blocks (spot_of b) < length sc.blocks
  pub around_is : around sc.blocks (number_at sc.blocks (spot_of b)) ≡ j ∷ around sc.blocks j
  pub decls_are : (block_numbered sc.blocks (number_at sc.blocks (spot_of b))).decls ≡ decls_in b
  pub stmts_are : (block_numbered sc.blocks (number_at sc.blocks (spot_of b))).stmts ≡ stmts_in b
  pub nameless : (block_numbered sc.blocks (number_at sc.blocks (spot_of b))).name ≡ []
  pub parameters : (block_numbered sc.blocks (number_at sc.blocks (spot_of b))).parameters ≡ []
  pub result : (block_numbered sc.blocks (number_at sc.blocks (spot_of b))).result ≡ None
  pub low : level_of (block_numbered sc.blocks (number_at sc.blocks (spot_of b))) ≤ MOST_LEVEL
