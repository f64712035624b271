-- The body of a procedure that is no BEGIN is its one statement.
use Rattle.std.proofs.Common.{◌≡◌, Bool, List, refl}
use Rattle.algol_tree.specs.declared.token.Spot.{Spot}
use Rattle.algol_tree.specs.Blocks.{Block, of_statement, of_procedure, decls_of, stmts_of, blocks_of}
use Rattle.algol_tree.specs.Plain as tree
use Rattle.algol_tree.specs.Plain.{PStmt}
use Rattle.algol_tree.specs.Sites.{inside_stmt}
use Rattle.algol_tree.specs.Surroundings.{Surroundings}
use Rattle.b67_fitting.specs.Typing.{TypedStmt}

abbrev pub IsNoBegin : PStmt → Type 0
IsNoBegin (tree.block b) = ⊥
IsNoBegin _ = Unit {0}

module _ (blocks : List Block) where
  pub record IsBare (s : PStmt) : Type 0 where
    pub decls_are : decls_of s ≡ tree.no_decls
    pub stmts_are : stmts_of s ≡ tree.stmts s tree.no_stmts
    pub inside_are : (listed : Bool) (a : Surroundings) → inside_stmt blocks s of_procedure listed a ≡ inside_stmt blocks s of_statement listed a
    pub blocks_are : (outer : List Spot) → blocks_of s of_procedure outer ≡ blocks_of s of_statement outer
    pub typed : (a : Surroundings) → TypedStmt blocks of_procedure a s → TypedStmt blocks of_statement a s

  pub bare : (s : PStmt) → IsNoBegin s → IsBare s
  bare tree.empty i = record { decls_are = refl; stmts_are = refl; inside_are = λ l a. refl; blocks_are = λ outer. refl; typed = λ a t. t }
  bare (tree.label n x) i = record { decls_are = refl; stmts_are = refl; inside_are = λ l a. refl; blocks_are = λ outer. refl; typed = λ a t. t }
  bare (tree.assign (tree.subscripted n tree.none) e) i = record { decls_are = refl; stmts_are = refl; inside_are = λ l a. refl; blocks_are = λ outer. refl; typed = λ a t. t }
  bare (tree.assign (tree.subscripted n (tree.more x xs)) e) i = record { decls_are = refl; stmts_are = refl; inside_are = λ l a. refl; blocks_are = λ outer. refl; typed = λ a t. t }
  bare (tree.call_of (tree.called n es)) i = record { decls_are = refl; stmts_are = refl; inside_are = λ l a. refl; blocks_are = λ outer. refl; typed = λ a t. t }
  bare (tree.go_to n) i = record { decls_are = refl; stmts_are = refl; inside_are = λ l a. refl; blocks_are = λ outer. refl; typed = λ a t. t }
  bare (tree.if_then c x) i = record { decls_are = refl; stmts_are = refl; inside_are = λ l a. refl; blocks_are = λ outer. refl; typed = λ a t. t }
  bare (tree.if_else c x y) i = record { decls_are = refl; stmts_are = refl; inside_are = λ l a. refl; blocks_are = λ outer. refl; typed = λ a t. t }
  bare (tree.while c x) i = record { decls_are = refl; stmts_are = refl; inside_are = λ l a. refl; blocks_are = λ outer. refl; typed = λ a t. t }
  bare (tree.until x c) i = record { decls_are = refl; stmts_are = refl; inside_are = λ l a. refl; blocks_are = λ outer. refl; typed = λ a t. t }
  bare (tree.for v x s m y) i = record { decls_are = refl; stmts_are = refl; inside_are = λ l a. refl; blocks_are = λ outer. refl; typed = λ a t. t }
  bare (tree.thru e x) i = record { decls_are = refl; stmts_are = refl; inside_are = λ l a. refl; blocks_are = λ outer. refl; typed = λ a t. t }
  bare (tree.case e ss) i = record { decls_are = refl; stmts_are = refl; inside_are = λ l a. refl; blocks_are = λ outer. refl; typed = λ a t. t }
  bare (tree.process (tree.called n es) task) i = record { decls_are = refl; stmts_are = refl; inside_are = λ l a. refl; blocks_are = λ outer. refl; typed = λ a t. t }
  bare (tree.event act e) i = record { decls_are = refl; stmts_are = refl; inside_are = λ l a. refl; blocks_are = λ outer. refl; typed = λ a t. t }
  bare (tree.write n spot phrases es) i = record { decls_are = refl; stmts_are = refl; inside_are = λ l a. refl; blocks_are = λ outer. refl; typed = λ a t. t }
  bare (tree.block b) i = absurd i
