-- The statements of a block in which a label stands have room above the cells of its frame, with one word more.
use Rattle.std.proofs.Common.{◌≡◌, ℕ, ◌+◌, ◌*◌, ◌<◌, ◌≤◌, List, length, Some, Bool, true, false, arith}
use Rattle.b67_frames.proofs.Prelude.{if◌then◌else◌, Block, block_numbered, stmt_tokens, PStmt, PStmts, PProgram, Named, actuals_are_few, arguments_in_stmts, stmts_depth, HasNames, AreNested, decls_small, stmt_small, stmts_small, most_around}
use Rattle.algol_tree.specs.Counts.{stmts_tokens}
use Rattle.algol_tree.specs.Plain as tree
use Rattle.algol_tree.specs.Scopes.{scopes_of}
use Rattle.algol_meaning.specs.Statements.{is_labelled}
use Rattle.b67_templates.specs.Arguments.{arguments_in_stmt}
use Rattle.b67_templates.specs.Depths.{stmt_depth}
use Rattle.b67_templates.specs.Labels.{label_before, label_in}
use Rattle.b67_frames.proofs.Segmenting.{own_fits}

-- a label has tokens, and needs no words
label_small : (s : PStmt) (name : List ℕ) (label : Named) → label_before s name ≡ Some label → stmt_depth s + arguments_in_stmt s + 1 ≤ 4 * stmt_tokens s
label_small (tree.label n s) name label e = omega (arith, stmt_small s)
label_small s name label e = cc

labelled_small : (ss : PStmts) (name : List ℕ) (label : Named) → label_in ss name ≡ Some label → stmts_depth ss + arguments_in_stmts ss + 1 ≤ 4 * stmts_tokens ss
labelled_small tree.no_stmts name label e = cc
labelled_small (tree.stmts s ss) name label e = by (is_labelled s name) (labelled_small ss name label) e
  where
    by : (b : Bool) → (label_in ss name ≡ Some label → stmts_depth ss + arguments_in_stmts ss + 1 ≤ 4 * stmts_tokens ss) → (if b then label_before s name else label_in ss name) ≡ Some label →
        stmts_depth (tree.stmts s ss) + arguments_in_stmts (tree.stmts s ss) + 1 ≤ 4 * stmts_tokens (tree.stmts s ss)
    by true later e = omega (arith, label_small s name label e, stmts_small ss)
    by false later e = omega (arith, stmt_small s, later e)

module _ (p : PProgram) (named : HasNames p) (nested : AreNested (scopes_of p)) (j : ℕ) (known : j < length (scopes_of p).blocks) (name : List ℕ) (label : Named)
    (there : label_in (block_numbered (scopes_of p).blocks j).stmts name ≡ Some label) where
  abbrev b : Block
  b = block_numbered (scopes_of p).blocks j

  pub label_room : stmts_depth (block_numbered (scopes_of p).blocks j).stmts + 1 ≤ most_around p j
  label_room =
      omega (arith, decls_small b.decls, labelled_small b.stmts name label there, actuals_are_few (scopes_of p) b, own_fits p named nested j known)
