-- The plain trees of labelled statements and of blocks.
use Rattle.std.proofs.Common.{rules, ◌≡◌, refl, ℕ, true, false, List}
use Rattle.std.specs.declared.boxed.Box.{Box}
use Rattle.std.specs.declared.alloc.Global.{Global}
use Rattle.algol_tree.specs.Plain as tree
use Rattle.algol_tree.specs.Sorts.{same_name}
use Rattle.algol_tree.specs.declared.tree.Named.{Named}
use Rattle.algol_tree.specs.declared.tree.Body as bodies
use Rattle.algol_tree.specs.declared.tree.Body.{Body}
use Rattle.algol_tree.specs.declared.tree.Stmt.{Stmt, the_lemmas}
use Rattle.algol_tree.specs.declared.tree.Stmt.TheVariants as shapes
use Rattle.algol_tree.proofs.Images.{label_is}
use Rattle.algol_meaning.specs.Statements.{is_labelled}
use Rattle.algol_meaning.specs.SeenTree.{stmt, stmts, decls}

pub stmt_of_block : (b : Body) → stmt (shapes.Block b) ≡ tree.block (tree.body b.spot (decls b.decls) (stmts b.stmts))
stmt_of_block b = search (rules, the_lemmas, bodies.the_lemmas)

pub labelled_here :
    (n : Named) (s : Box Stmt Global) (name : List ℕ) → true ≡ same_name n.name name → true ≡ is_labelled (stmt (shapes.Label n s)) name
labelled_here n s name e = rw (label_is n s, ← e) refl

pub labelled_within :
    (n : Named) (s : Box Stmt Global) (name : List ℕ)
    → false ≡ same_name n.name name → is_labelled (stmt s.value) name ≡ is_labelled (stmt (shapes.Label n s)) name
labelled_within n s name e = rw (label_is n s, ← e) refl

pub ruleset label_laws = (labelled_here, labelled_within, label_is)
