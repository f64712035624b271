-- Where a label leads: it is looked for in the list of its block, and its place among those that are noted.
use Rattle.std.proofs.Common.{◌≡◌, ◌∙◌, ℕ, Bool, true, false, if◌then◌else◌, List, ◌∷◌, refl, sym, ap, is_some}
use Rattle.std.specs.Borrow.{Bor}
use Rattle.std.specs.Prelude.{Option, Some, None, option_copied}
use Rattle.std.specs.declared.boxed.Box.{Box}
use Rattle.std.specs.declared.alloc.Global.{Global}
use Rattle.algol_tree.specs.declared.tree.Named.{Named}
use Rattle.algol_tree.specs.declared.tree.Stmt.{Stmt}
use Rattle.algol_tree.specs.declared.tree.Stmt.TheVariants as shapes
use Rattle.algol_tree.specs.Image.{stmt, stmts}
use Rattle.algol_tree.specs.Plain as tree
use Rattle.algol_tree.specs.Plain.{PStmt}
use Rattle.algol_tree.specs.Sorts.{same_name}
use Rattle.algol_meaning.specs.Statements.{is_labelled}
use Rattle.b67_templates.specs.Labels.{label_before, label_in}
use Rattle.b67_emit_stmt.specs.declared.draft.Label.{Label}
use Rattle.b67_emit_stmt.proofs.Shapes.{label_as}

-- the label before a statement, or before that
module _ (s p : Stmt) (n : Named) (b : Box Stmt Global) (name : List ℕ) (is : s ≡ shapes.Label n b) (same : p ≡ b.value) where
  abbrev named : Bool → Option Named
  named t = if t then Some n else label_before (stmt p) name

  there : (t : Bool) → same_name n.name name ≡ t → label_before (stmt s) name ≡ named t
  there t h = ap (λ (x : PStmt). label_before x name) (label_as s p n b is same) ∙ ap named h

  pub label_first : same_name n.name name ≡ true → Some n ≡ label_before (stmt s) name
  label_first h = sym (there true h)

  pub label_next : same_name n.name name ≡ false → (found : Option Named) → found ≡ label_before (stmt p) name → found ≡ label_before (stmt s) name
  label_next h found is_found = is_found ∙ sym (there false h)

-- one that is read through a reference
pub copied_some : (o : Option (Bor Named)) → is_some (option_copied o) ≡ is_some o
copied_some None = refl
copied_some (Some n) = refl

-- a statement is labelled by a name where a label of that name stands before it
labelled_there : (s : PStmt) (name : List ℕ) → is_labelled s name ≡ is_some (label_before s name)
labelled_there (tree.label n s) name = by (same_name n.name name) (labelled_there s name)
  where
    by : (b : Bool) → is_labelled s name ≡ is_some (label_before s name) → (if b then true else is_labelled s name) ≡ is_some (if b then Some n else label_before s name)
    by true later = refl
    by false later = later
labelled_there tree.empty name = refl
labelled_there (tree.assign v e) name = refl
labelled_there (tree.call_of c) name = refl
labelled_there (tree.go_to n) name = refl
labelled_there (tree.block b) name = refl
labelled_there (tree.if_then c x) name = refl
labelled_there (tree.if_else c x y) name = refl
labelled_there (tree.while c b) name = refl
labelled_there (tree.until b c) name = refl
labelled_there (tree.for v a s l b) name = refl
labelled_there (tree.thru e b) name = refl
labelled_there (tree.case e ss) name = refl
labelled_there (tree.process c task) name = refl
labelled_there (tree.event act e) name = refl
labelled_there (tree.write n spot phrases es) name = refl

module _ (left rest : List Stmt) (s : Stmt) (name : List ℕ) (is : left ≡ s ∷ rest) where
  abbrev chosen : Bool → Option Named
  chosen b = if b then label_before (stmt s) name else label_in (stmts rest) name

  split : (b : Bool) → is_some (label_before (stmt s) name) ≡ b → label_in (stmts left) name ≡ chosen b
  split b h = ap (λ (l : List Stmt). label_in (stmts l) name) is ∙ ap chosen (labelled_there (stmt s) name ∙ h)

  -- it is before the first of these
  pub label_here : is_some (label_before (stmt s) name) ≡ true → label_in (stmts left) name ≡ label_before (stmt s) name
  label_here h = split true h

  -- .. or among the others
  pub label_further : is_some (label_before (stmt s) name) ≡ false → label_in (stmts left) name ≡ label_in (stmts rest) name
  label_further h = split false h
