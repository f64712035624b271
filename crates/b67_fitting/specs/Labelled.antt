-- A label that a block of an accepted program declares stands before a statement of the block's own list (rule BadLabel).
use Rattle.std.specs.Prelude.{◌≡◌, ℕ, ◌<◌, List, length, Some}
use Rattle.algol_tree.specs.declared.tree.Named.{Named}
use Rattle.algol_tree.specs.Plain.{PProgram}
use Rattle.algol_tree.specs.Accepted.{Accepted}
use Rattle.algol_tree.specs.Ascending.{IsInOrder}
use Rattle.algol_tree.specs.Blocks.{block_numbered}
use Rattle.algol_tree.specs.Scopes.{scopes_of}
use Rattle.b67_templates.specs.Labels.{label_number, label_in}
use Rattle.b67_fitting.specs.Texts.{HasPlainTexts}
use Rattle.b67_fitting.specs.Wholes.{HasWholeNumbers}

abbrev pub LabelsStand : Type 0
LabelsStand =
    (p : PProgram) → Accepted p → IsInOrder p → HasWholeNumbers p → HasPlainTexts p → (j number : ℕ) (name : List ℕ) → j < length (scopes_of p).blocks →
    label_number (scopes_of p) j name ≡ Some number → (label : Named) × (label_in (block_numbered (scopes_of p).blocks j).stmts name ≡ Some label)
