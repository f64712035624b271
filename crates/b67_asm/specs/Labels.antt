-- The labels of a segment, and where operators stand in it.
use Rattle.std.specs.Prelude.{ℕ, ◌+◌, if◌then◌else◌, List, [], ◌∷◌, Option, Some, None}
use Rattle.std.specs.Borrow.{Bor}
use Rattle.std.specs.Ordering.{nat_cmp}
use Rattle.std.specs.Cmp.Lexicographic.{slice_cmp}
use Rattle.std.specs.Str.{bytes_eq}
use Rattle.std.specs.BTreeMap.{BTreeMap, get_by}
use Rattle.b67_ops.specs.Spelling.{filling, kind_of}
use Rattle.b67_ops.specs.declared.table.OperatorKind.{OperatorKind}
use Rattle.b67_ops.specs.declared.table.OperatorKind.TheVariants as kinds
use Rattle.b67_asm_text.specs.declared.item.Written.{Written}
use Rattle.b67_asm_text.specs.declared.item.Written.TheVariants.{Whole, ToLabel, TooGreat}
use Rattle.b67_asm_text.specs.declared.item.Reading.{Reading}
use Rattle.b67_asm_text.specs.declared.item.Reading.TheVariants.{Segment, Label, Operator}
use Rattle.b67_asm.specs.declared.label.Standing.{Standing}

-- how many syllables an operator has that begins at this place
abbrev pub width_of : ℕ → OperatorKind → ℕ
width_of at kinds.Valc = 2
width_of at kinds.Namc = 2
width_of at kinds.Lt8 = 2
width_of at kinds.Lt16 = 3
width_of at kinds.Lt48 = 7 + filling at
width_of at kinds.Mpcw = 7 + filling at
width_of at (kinds.Branch kind) = 3
width_of at (kinds.Plain kind) = 1

-- a written operator without its operand
abbrev pub kind_written : Written → OperatorKind
kind_written (Whole operator) = kind_of operator
kind_written (ToLabel kind name) = kinds.Branch kind
kind_written (TooGreat kind) = kind

-- the place after a written operator
abbrev pub place_after : ℕ → Written → ℕ
place_after at written = at + width_of at (kind_written written)

-- where each label stands in the lines from here to the next SEGMENT: its line, and the place of the next syllable
abbrev pub labels_from : ℕ → ℕ → List Reading → List (List ℕ × Standing)
labels_from line at [] = []
labels_from line at (Segment ∷ rest) = []
labels_from line at (Label name ∷ rest) = (name, record { line = line; place = at }) ∷ labels_from (line + 1) at rest
labels_from line at (Operator written ∷ rest) = labels_from (line + 1) (place_after at written) rest
labels_from line at (reading ∷ rest) = labels_from (line + 1) at rest

-- the first label of a name
abbrev pub label_named : List (List ℕ × Standing) → List ℕ → Option Standing
label_named [] name = None
label_named (label ∷ labels) name = if bytes_eq label.0 name then Some label.1 else label_named labels name

-- what a table of labels has for a name
abbrev pub found_in : BTreeMap (Bor (List ℕ)) Standing → List ℕ → Option Standing
found_in table name = get_by (λ k. slice_cmp nat_cmp name k.now) table
