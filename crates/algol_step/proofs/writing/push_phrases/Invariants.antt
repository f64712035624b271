use Rattle.std.proofs.Common.{◌≡◌, ◌++◌, drop, map}
use Rattle.algol_meaning.specs.Lines.{line_of}
use Rattle.algol_cells.specs.SeenValue.{value}
use Rattle.algol_step.proofs.writing.push_phrases.Given as goal

-- the line so far, and that of the phrases and values that are left
abbrev pub invariant-writing : goal.invariant-writing
invariant-writing l =
    l.text.items ++ line_of (drop l.phrase-index l.phrases) (map value l.left) ≡ l.initial.text.items ++ line_of l.phrases (map value l.values)
