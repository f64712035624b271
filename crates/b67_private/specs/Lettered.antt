-- The letter of the action that a row is, by what it finds.
use Rattle.std.specs.Prelude.{◌≡◌, ℕ, Option, Some, None}
use Rattle.b67_control.specs.declared.Registers.{Registers}
use Rattle.b67_ops.specs.declared.Operator.{Operator}
use Rattle.b67_ops.specs.declared.PlainKind.{PlainKind}
use Rattle.b67_store.specs.Store.{Stacks}
use Rattle.b67_table.specs.Image.{Image}
use Rattle.b67_table.specs.Look.{◌>->◌, look_seen}
use Rattle.b67_table.specs.Private.{frame}
use Rattle.b67_table.specs.References.{couple_cell, cell_of, reached, popped, popped_two}
use Rattle.b67_word.specs.Word.{Word}
use Rattle.b67_deeds.specs.declared.Letter.{Letter}
use Rattle.b67_deeds.specs.declared.Letter.TheVariants.{ElementRead, Index, Leave, Pass, Turn}
use Rattle.b67_letters.specs.Letters.{told_by, value_letter, place_letter, loaded_letter, stored_letter, left_letter, called_letter, control_called, plain_letter, operator_letter}
use Rattle.b67_private.specs.declared.operators.WordsRow.{WordsRow}
use Rattle.b67_private.specs.declared.operators.WordsRow.TheVariants as words
use Rattle.b67_private.specs.declared.operators.Row.{Row}
use Rattle.b67_private.specs.declared.operators.Row.TheVariants as rows

-- of an operator on words and rows, by the stacks
abbrev pub words_letter : WordsRow → Stacks → Registers → Option Letter
words_letter (words.ValueCall couple) stacks r = told_by value_letter (look_seen stacks (reached (couple_cell r couple.level couple.index)))
words_letter (words.Turn kind target) stacks r = Some Turn
words_letter words.Evaluate stacks r = told_by place_letter (look_seen stacks (popped r >-> (λ (x : Word). reached (cell_of r x))))
words_letter words.LoadThrough stacks r = Some Pass
words_letter words.LoadValue stacks r = told_by loaded_letter (look_seen stacks (popped r))
words_letter (words.Store keeps) stacks r = told_by stored_letter (look_seen stacks (popped_two r))
words_letter words.Index stacks r = Some Index
words_letter words.IndexAndLoad stacks r = Some ElementRead
words_letter words.IndexMother stacks r = Some Index

-- of any row: one of a private operator has none
abbrev pub row_letter : Row → Image → Registers → Option Letter
row_letter (rows.Words kind) img r = words_letter kind img.stacks r
row_letter rows.Exit img r = Some (left_letter (frame r))
row_letter rows.ReturnValue img r = Some Leave
row_letter rows.Enter img r = told_by (called_letter img r.stack) (look_seen img.stacks (control_called r))
row_letter _ img r = None

-- an operator at this place has the letter of this row, in every image and with all registers that point there
abbrev pub HasLetter : Operator → ℕ → Row → Type 0
HasLetter op here row = (img : Image) (r : Registers) → r.place ≡ here → row_letter row img r ≡ operator_letter op img r

abbrev pub HasLetterOf : PlainKind → Row → Type 0
HasLetterOf kind row = (img : Image) (r : Registers) → row_letter row img r ≡ plain_letter kind img r
