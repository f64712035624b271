-- The letters of what is performed.
use Rattle.std.specs.Prelude.{◌≡◌, ℕ, if◌then◌else◌, List, Option, Some, None, take}
use Rattle.b67_word.specs.Word.{Word}
use Rattle.b67_control.specs.declared.Pcw.{Pcw}
use Rattle.b67_control.specs.declared.Registers.{Registers}
use Rattle.b67_ops.specs.declared.Operator.{Operator}
use Rattle.b67_store.specs.Store.{Stacks, stack_at}
use Rattle.b67_table.specs.Image.{Image}
use Rattle.b67_table.specs.Look.{look_seen}
use Rattle.b67_table.specs.Names.{intrinsic_numbered}
use Rattle.b67_table.specs.Private.{frame}
use Rattle.b67_deeds.specs.declared.Letter.{Letter}
use Rattle.b67_deeds.specs.declared.Letter.TheVariants.{Enter, Leave}
use Rattle.b67_deeds.specs.declared.Letter.TheVariants as letters
use Rattle.b67_letters.specs.Letters.{told_by, left_letter, intrinsic_letter, called_letter, control_called, operator_letter}
use Rattle.b67_private.specs.declared.operators.WordsRow.{WordsRow}
use Rattle.b67_private.specs.Lettered.{words_letter}
use Rattle.b67_action.specs.declared.done.Done.{Done}
use Rattle.b67_action.specs.declared.done.Done.TheVariants.{Fault, NoMemory}
use Rattle.b67_action.specs.declared.rows.Row.{Row}
use Rattle.b67_action.specs.declared.rows.Row.TheVariants as rows

-- of what ENTR calls, of a process with this woken number
abbrev pub by_called : ℕ → Pcw → Option Letter
by_called woken pcw = if pcw.intrinsic then intrinsic_letter woken (intrinsic_numbered pcw.number) else Some Enter

-- of ENTR, by what it calls
abbrev pub enter_letter : Image → Registers → Option Letter
enter_letter img r = told_by (called_letter img r.stack) (look_seen img.stacks (control_called r))

-- of a row: one of a private operator has none
abbrev pub row_letter : Row → Image → Registers → Option Letter
row_letter rows.Own img r = None
row_letter (rows.Words kind) img r = words_letter kind img.stacks r
row_letter rows.Exit img r = Some (left_letter (frame r))
row_letter rows.ReturnValue img r = Some Leave
row_letter rows.Enter img r = enter_letter img r

-- an operator at this place has the letter of this row, in every image and with all registers that point there
abbrev pub HasLetter : Operator → ℕ → Row → Type 0
HasLetter op here row = (img : Image) (r : Registers) → r.place ≡ here → row_letter row img r ≡ operator_letter op img r

-- wherever the process's stack has the words that are the room's, an operator on words has this letter
abbrev pub LettersOn : WordsRow → Registers → List Word → Letter → Type 0
LettersOn row r room l = (stacks : Stacks) → stack_at stacks r.stack ≡ Some (take r.s room) → words_letter row stacks r ≡ Some l

-- The letter of what was answered, where this is the operator's: what found no memory did nothing.
abbrev pub letter_in : Done → Option Letter → Option Letter
letter_in NoMemory found = None
letter_in done found = found

-- of what was not performed: a fault has its own
abbrev pub letter_by_done : Done → Option Letter
letter_by_done (Fault kind) = Some letters.Fault
letter_by_done done = None
