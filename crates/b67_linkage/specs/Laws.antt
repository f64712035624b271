-- What holds of every valid image and of every change of the table.
use Rattle.std.specs.Prelude.{◌≡◌, ℕ, List, Option, Some, true}
use Rattle.b67_list.specs.Numbered.{numbered}
use Rattle.b67_word.specs.Word.{Word}
use Rattle.b67_control.specs.declared.Registers.{Registers}
use Rattle.b67_segment.specs.declared.code.Code.{Code}
use Rattle.b67_table.specs.Image.{Image, is_live, with_rows}
use Rattle.b67_table.specs.Program.{Change, changed}
use Rattle.b67_table.specs.Linkage.{arrays_closed}
use Rattle.b67_table.specs.Valid.{IsValid}
use Rattle.b67_linkage.specs.Held.{IsLinked}
use Rattle.b67_linkage.specs.Closing.{without_arrays}

-- the calls may be made for each live process of a valid image
abbrev pub LiveAreLinked : Type 0
LiveAreLinked =
    (code : Code) (img : Image) (p : ℕ) (r : Registers) → IsValid code img → is_live (numbered img.states p) ≡ true → numbered img.regs p ≡ Some r → IsLinked img.stacks img.rows r

-- the rows that are left where cells are given up are those that the table's change leaves
abbrev pub ClosesAsTheTable : Type 0
ClosesAsTheTable =
    (p : ℕ) (cells : List Word) (next : Change) (img : Image) → changed p (arrays_closed cells next) img ≡ changed p next (with_rows img (without_arrays cells img.rows))
