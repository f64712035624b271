-- A run of a process on its own stack, in a store of stacks and rows.
use Rattle.std.specs.Prelude.{◌≡◌, ℕ, ◌<◌, ◌≤◌, Bool, true, false, Some, IsSome, length}
use Rattle.b67_list.specs.Numbered.{numbered}
use Rattle.b67_control.specs.declared.Registers.{Registers}
use Rattle.b67_segment.specs.declared.code.Code.{Code}
use Rattle.b67_control.specs.Display.{levels}
use Rattle.b67_store.specs.Store.{Stacks, Rows, stack_at, words_of, with_cut, stack_limit}
use Rattle.b67_table.specs.Image.{Image, is_able}
use Rattle.b67_table.specs.Valid.{IsValid}
use Rattle.b67_reach.specs.Images.{Own, own_of_image}
use Rattle.b67_private.specs.declared.operators.WordsRow.{WordsRow}
use Rattle.b67_private.specs.declared.operators.WordsRow.TheVariants as words

-- a process that is able in a valid image has these registers, and the image these stacks and rows
pub record ProcessIsIn (code : Code) (img : Image) (p : ℕ) (stacks : Stacks) (rows : Rows) (r : Registers) : Type 0 where
  pub valid : IsValid code img
  pub able : is_able (numbered img.states p) ≡ true
  pub has : numbered img.regs p ≡ Some r
  pub stacks_are : img.stacks ≡ stacks
  pub rows_are : img.rows ≡ rows

-- an operator on words may enter a procedure
abbrev pub enters : WordsRow → Bool
enters (words.ValueCall couple) = true
enters words.Evaluate = true
enters _ = false

-- ---- a stack that is lent and not cut

-- it is open, and has the words that S counts, and it may be others above them
pub record IsOpen (stacks : Stacks) (r : Registers) : Type 0 where
  pub level : r.ll < levels
  pub opened : IsSome (stack_at stacks r.stack)
  pub long : r.s ≤ length (words_of stacks r.stack)
  pub room : r.s ≤ stack_limit

-- what a process has in a store, when of its stack only the words that S counts are its own
abbrev pub own_of : Stacks → Rows → Registers → Own
own_of stacks rows r = own_of_image (with_cut stacks r.stack r.s) rows r

abbrev pub IsInOpen : Code → Image → ℕ → Stacks → Rows → Registers → Type 0
IsInOpen code img p stacks rows r = ProcessIsIn code img p (with_cut stacks r.stack r.s) rows r
