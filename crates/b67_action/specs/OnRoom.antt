-- What actions do on the lent room of a process's own stack: a word at place k of the stack is the room's word k, and S says how many of them
-- are the stack's.
use Rattle.std.specs.Prelude.{◌≡◌, ℕ, ◌+◌, ◌<◌, ◌≤◌, ◌==◌, Bool, true, ℤ, List, length, take, Some, Ok, slice_get}
use Rattle.b67_word.specs.declared.Place.{Place}
use Rattle.b67_word.specs.Word.{Word}
use Rattle.b67_control.specs.declared.Registers.{Registers}
use Rattle.b67_control.specs.declared.Descriptor.{Descriptor}
use Rattle.b67_control.specs.Display.{levels}
use Rattle.b67_store.specs.Store.{Stacks, Rows, stack_at, with_stack, stack_limit}
use Rattle.b67_table.specs.Arrays.{array_of, as_indexed, index_in, subscripted}
use Rattle.b67_table.specs.Look.{look_seen}
use Rattle.b67_table.specs.Private.{display_at}
use Rattle.b67_table.specs.Program.{Program}
use Rattle.b67_table.specs.References.{popped_two}
use Rattle.b67_reach.specs.Images.{own_of_image as own}
use Rattle.b67_reach.specs.Answers.{ProgramPerforms}

-- the room is a stack's, whose words S counts
pub record IsRoom (r : Registers) (room : List Word) : Type 0 where
  pub level : r.ll < levels
  pub size : length room ≤ stack_limit
  pub within : r.s ≤ length room

-- Wherever the process's stack has the words that were the room's, the program makes the new registers, and of the stack the words that
-- are the room's after it.
abbrev pub PerformsOn : Program → Registers → List Word → Registers → List Word → Type 0
PerformsOn program r room new words =
    (stacks : Stacks) (rows : Rows) → stack_at stacks r.stack ≡ Some (take r.s room)
    → ProgramPerforms program (own stacks rows r) (own (with_stack stacks new.stack (take new.s words)) rows new) (Ok (tt {0}))

-- a word stands at this place of its own stack, in the cell that a couple names
pub record HoldsWord (r : Registers) (room : List Word) (level index at : ℕ) : Type 0 where
  pub frame : Place
  pub shown : display_at r level ≡ Some frame
  pub own : frame.stack ≡ r.stack
  pub here : at ≡ frame.at + index
  pub within : at < r.s
  pub word : Word
  pub stands : slice_get room at ≡ Some word

-- an operand stands at this place of its own stack, in the cell that a couple names
pub record HoldsOperand (r : Registers) (room : List Word) (level index at : ℕ) : Type 0 where
  pub frame : Place
  pub shown : display_at r level ≡ Some frame
  pub own : frame.stack ≡ r.stack
  pub here : at ≡ frame.at + index
  pub within : at < r.s
  pub word : Word
  pub stands : slice_get room at ≡ Some word
  pub operand : (word.tag == 0) ≡ true

-- ---- arrays

-- wherever the process's stack has the words that are the room's, a word is or reaches this array
abbrev pub IsArrayOf : Registers → List Word → Bool → Word → Descriptor → Type 0
IsArrayOf r room mother w array = (stacks : Stacks) → stack_at stacks r.stack ≡ Some (take r.s room) → look_seen stacks (array_of r mother w) ≡ Ok array

-- in these stacks the words on top of a process's are this array and a subscript within it
pub record Subscripts (stacks : Stacks) (r : Registers) (mother : Bool) (array : Descriptor) (at : ℕ) : Type 0 where
  pub subscript : ℤ
  pub found : look_seen stacks (subscripted r mother) ≡ Ok (record { array = array; subscript = subscript })
  pub index : index_in subscript array.length ≡ Some at

-- so they are wherever the process's stack has the words that are the room's
abbrev pub SubscriptsOn : Registers → List Word → Bool → Descriptor → ℕ → Type 0
SubscriptsOn r room mother array at = (stacks : Stacks) → stack_at stacks r.stack ≡ Some (take r.s room) → Subscripts stacks r mother array at

-- in these stacks the words on top of a process's are this operand, and under it the indexed descriptor of an element
pub record Stores (stacks : Stacks) (r : Registers) (x : Word) (d : Descriptor) : Type 0 where
  pub below : Word
  pub found : look_seen stacks (popped_two r) ≡ Ok (record { x = x; y = below })
  pub operand : (x.tag == 0) ≡ true
  pub element : as_indexed below ≡ Some d

abbrev pub StoresOn : Registers → List Word → Word → Descriptor → Type 0
StoresOn r room x d = (stacks : Stacks) → stack_at stacks r.stack ≡ Some (take r.s room) → Stores stacks r x d
