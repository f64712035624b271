-- Leaving frames: what the table makes of stacks, rows and registers.
use Rattle.std.specs.Prelude.{ℕ, ◌+◌, ◌-◌, ◌&&◌, not, nat_le, nat_eq, if◌then◌else◌, List, [], ◌∷◌, length, Option, Some, None}
use Rattle.b67_word.specs.declared.Place.{Place}
use Rattle.b67_word.specs.Word.{Word}
use Rattle.b67_control.specs.declared.Registers.{Registers}
use Rattle.b67_store.specs.Store.{Stacks, Rows, words_of, with_cut, with_push, closed_at}
use Rattle.b67_table.specs.declared.InterruptKind.TheVariants.{InvalidOperand, StackUnderflow}
use Rattle.b67_table.specs.declared.Leaving.{Leaving}
use Rattle.b67_table.specs.Effect.{Effect, gives, interrupts}
use Rattle.b67_table.specs.Private.{display_at, at_or, frame, floor}
use Rattle.b67_table.specs.Look.{Look, found, look_seen, ◌>->◌}
use Rattle.b67_table.specs.Chains.{place, rebuilt}
use Rattle.b67_table.specs.Linkage.{leaving, registers_left}
use Rattle.b67_table.specs.GoingTo.{Passing, passing, passed_by}
use Rattle.b67_table.specs.Rows.{is_result}
use Rattle.b67_linkage.specs.Held.{HeldCore, held}
use Rattle.b67_linkage.specs.Closing.{without_arrays, without_frames, cells_in_frame}
use Rattle.b67_linkage.specs.Entering.{after_look}

-- where the display register of a level points, in the process's own stack
abbrev pub frame_at : Registers → ℕ → Place
frame_at r level = place r.stack (at_or (display_at r level))

-- the frame of a process
abbrev pub own_frame : Registers → Place
own_frame r = place r.stack (frame r)

-- the words of the cells of a process's frame
abbrev pub own_cells : HeldCore → List Word
own_cells h = cells_in_frame (words_of h.stacks h.regs.stack) (frame h.regs) h.regs.cells

abbrev pub with_pushes : Stacks → ℕ → List Word → Stacks
with_pushes stacks n [] = stacks
with_pushes stacks n (w ∷ words) = with_pushes (with_push stacks n w) n words

-- the frame is left, and these words stand in its place
abbrev pub frame_left : HeldCore → List Word → Leaving → HeldCore
frame_left h words l =
    let f = frame h.regs in
    held (with_pushes (with_cut h.stacks h.regs.stack f) h.regs.stack words) (without_arrays (own_cells h) h.rows) (registers_left h.regs (f + length words) f l)

-- the base frame is left, and with it the stack
abbrev pub base_left : HeldCore → HeldCore
base_left h = held (closed_at h.stacks h.regs.stack) (without_arrays (own_cells h) h.rows) h.regs

abbrev pub leaves_with : HeldCore → List Word → Effect HeldCore
leaves_with h words = after_look (look_seen h.stacks (leaving (own_frame h.regs))) (frame_left h words)

abbrev pub exits : HeldCore → Effect HeldCore
exits h = if nat_eq (frame h.regs) 0 then gives (base_left h) else leaves_with h []

-- a word lies at the floor or above, and this one is a result; a base frame has none
abbrev pub returns : HeldCore → Word → Effect HeldCore
returns h w =
    if nat_le (floor h.regs + 1) h.regs.s
    then (if is_result w && not (nat_eq (frame h.regs) 0) then leaves_with h (w ∷ []) else interrupts InvalidOperand)
    else interrupts StackUnderflow

-- ---- all frames above one

-- what is found on the way down to a frame: the frames above it, and its display
pub record Cutting : Type 0 where
  pub passing : Passing
  pub display : List (Option Place)

abbrev pub cutting : Registers → Place → ℕ → Look Cutting
cutting r target level =
    passed_by r target >-> (λ (p : Passing). rebuilt target level >-> (λ (display : List (Option Place)). found (record { passing = p; display = display })))

-- all frames above the target are left, and the registers are in it; the pointer stays as it is
abbrev pub cut_down : HeldCore → ℕ → Cutting → HeldCore
cut_down h level c =
    let at = at_or (display_at h.regs level) in
    let s = at + 2 + c.passing.cells in
    held (with_cut h.stacks h.regs.stack s) (without_frames (words_of h.stacks h.regs.stack) c.passing.frames h.rows)
    (record h.regs { s = s; f = at; ll = level; display = c.display; cells = c.passing.cells })

abbrev pub cuts : HeldCore → ℕ → Effect HeldCore
cuts h level = after_look (look_seen h.stacks (cutting h.regs (frame_at h.regs level) level)) (cut_down h level)

-- ---- on the way down

-- the frames from one that has so many cells down to the target
abbrev pub down_to : Place → ℕ → ℕ → Look Passing
down_to from cells target = passing (from.at + 1) from.stack target (record { frame = from.at; cells = cells })

-- how many cells the target has
abbrev pub target_cells : Place → ℕ → ℕ → Look ℕ
target_cells from cells target = down_to from cells target >-> (λ (p : Passing). found p.cells)

-- the rows after all frames above the target are left
abbrev pub target_rows : List Word → Rows → Place → ℕ → ℕ → Look Rows
target_rows words rows from cells target = down_to from cells target >-> (λ (p : Passing). found (without_frames words p.frames rows))
