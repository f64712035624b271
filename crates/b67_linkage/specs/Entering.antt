-- Marks and entries: what the table makes of stacks and registers.
use Rattle.std.specs.Prelude.{◌≡◌, ℕ, ◌+◌, ◌-◌, ◌<◌, nat_lt, nat_le, if◌then◌else◌, Bool, List, [], ◌∷◌, length, Option, Some, Result, Ok, Err}
use Rattle.b67_word.specs.declared.Place.{Place}
use Rattle.b67_word.specs.Word.{Word}
use Rattle.b67_control.specs.declared.Registers.{Registers}
use Rattle.b67_control.specs.declared.Mscw.{Mscw}
use Rattle.b67_control.specs.declared.Pcw.{Pcw}
use Rattle.b67_store.specs.Store.{Stacks, with_word, with_push, with_cut}
use Rattle.b67_table.specs.declared.InterruptKind.{InterruptKind}
use Rattle.b67_table.specs.declared.InterruptKind.TheVariants.{InvalidOperand}
use Rattle.b67_table.specs.declared.Entry.{Entry}
use Rattle.b67_table.specs.Effect.{Effect, gives, interrupts}
use Rattle.b67_table.specs.Limits.{most_cells, end_of_code}
use Rattle.b67_table.specs.Look.{Look, found, look_seen, ◌>->◌}
use Rattle.b67_table.specs.Chains.{place}
use Rattle.b67_table.specs.PrivateRows.{open_mark}
use Rattle.b67_table.specs.Linkage.{entering, entered, entered_mark, control_word, selected}
use Rattle.b67_table.specs.Rows.{marked}
use Rattle.b67_linkage.specs.Held.{HeldCore, held}

-- what a look at the stacks found, turned into an effect
abbrev pub after_look : {A : Type 0} → Result A InterruptKind → (A → HeldCore) → Effect HeldCore
after_look (Ok a) after = gives (after a)
after_look (Err kind) after = interrupts kind

-- a mark is pushed, and F names it
abbrev pub marking : HeldCore → Effect HeldCore
marking h =
    if nat_lt h.regs.f h.regs.s
    then gives (held (with_push h.stacks h.regs.stack (open_mark (h.regs.s - h.regs.f))) h.rows (record h.regs { s = h.regs.s + 1; f = h.regs.s }))
    else interrupts InvalidOperand

-- what an entry finds: the distance from its mark to the one below, and the rest
pub record Opening : Type 0 where
  pub df : ℕ
  pub entry : Entry

-- how many cells a frame at F has
abbrev pub cells_above : Registers → ℕ
cells_above r = r.s - (r.f + 2)

-- the tests of an entry at the mark at F, where the pointer is left after the operator
abbrev pub opening : Registers → Pcw → Place → Look Opening
opening r pcw home =
    marked r >-> (λ (m : Mscw). entering r r.place (nat_le (cells_above r) most_cells) r.f pcw (Some home) >-> (λ (e : Entry).
    found (record { df = m.df; entry = e })))

-- the mark is entered and linked to its home, and the control word above it says where its caller goes on
abbrev pub frame_opened : HeldCore → Pcw → Opening → HeldCore
frame_opened h pcw o =
    let r = h.regs in
    held (with_word (with_word h.stacks (place r.stack r.f) (entered_mark o.entry.home o.df)) (place r.stack (r.f + 1)) (control_word r r.place pcw.level))
    h.rows (entered r r.s r.f pcw o.entry (cells_above r))

abbrev pub enters : HeldCore → Pcw → Place → Effect HeldCore
enters h pcw home = after_look (look_seen h.stacks (opening h.regs pcw home)) (frame_opened h pcw)
