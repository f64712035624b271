-- Entering a frame, and leaving one.
use Rattle.std.specs.Prelude.{ℕ, ◌+◌, ◌-◌, ◌*◌, ◌/◌, ◌%◌, ◌==◌, ◌&&◌, nat_lt, nat_le, nat_eq, Bool, true, false, if◌then◌else◌, pos, List, [], ◌∷◌, length, Option, Some, None}
use Rattle.std.specs.List.{list_any}
use Rattle.b67_num.specs.declared.FaultKind.TheVariants.{CriticalBlockExit}
use Rattle.b67_word.specs.declared.Place.{Place}
use Rattle.b67_word.specs.Word.{Word, operand}
use Rattle.b67_control.specs.declared.Registers.{Registers}
use Rattle.b67_control.specs.declared.Rcw.{Rcw}
use Rattle.b67_control.specs.declared.Pcw.{Pcw}
use Rattle.b67_control.specs.declared.Descriptor.{Descriptor}
use Rattle.b67_control.specs.Control.{mscw_word, rcw_word, as_rcw, as_descriptor}
use Rattle.b67_store.specs.Store.{Row, row_words_or}
use Rattle.b67_events.specs.Events.{same_place}
use Rattle.b67_table.specs.declared.Below.{Below}
use Rattle.b67_table.specs.declared.Entry.{Entry}
use Rattle.b67_table.specs.declared.Leaving.{Leaving}
use Rattle.b67_table.specs.declared.InterruptKind.TheVariants.{BadCode}
use Rattle.b67_table.specs.Private.{frame}
use Rattle.b67_table.specs.Limits.{end_of_code, most_cells}
use Rattle.b67_table.specs.Look.{Look, found, stops, at, ◌>->◌, read_as}
use Rattle.b67_table.specs.Chains.{place, linked, rebuilt, left_to}
use Rattle.b67_table.specs.References.{invalid}
use Rattle.b67_deeds.specs.declared.EventAct.TheVariants as act
use Rattle.b67_deeds.specs.Deeds.{acts}
use Rattle.b67_table.specs.Program.{answer, fault, loads, criticals, ◌>>=◌, see, Change, done, save, cut, push, registers, row_of, close_row, close_events, event_deed, end_process, Program}
use Rattle.b67_table.specs.Moves.{pushed}

-- ---- entry

-- a place of a segment
abbrev pub code_place : ℕ → ℕ → ℕ
code_place psr pir = 6 * pir + psr

-- the control word of an entered frame of this level: where its caller goes on, and the caller's level and cells
abbrev pub control_word : Registers → ℕ → ℕ → Word
control_word r next level =
    rcw_word (record { segment = r.segment; psr = next % 6; pir = next / 6; caller_level = r.ll; caller_cells = r.cells; own_level = level })

-- the control word of a frame of this level without a caller
abbrev pub base_control : ℕ → Word
base_control own = rcw_word (record { segment = 0; psr = 0; pir = 0; caller_level = 0; caller_cells = 0; own_level = own })

-- a mark that is entered, and linked to its home
abbrev pub entered_mark : Place → ℕ → Word
entered_mark home df = mscw_word (record { entered = true; stack = home.stack; displacement = home.at; df = df })

-- a control word can hold the place after the operator
abbrev pub if_returnable : {A : Type 0} → ℕ → Look A → Look A
if_returnable next more = if nat_lt next end_of_code then more else stops BadCode

abbrev pub if_fits : {A : Type 0} → Bool → Look A → Look A
if_fits fits more = if fits then more else invalid

-- home is a frame, of a level from 2 on, one below the procedure's
abbrev pub is_home : Option Rcw → ℕ → Bool
is_home None level = false
is_home (Some c) level = c.own_level + 1 == level && nat_le 2 c.own_level

abbrev pub if_home : {A : Type 0} → Option Place → ℕ → (Place → Look A) → Look A
if_home None level more = invalid
if_home (Some home) level more =
    at (place home.stack (home.at + 1)) (λ (w : Option Word). if_fits (is_home (read_as as_rcw w) level) (more home))

-- the tests of an entry at a mark: the place after the operator, whether the frame fits, home, and the links from there
abbrev pub entering : Registers → ℕ → Bool → ℕ → Pcw → Option Place → Look Entry
entering r next fits mark pcw home =
    if_returnable next (if_fits fits (if_home home pcw.level (λ (h : Place).
    linked (place r.stack mark) h pcw.level >-> (λ (display : List (Option Place)). found (record { home = h; display = display })))))

-- the registers in a frame of this procedure that was entered at a mark
abbrev pub entered : Registers → ℕ → ℕ → Pcw → Entry → ℕ → Registers
entered r s mark pcw e cells =
    record r { s = s; f = mark; ll = pcw.level; display = e.display; cells = cells; segment = pcw.segment; place = code_place pcw.psr pcw.pir }

-- entry at the mark at F, which has this distance to the one below
abbrev pub entry : Registers → ℕ → ℕ → Pcw → Option Place → Program
entry r next df pcw home =
    see (entering r next (nat_le (r.s - (r.f + 2)) most_cells) r.f pcw home) >>= (λ (e : Entry).
    answer (save (place r.stack r.f) (entered_mark e.home df) (save (place r.stack (r.f + 1)) (control_word r next pcw.level)
    (registers (entered r r.s r.f pcw e (r.s - (r.f + 2))) done))))

-- the selector, where the procedure has names
abbrev pub selected : Bool → ℕ → List Word
selected false selector = []
selected true selector = operand (pos selector) ∷ []

-- accidental entry, with a selector, after so many words on top are taken off; the procedure lies in the frame home
abbrev pub accidental : Registers → ℕ → ℕ → Pcw → Place → ℕ → Program
accidental r next taken pcw home selector =
    let mark = r.s - taken in
    let selectors = selected pcw.names selector in
    see (entering r next (nat_lt r.f mark) mark pcw (Some home)) >>= (λ (e : Entry).
    answer (cut r.stack mark (push r.stack (entered_mark e.home (mark - r.f)) (push r.stack (control_word r next pcw.level)
    (pushed r.stack selectors (registers (entered r (mark + 2 + length selectors) mark pcw e 0) done))))))

-- ---- rows of a frame's cells

abbrev pub closed_by : Option Descriptor → (Descriptor → Change → Change) → Change → Change
closed_by None closes next = next
closed_by (Some d) closes next = if d.copy then next else closes d next

-- the rows that words describe are closed
abbrev pub rows_closed : List Word → Change → Change
rows_closed [] next = next
rows_closed (w ∷ words) next = closed_by (as_descriptor w) (λ d more. close_row d.address more) (rows_closed words next)

-- the row of a descriptor is closed; before a mother's row, those of the descriptors in it
abbrev pub array_closed : Descriptor → Change → Change
array_closed d next =
    if d.mother then row_of d.address (λ (row : Option Row). rows_closed (row_words_or row) (close_row d.address next)) else close_row d.address next

abbrev pub arrays_closed : List Word → Change → Change
arrays_closed [] next = next
arrays_closed (w ∷ words) next = closed_by (as_descriptor w) array_closed (arrays_closed words next)

-- ---- leaving

-- no live process has one of these frames of a stack as its critical place
abbrev pub is_critical : ℕ → List ℕ → List Place → Bool
is_critical stack frames places = list_any (λ (f : ℕ). list_any (same_place (place stack f)) places) frames

abbrev pub if_not_critical : ℕ → List ℕ → Program → Program
if_not_critical stack frames next = criticals (λ (places : List Place). if is_critical stack frames places then fault CriticalBlockExit else next)

-- a frame of a stack with these cells is left
abbrev pub frame_left : ℕ → ℕ → List Word → Change → Change
frame_left stack f cells next = arrays_closed cells (close_events stack f next)

-- the tests of leaving a frame that is not the base frame
abbrev pub leaving : Place → Look Leaving
leaving f =
    left_to f >-> (λ (b : Below). rebuilt (place f.stack b.frame) b.control.caller_level >-> (λ (display : List (Option Place)).
    found (record { below = b; display = display })))

-- the registers after a frame was left
abbrev pub registers_left : Registers → ℕ → ℕ → Leaving → Registers
registers_left r s f l =
    record r {
      s = s;
      f = l.below.mark;
      ll = l.below.control.caller_level;
      display = l.display;
      cells = l.below.control.caller_cells;
      segment = l.below.control.segment;
      place = code_place l.below.control.psr l.below.control.pir;
    }

-- the base frame is left, and the process has ended
abbrev pub caused_by : Option Place → Change → Change
caused_by None next = next
caused_by (Some task) next = event_deed (acts act.Cause) task next

abbrev pub leave_base : Registers → List Word → ℕ → Program
leave_base r cells next =
    if_not_critical r.stack (0 ∷ []) (answer (frame_left r.stack 0 cells (registers (record r { place = next }) (caused_by r.task (end_process r.stack done)))))

-- another frame is left, and these words stand in its place
abbrev pub leave_other : Registers → List Word → ℕ → List Word → Program
leave_other r cells f words =
    see (leaving (place r.stack f)) >>= (λ (l : Leaving). if_not_critical r.stack (f ∷ [])
    (answer (frame_left r.stack f cells (cut r.stack f (pushed r.stack words (registers (registers_left r (f + length words) f l) done))))))

abbrev pub frame_cells : Registers → (List Word → Program) → Program
frame_cells r next = loads (place r.stack (frame r + 2)) r.cells next

-- the frame is left
abbrev pub leave : Registers → ℕ → List Word → Program
leave r next words =
    frame_cells r (λ (cells : List Word). if nat_eq (frame r) 0 then leave_base r cells next else leave_other r cells (frame r) words)
