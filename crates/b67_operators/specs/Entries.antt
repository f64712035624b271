-- Accidental entry, in parts.
use Rattle.std.specs.Prelude.{◌≡◌, ℕ, ◌+◌, ◌-◌, false, length, Option, Some, None, Ok}
use Rattle.b67_word.specs.Word.{Word}
use Rattle.b67_control.specs.declared.Mscw.{Mscw}
use Rattle.b67_control.specs.Control.{as_pcw}
use Rattle.b67_table.specs.declared.Cell.{Cell}
use Rattle.b67_table.specs.declared.Reached.{Reached}
use Rattle.b67_table.specs.Chains.{place}
use Rattle.b67_store.specs.Store.{Stacks}
use Rattle.b67_table.specs.Look.{Look, found, at, ◌>->◌, valid, look_seen}
use Rattle.b67_table.specs.References.{cell_of, reached}
use Rattle.b67_table.specs.Image.{Image}
use Rattle.b67_segment.specs.declared.code.Code.{Code}
use Rattle.b67_table.specs.Rows.{enter, enter_procedure, marked, level_below}
use Rattle.b67_operators.specs.declared.calling.Called.{Called}
use Rattle.b67_control.specs.declared.Registers.{Registers}
use Rattle.b67_control.specs.declared.Pcw.{Pcw}
use Rattle.b67_table.specs.declared.Entry.{Entry}
use Rattle.b67_table.specs.declared.InterruptKind.TheVariants as interrupts
use Rattle.b67_table.specs.Linkage.{entered_mark, control_word, selected, entered}
use Rattle.b67_table.specs.Moves.{pushed}
use Rattle.b67_table.specs.Program.{Change, done, cut, push, save, registers, Program, does, see, ◌>>=◌}
use Rattle.b67_linkage.specs.declared.LinkFault.{LinkFault}
use Rattle.b67_linkage.specs.declared.LinkFault.TheVariants as links
use Rattle.b67_reach.specs.Answers.{looked}
use Rattle.b67_reach.specs.declared.Stop.{Stop}
use Rattle.b67_reach.specs.declared.Stop.TheVariants.{Interrupt, StackLimit}

-- what stops an operator where a call of the linkage was refused
abbrev pub stop_by : LinkFault → Stop
stop_by links.InvalidOperand = Interrupt interrupts.InvalidOperand
stop_by links.StackUnderflow = Interrupt interrupts.StackUnderflow
stop_by links.StackLimit = StackLimit
stop_by links.BrokenChain = Interrupt interrupts.BrokenChain

-- the change of an accidental entry at a mark
abbrev pub accident : Registers → ℕ → ℕ → Pcw → Entry → ℕ → Change
accident r next mark pcw e selector =
    cut r.stack mark (push r.stack (entered_mark e.home (mark - r.f)) (push r.stack (control_word r next pcw.level)
    (pushed r.stack (selected pcw.names selector) (registers (entered r (mark + 2 + length (selected pcw.names selector)) mark pcw e 0) done))))

-- ---- entry at the mark at F

-- the change of an entry at the mark at F
abbrev pub entry_opening : Registers → ℕ → ℕ → Pcw → Entry → Change
entry_opening r next df pcw e =
    save (place r.stack r.f) (entered_mark e.home df) (save (place r.stack (r.f + 1)) (control_word r next pcw.level)
    (registers (entered r r.s r.f pcw e (r.s - (r.f + 2))) done))

-- the mark at F, the PCW above it or that the word above it reaches, and its home
abbrev pub called_by : Registers → Mscw → Word → Option Cell → Look Called
called_by r m w None = valid (as_pcw w) >-> (λ (pcw : Pcw). found (record { mark = m; pcw = pcw; home = level_below r pcw.level }))
called_by r m w (Some c) =
    reached (Some c) >-> (λ (v : Reached). valid (as_pcw v.word) >-> (λ (pcw : Pcw). found (record { mark = m; pcw = pcw; home = Some v.cell.frame })))

abbrev pub procedure_called : Registers → Look Called
procedure_called r =
    marked r >-> (λ (m : Mscw). at (place r.stack (r.f + 1)) (λ (w : Option Word). valid w) >-> (λ (above : Word). called_by r m above (cell_of r above)))

-- what is called is a procedure, and no intrinsic
abbrev pub CallsProcedure : Stacks → Registers → Type 0
CallsProcedure stacks r = (c : Called) × (Ok c ≡ looked (look_seen stacks (procedure_called r))) × (c.pcw.intrinsic ≡ false)

-- what ENTR does with what it calls: an intrinsic, or an entry
abbrev pub enter_called : Code → Registers → ℕ → Called → Program
enter_called code r next c = enter_procedure code r next c.mark c.pcw c.home

-- ENTR first looks at what it calls, and then does that
abbrev pub EntersWhatItCalls : Type 0
EntersWhatItCalls =
    (code : Code) (r : Registers) (next p : ℕ) (img : Image) → does p (enter code r next) img ≡ does p (see (procedure_called r) >>= enter_called code r next) img
