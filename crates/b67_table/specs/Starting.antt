-- START: a process of its own for a procedure.
use Rattle.std.specs.Prelude.{ℕ, zero, suc, ◌+◌, nat_lt, nat_le, nat_eq, Bool, if◌then◌else◌, ℤ, pos, List, [], ◌∷◌, length, Option, Some, None}
use Rattle.std.specs.List.{list_any}
use Rattle.b67_num.specs.declared.FaultKind.TheVariants.{ProcessLimit}
use Rattle.b67_word.specs.declared.Place.{Place}
use Rattle.b67_word.specs.Word.{Word, as_whole}
use Rattle.b67_control.specs.declared.Registers.{Registers}
use Rattle.b67_control.specs.declared.Pcw.{Pcw}
use Rattle.b67_control.specs.declared.Sirw.{Sirw}
use Rattle.b67_control.specs.Control.{as_pcw, as_sirw}
use Rattle.b67_events.specs.Events.{same_place}
use Rattle.b67_table.specs.declared.InterruptKind.TheVariants.{BrokenChain}
use Rattle.b67_table.specs.declared.Cell.{Cell}
use Rattle.b67_table.specs.declared.Reached.{Reached}
use Rattle.b67_table.specs.Limits.{most_cells, most_processes}
use Rattle.b67_table.specs.Private.{frame}
use Rattle.b67_table.specs.Look.{Look, valid}
use Rattle.b67_table.specs.Chains.{place, chain_broken, frame_below, linked}
use Rattle.b67_table.specs.References.{cell_place, cell_of, reached}
use Rattle.b67_table.specs.Program.{Test, answer, interrupt, fault, critical, started, ◌>>=◌, see, change_start}
use Rattle.b67_table.specs.Linkage.{code_place, entered_mark, base_control}
use Rattle.b67_table.specs.Arguments.{IntrinsicRow, no_such, event_of, if_chained, finished_at}

abbrev pub task_in : Option ℤ → Registers → Word → Test (Option Cell)
task_in (Some (pos zero)) r w = answer None
task_in z r w = event_of r w >>= (λ (c : Cell). answer (Some c))

-- the cell of a task's event, or none for the operand 0
abbrev pub task_of : Registers → Word → Test (Option Cell)
task_of r w = task_in (as_whole w) r w

abbrev pub place_of : Option Cell → Option Place
place_of None = None
place_of (Some c) = Some (cell_place c)

abbrev pub frames_with : Option Cell → List Place → List Place
frames_with None places = places
frames_with (Some c) places = c.frame ∷ places

abbrev pub sirw_frame : Option Sirw → List Place → List Place
sirw_frame None places = places
sirw_frame (Some s) places = place s.stack s.displacement ∷ places

-- the frames that SIRWs among these words name
abbrev pub named_frames : List Word → List Place
named_frames [] = []
named_frames (w ∷ words) = sirw_frame (as_sirw w) (named_frames words)

abbrev pub is_among : List Place → Place → Bool
is_among places f = list_any (same_place f) places

-- the first of the wanted frames down a stack from this one, in at most so many steps; where there is none, the rest of the path
abbrev pub down : ℕ → List Place → Place → Test (Option Place) → Test (Option Place)
down zero wanted f rest = interrupt BrokenChain
down (suc steps) wanted f rest =
    if is_among wanted f then answer (Some f)
    else if nat_eq f.at 0 then rest
    else see (frame_below f) >>= (λ (lower : Place). down steps wanted lower rest)

abbrev pub or_none : Option Place → (Place → Test (Option Place)) → Test (Option Place)
or_none None next = answer None
or_none (Some f) next = next f

-- the first of the wanted frames on a path, over at most so many stacks
abbrev pub on_path : ℕ → List Place → Place → Test (Option Place)
on_path zero wanted f = answer None
on_path (suc stacks) wanted f =
    down (f.at + 1) wanted f (critical f.stack (λ (c : Option Place). or_none c (λ (lower : Place). on_path stacks wanted lower)))

-- what START is given: the procedure, the frame in which it lies, its task, and its parameters
pub record Starting : Type 0 where
  pub procedure : Pcw
  pub home : Place
  pub task : Option Cell
  pub parameters : List Word

abbrev pub if_few : List Word → Test Starting → Test Starting
if_few parameters next = if nat_le (length parameters) most_cells then next else no_such

abbrev pub starting : Registers → List Word → Test Starting
starting r [] = no_such
starting r (procedure ∷ []) = no_such
starting r (procedure ∷ task ∷ parameters) =
    see (reached (cell_of r procedure)) >>= (λ (w : Reached). see (valid (as_pcw w.word)) >>= (λ (pcw : Pcw). task_of r task >>= (λ (c : Option Cell).
    if_few parameters (answer (record { procedure = pcw; home = w.cell.frame; task = c; parameters = parameters })))))

-- the display of a process of this number; an intrinsic can not be started
abbrev pub first_display : ℕ → Starting → Look (List (Option Place))
first_display number t = if t.procedure.intrinsic then chain_broken else linked (place number 0) t.home t.procedure.level

abbrev pub first_words : Starting → List Word
first_words t =
    entered_mark t.home 0 ∷ base_control t.procedure.level ∷ t.parameters

abbrev pub process_begun : ℕ → Starting → List (Option Place) → Option Place → Registers
process_begun number t display depends =
    record {
      stack = number;
      s = length t.parameters + 2;
      f = 0;
      ll = t.procedure.level;
      display = display;
      cells = length t.parameters;
      segment = t.procedure.segment;
      place = code_place t.procedure.psr t.procedure.pir;
      task = place_of t.task;
      critical = depends;
    }

abbrev pub start_process : IntrinsicRow
start_process code r next m words =
    starting r words >>= (λ (t : Starting). if_chained r m (started (λ (n : ℕ). see (first_display (n + 1) t) >>= (λ (display : List (Option Place)).
    on_path r.stack (t.home ∷ frames_with t.task (named_frames t.parameters)) (place r.stack (frame r)) >>= (λ (c : Option Place).
    if nat_lt n most_processes then answer (change_start (process_begun (n + 1) t display c) (first_words t) (finished_at r m [] next)) else fault ProcessLimit)))))
