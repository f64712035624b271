-- EXIT of a base frame.
use Rattle.b67_deeds.specs.declared.EventAct.TheVariants as event_act
use Rattle.b67_deeds.specs.Deeds.{acts}
use Rattle.std.proofs.Common.{◌≡◌, refl, ap, ◌∙◌, ℕ, ◌+◌, List, [], ◌∷◌, ◌++◌, length, take, drop, Option, Some, None, Bool, false}
use Rattle.b67_list.proofs.Lists.{take_front}
use Rattle.b67_frames.proofs.Prelude.{if◌then◌else◌, nat_eq, reverse, set_numbered, CriticalBlockExit, Cell, simple, event, array, named, reference, NamedCell, Word, Place, as_descriptor, Pcw, Registers, Code, Rows, words_of, closed_at, closed_from, Effect, gives, Image, with_rows, arrays_closed, caused_by, frame_left, is_critical, leave_base, leave_other, frame, Program, Change, done, event_deed, changed, does, effect_of, asked, answer, fault, registers, end_process, close_events, live_criticals, exit, raw, Simple, Wanted, control_words, AtOperator, raw_is, words_are, value_tag, CellIs, CellsAre}
use Rattle.b67_deeds.specs.declared.Letter.TheVariants as act
use Rattle.b67_ops.specs.declared.Operator.TheVariants as ops
use Rattle.b67_ops.specs.declared.PlainKind.TheVariants as kinds
use Rattle.b67_table.specs.declared.Class.TheVariants as classes
use Rattle.b67_table.specs.declared.ProcessState.TheVariants.{Ended}
use Rattle.b67_table.specs.Outcome as outcomes
use Rattle.b67_table.specs.Rows.{row}
use Rattle.b67_table.specs.Table.{table, class_at}
use Rattle.b67_templates.specs.Cells as wants
use Rattle.b67_letters.specs.Letters.{left_letter, letter}
use Rattle.b67_rows.proofs.Rows.{action_is}
use Rattle.b67_rows.proofs.Words.{no_descriptor, pcw_describes_nothing}

-- ---- the cells of a frame describe no rows

abbrev pub DescribeNothing : List Word → Type 0
DescribeNothing [] = Unit {0}
DescribeNothing (w ∷ words) = (as_descriptor w ≡ None) × DescribeNothing words

cell_describes_nothing : (o : Wanted) (c : Cell) (w : Word) → CellIs o c w → as_descriptor w ≡ None
cell_describes_nothing (wants.value k) (simple v) w is = no_descriptor w (value_tag v w is.1)
cell_describes_nothing (wants.value k) (event e) w is = absurd is
cell_describes_nothing (wants.value k) (array a) w is = absurd is
cell_describes_nothing (wants.value k) (named n) w is = absurd is
cell_describes_nothing (wants.value k) (reference r) w is = absurd is
cell_describes_nothing (wants.array shape) (simple v) w is = absurd is
cell_describes_nothing (wants.array shape) (event e) w is = absurd is
cell_describes_nothing (wants.array shape) (array a) w is = absurd is
cell_describes_nothing (wants.array shape) (named n) w is = absurd is
cell_describes_nothing (wants.array shape) (reference r) w is = is
cell_describes_nothing wants.event (reference r) w is = is
cell_describes_nothing (wants.by_name kind) (simple v) w is = absurd is
cell_describes_nothing (wants.by_name kind) (event e) w is = absurd is
cell_describes_nothing (wants.by_name kind) (array a) w is = absurd is
cell_describes_nothing (wants.by_name kind) (named n) w is = is
cell_describes_nothing (wants.by_name kind) (reference r) w is = is
cell_describes_nothing _ c w is = absurd is

pub cells_describe_nothing : (ss : List Simple) (cells : List NamedCell) (words : List Word) → CellsAre ss cells words → DescribeNothing words
cells_describe_nothing [] [] [] are = tt
cells_describe_nothing [] [] (w ∷ words) are = absurd are
cells_describe_nothing [] (c ∷ cells) words are = absurd are
cells_describe_nothing (s ∷ ss) [] words are = absurd are
cells_describe_nothing (s ∷ ss) (c ∷ cells) [] are = absurd are
cells_describe_nothing (s ∷ ss) (c ∷ cells) (w ∷ words) are = (cell_describes_nothing s.wanted c.cell w are.1, cells_describe_nothing ss cells words are.2)

-- nor do control words
pub controls_describe_nothing : (pcws : List Pcw) → DescribeNothing (control_words pcws)
controls_describe_nothing [] = tt
controls_describe_nothing (c ∷ pcws) = (pcw_describes_nothing c, controls_describe_nothing pcws)

-- ---- the row

-- the image in which a process has ended: its stack and its events are closed, and with these rows
abbrev pub ended_at : Image → Rows → ℕ → Registers → Image
ended_at img rows p r =
    record img {
      rows = rows;
      stacks = closed_at img.stacks r.stack;
      events = closed_from r.stack 0 img.events;
      regs = set_numbered img.regs p r;
      states = set_numbered img.states p Ended;
    }

module _ (code : Code) (here : AtOperator code (ops.Plain kinds.Exit)) (mark control : Word) (cells : List Word) (below : here.core.below ≡ mark ∷ control ∷ cells) (counted : here.core.registers.cells ≡ length cells)
    (base : frame here.core.registers ≡ 0) (rows : Rows) (closed : (q : ℕ) (more : Change) → changed q (arrays_closed cells more) here.img ≡ changed q more (with_rows here.img rows))
    (free : is_critical here.core.registers.stack (0 ∷ []) (live_criticals here.img.states here.img.regs) ≡ false) where
  open here use {img, p, core, has, next}

  abbrev r : Registers
  r = core.registers

  abbrev pub left : Registers
  left = record r { place = next }

  abbrev tested : Program → Effect Image
  tested t = effect_of p img (asked img t)

  -- what is done with the words of the cells
  abbrev left_with : ℕ → List Word → Program
  left_with f ws = if nat_eq f 0 then leave_base r ws next else leave_other r ws f []

  abbrev ends : List Word → Change
  ends ws = frame_left r.stack 0 ws (registers left (caused_by r.task (end_process r.stack done)))

  whole : words_of img.stacks r.stack ≡ (mark ∷ control ∷ cells) ++ reverse core.words
  whole = words_are img p core has ∙ ap (λ (ws : List Word). ws ++ reverse core.words) below

  cells_there : take r.cells (drop (0 + 2) (words_of img.stacks r.stack)) ≡ cells
  cells_there =
      ap (λ (ws : List Word). take r.cells (drop (0 + 2) ws)) whole
      ∙ take_front cells (reverse core.words) r.cells counted

  -- what it comes to: with a task, its event is caused
  exit_does : does p (exit r next) img ≡ gives (changed p (close_events r.stack 0 (registers left (caused_by core.registers.task (end_process r.stack done)))) (with_rows img rows))
  exit_does =
      ap (λ (f : ℕ). tested (left_with f (take r.cells (drop (f + 2) (words_of img.stacks r.stack))))) base
      ∙ ap (λ (ws : List Word). tested (leave_base r ws next)) cells_there
      ∙ ap (λ (b : Bool). tested (if b then fault CriticalBlockExit else answer (ends cells))) free
      ∙ ap gives (closed p (close_events r.stack 0 (registers left (caused_by r.task (end_process r.stack done)))))

  exit_ends : raw code img p ≡ gives (changed p (close_events r.stack 0 (registers left (caused_by core.registers.task (end_process r.stack done)))) (with_rows img rows))
  unfolding row
  exit_ends = raw_is code (ops.Plain kinds.Exit) here ∙ exit_does

  -- without a task
  pub exit_raw : core.registers.task ≡ None → raw code img p ≡ gives (ended_at img rows p left)
  exit_raw idle = exit_ends ∙ ap (λ (t : Option Place). gives (changed p (close_events r.stack 0 (registers left (caused_by t (end_process r.stack done)))) (with_rows img rows))) idle

  -- with one
  pub exit_causes : (task : Place) → core.registers.task ≡ Some task → raw code img p ≡ gives (changed p (close_events r.stack 0 (registers left (event_deed (acts event_act.Cause) task (end_process r.stack done)))) (with_rows img rows))
  exit_causes task tasked = exit_ends ∙ ap (λ (t : Option Place). gives (changed p (close_events r.stack 0 (registers left (caused_by t (end_process r.stack done)))) (with_rows img rows))) tasked

  pub exit_class : class_at (ops.Plain kinds.Exit) r.place ≡ classes.Action
  unfolding class_at row
  exit_class = refl

  pub exit_action : (after : Image) → table code img p ≡ outcomes.gives after → letter code img p ≡ Some act.End
  exit_action after t =
      action_is code (ops.Plain kinds.Exit) here (outcomes.gives after) t
      ∙ ap (λ (f : ℕ). Some ((left_letter f))) base
