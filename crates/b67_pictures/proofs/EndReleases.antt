-- EXIT of the base frame of a process with a task: what it comes to, and whom it releases.
use Rattle.std.proofs.Common.{◌≡◌, refl, ap, ◌∙◌, ℕ, ◌+◌, List, [], ◌∷◌, ◌++◌, length, take, drop, Option, Some, Bool, false, append-nil}
use Rattle.b67_list.proofs.Lists.{take_front}
use Rattle.b67_pictures.proofs.Prelude.{if◌then◌else◌, reverse, numbered, set_numbered, caused, Word, Place, Registers, Code, Rows, words_of, Event, closed_from, waiters_at, event_changed, with_state, unlisted, gives, Image, with_rows, arrays_closed, is_critical, frame, Program, Change, asked, answer, live_criticals, able_again, told_positions, Ended, registers_releases, Core, AtOperator, words_are, ended_at}
use Rattle.std.specs.Prelude.{nat_eq}
use Rattle.b67_num.specs.declared.FaultKind.TheVariants.{CriticalBlockExit}
use Rattle.b67_ops.specs.declared.Operator.TheVariants as ops
use Rattle.b67_ops.specs.declared.PlainKind.TheVariants as kinds
use Rattle.b67_events.specs.Events.{withdrawn}
use Rattle.b67_table.specs.Linkage.{caused_by, frame_left, leave_base, leave_other}
use Rattle.b67_table.specs.Program.{done, changed, fault, registers, end_process, close_events}
use Rattle.b67_table.specs.Questions.{told}
use Rattle.b67_table.specs.Questions as questions
use Rattle.b67_table.specs.Rows.{row, exit}
use Rattle.b67_table.specs.Table.{raw}
use Rattle.b67_table.specs.Writes.{write_made}
use Rattle.b67_table.specs.Writes as writes
use Rattle.b67_letters.proofs.Calm.{arrays_have}
use Rattle.b67_letters.specs.Releases.{change_releases, effect_releases, fetched_releases}
use Rattle.b67_frames.proofs.ExitRow.{exit_causes}

-- What EXIT finds at the last frame of a process that has a task.
pub record ExitsLast (img : Image) (core : Core) : Type 0 where
  pub mark : Word
  pub control : Word
  pub cells : List Word
  pub below : core.below ≡ mark ∷ control ∷ cells
  pub counted : core.registers.cells ≡ length cells
  pub base : frame core.registers ≡ 0
  pub rows : Rows
  pub closed : (q : ℕ) (more : Change) → changed q (arrays_closed cells more) img ≡ changed q more (with_rows img rows)
  pub free : is_critical core.registers.stack (0 ∷ []) (live_criticals img.states img.regs) ≡ false
  pub task : Place
  pub tasked : core.registers.task ≡ Some task

module _ (code : Code) (here : AtOperator code (ops.Plain kinds.Exit)) (exits : ExitsLast here.img here.core) where
  open here use {img, p, core, has, next, there as at}
  open exits use {mark, control, cells, below, counted, base, rows, closed, free, task, tasked}

  abbrev r : Registers
  r = core.registers

  abbrev left : Registers
  left = record r { place = next }

  -- the image in which it has ended, its task's event is caused, and who waited for that waits for nothing
  abbrev pub caused_at : Image
  caused_at =
      record (ended_at img rows p (record core.registers { place = next })) {
        events = withdrawn (waiters_at task (closed_from core.registers.stack 0 img.events)) (event_changed task (with_state caused) (closed_from core.registers.stack 0 img.events));
        lists = unlisted (waiters_at task (closed_from core.registers.stack 0 img.events)) img.lists;
        states = set_numbered (able_again (waiters_at task (closed_from core.registers.stack 0 img.events)) img.states) p Ended;
        numbers = told_positions task img.lists (waiters_at task (closed_from core.registers.stack 0 img.events)) img.numbers;
      }

  pub caused_raw : raw code img p ≡ gives caused_at
  caused_raw = exit_causes code here mark control cells below counted base rows closed free task tasked

  -- ---- whom it releases

  abbrev left_with : ℕ → List Word → Program
  left_with f ws = if nat_eq f 0 then leave_base r ws next else leave_other r ws f []

  abbrev last : Option Place → Change
  last t = close_events r.stack 0 (registers left (caused_by t (end_process r.stack done)))

  cells_there : take r.cells (drop (0 + 2) (words_of img.stacks r.stack)) ≡ cells
  cells_there =
      ap (λ (ws : List Word). take r.cells (drop (0 + 2) ws)) (words_are img p core has ∙ ap (λ (ws : List Word). ws ++ reverse core.words) below)
      ∙ take_front cells (reverse core.words) r.cells counted

  exit_asked : asked img (exit r next) ≡ gives (arrays_closed cells (last (Some task)))
  exit_asked =
      ap (λ (f : ℕ). asked img (left_with f (take r.cells (drop (f + 2) (words_of img.stacks r.stack))))) base
      ∙ ap (λ (ws : List Word). asked img (leave_base r ws next)) cells_there
      ∙ ap (λ (b : Bool). asked img (if b then fault CriticalBlockExit else answer (frame_left r.stack 0 cells (registers left (caused_by r.task (end_process r.stack done)))))) free
      ∙ ap (λ (t : Option Place). gives (arrays_closed cells (last t))) tasked

  -- rows that are closed release nobody, and leave the events
  abbrev Releases : Change → Type 0
  Releases c = (i : Image) → i.events ≡ img.events → change_releases p c i ≡ waiters_at task (closed_from r.stack 0 img.events)

  last_releases : Releases (last (Some task))
  last_releases i same =
      append-nil (waiters_at task (closed_from r.stack 0 i.events))
      ∙ ap (λ (events : List Event). waiters_at task (closed_from r.stack 0 events)) same

  end_change : change_releases p (arrays_closed cells (last (Some task))) img ≡ waiters_at task (closed_from r.stack 0 img.events)
  end_change =
      arrays_have Releases (λ n more j i same. j (write_made p (writes.close_row n) i) same) (λ n more j i same. j (told i (questions.row n)) i same) cells (last (Some task)) last_releases img refl

  pub end_releases : registers_releases code img p (numbered img.regs p) ≡ waiters_at task (closed_from core.registers.stack 0 img.events)
  unfolding row
  end_releases =
      ap (registers_releases code img p) has.registers
      ∙ ap (fetched_releases code img p core.registers) at
      ∙ ap (effect_releases p img) exit_asked
      ∙ end_change
