-- The letter of an operator: which action it is, by what its row finds.
use Rattle.std.specs.Prelude.{ℕ, zero, suc, ◌+◌, nat_lt, nat_eq, if◌then◌else◌, Option, Some, None, Result, Ok, Err}
use Rattle.b67_list.specs.Numbered.{numbered}
use Rattle.b67_word.specs.Word.{Word}
use Rattle.b67_control.specs.declared.Registers.{Registers}
use Rattle.b67_control.specs.declared.Pcw.{Pcw}
use Rattle.b67_control.specs.declared.Descriptor.{Descriptor}
use Rattle.b67_control.specs.Control.{as_pcw}
use Rattle.b67_ops.specs.declared.Operator.{Operator}
use Rattle.b67_ops.specs.declared.Operator.TheVariants as ops
use Rattle.b67_ops.specs.declared.PlainKind.{PlainKind}
use Rattle.b67_ops.specs.declared.PlainKind.TheVariants as kinds
use Rattle.b67_ops.specs.declared.BadCode.{BadCode}
use Rattle.b67_ops.specs.declared.intrinsic.Intrinsic.{Intrinsic}
use Rattle.b67_ops.specs.declared.intrinsic.Intrinsic.TheVariants as names
use Rattle.b67_segment.specs.declared.code.Code.{Code}
use Rattle.b67_table.specs.declared.Cell.{Cell}
use Rattle.b67_table.specs.declared.Reached.{Reached}
use Rattle.b67_table.specs.declared.InterruptKind.{InterruptKind}
use Rattle.b67_table.specs.Arrays.{as_indexed}
use Rattle.b67_table.specs.Chains.{place}
use Rattle.b67_table.specs.Image.{Image, woken_number}
use Rattle.b67_table.specs.Look.{Look, at, ◌>->◌, valid, look_seen}
use Rattle.b67_table.specs.Names.{intrinsic_numbered}
use Rattle.b67_table.specs.Outcome.{Outcome, gives, faults, interrupts, limit}
use Rattle.b67_table.specs.Private.{frame}
use Rattle.b67_table.specs.References.{couple_cell, cell_of, reached, popped, Two, popped_two}
use Rattle.b67_table.specs.Table.{table, operator_at}
use Rattle.b67_deeds.specs.declared.Letter.{Letter}
use Rattle.b67_deeds.specs.declared.Letter.TheVariants.{Read, Index, ElementRead, Resolve, Store, ElementStore, Pass, Enter, Leave, MakeArrays, MakeEvent, Select, Turn, GoTo, Line, Start, End, Fault, Woke}
use Rattle.b67_deeds.specs.declared.EventAct.TheVariants as act
use Rattle.b67_deeds.specs.declared.EventTest.TheVariants as test
use Rattle.b67_deeds.specs.Deeds as deeds

-- ---- by what is found

-- a letter by what is found; where a look is stopped, there is none
abbrev pub told_by : {A : Type 0} → (A → Option Letter) → Result A InterruptKind → Option Letter
told_by letter_for (Ok a) = letter_for a
told_by letter_for (Err kind) = None

-- a procedure that is reached is entered
abbrev pub entered_or : Letter → Option Pcw → Letter
entered_or other None = other
entered_or other (Some pcw) = Enter

-- what is reached for its value, and what is reached for its place
abbrev pub value_letter : Reached → Option Letter
value_letter w = Some (entered_or Read (as_pcw w.word))

abbrev pub place_letter : Reached → Option Letter
place_letter w = Some (entered_or Resolve (as_pcw w.word))

-- an indexed descriptor leads to an element, and a reference to a variable
abbrev pub element_or_not : Letter → Letter → Option Descriptor → Letter
element_or_not element variable None = variable
element_or_not element variable (Some d) = element

abbrev pub loaded_letter : Word → Option Letter
loaded_letter x = Some (element_or_not ElementRead Read (as_indexed x))

abbrev pub stored_letter : Two → Option Letter
stored_letter t = Some (element_or_not ElementStore Store (as_indexed t.y))

-- the base frame is left at the end of the process
abbrev pub left_letter : ℕ → Letter
left_letter frame_at = if nat_eq frame_at 0 then End else Leave

-- ---- what ENTR calls

-- a process that was released from a wait for several events goes on by its woken number
abbrev pub wait_letter : ℕ → Letter
wait_letter zero = deeds.letter_of (deeds.tests test.WaitAny)
wait_letter (suc n) = Woke

-- the letter of an intrinsic of a process with this woken number
abbrev pub letter_of : ℕ → Intrinsic → Letter
letter_of woken names.GoTo = GoTo
letter_of woken names.Select = Select
letter_of woken names.Arrays = MakeArrays
letter_of woken names.Event = MakeEvent
letter_of woken names.Start = Start
letter_of woken names.Write = Line
letter_of woken names.Wait = deeds.letter_of (deeds.acts act.Wait)
letter_of woken names.Cause = deeds.letter_of (deeds.acts act.Cause)
letter_of woken names.Reset = deeds.letter_of (deeds.acts act.Reset)
letter_of woken names.Happened = deeds.letter_of (deeds.tests test.Happened)
letter_of woken names.Procure = deeds.letter_of (deeds.acts act.Procure)
letter_of woken names.Liberate = deeds.letter_of (deeds.acts act.Liberate)
letter_of woken names.WaitAny = wait_letter woken
letter_of woken names.CauseAndReset = deeds.letter_of (deeds.acts act.CauseAndReset)
letter_of woken names.Available = deeds.letter_of (deeds.tests test.Available)
letter_of woken names.Fix = deeds.letter_of (deeds.tests test.Fix)

abbrev pub intrinsic_letter : ℕ → Option Intrinsic → Option Letter
intrinsic_letter woken None = None
intrinsic_letter woken (Some name) = Some (letter_of woken name)

-- an intrinsic is one of its number, of that process in this image, and another procedure is entered
abbrev pub called_letter : Image → ℕ → Pcw → Option Letter
called_letter img p pcw = if pcw.intrinsic then intrinsic_letter (woken_number img.numbers p) (intrinsic_numbered pcw.number) else Some Enter

abbrev pub called_by : Word → Option Cell → Look Pcw
called_by w None = valid (as_pcw w)
called_by w (Some c) = reached (Some c) >-> (λ (v : Reached). valid (as_pcw v.word))

-- the control word above the mark at F, or the one that the word there reaches
abbrev pub control_called : Registers → Look Pcw
control_called r = at (place r.stack (r.f + 1)) (λ (w : Option Word). valid w) >-> (λ (above : Word). called_by above (cell_of r above))

-- ---- operators

abbrev pub plain_letter : PlainKind → Image → Registers → Option Letter
plain_letter kinds.Lodt img r = Some Pass
plain_letter kinds.Nxlv img r = Some ElementRead
plain_letter kinds.Nxln img r = Some Index
plain_letter kinds.Indx img r = Some Index
plain_letter kinds.Load img r = told_by loaded_letter (look_seen img.stacks (popped r))
plain_letter kinds.Eval img r = told_by place_letter (look_seen img.stacks (popped r >-> (λ (x : Word). reached (cell_of r x))))
plain_letter kinds.Stod img r = told_by stored_letter (look_seen img.stacks (popped_two r))
plain_letter kinds.Ston img r = told_by stored_letter (look_seen img.stacks (popped_two r))
plain_letter kinds.Entr img r = told_by (called_letter img r.stack) (look_seen img.stacks (control_called r))
plain_letter kinds.Exit img r = Some (left_letter (frame r))
plain_letter kinds.Retn img r = Some Leave
plain_letter _ img r = None

-- the letter of an operator of a process with these registers: a private one has none
abbrev pub operator_letter : Operator → Image → Registers → Option Letter
operator_letter (ops.Valc couple) img r = told_by value_letter (look_seen img.stacks (reached (couple_cell r couple.level couple.index)))
operator_letter (ops.Branch kind target) img r = if nat_lt r.place target then None else Some Turn
operator_letter (ops.Plain kind) img r = plain_letter kind img r
operator_letter _ img r = None

abbrev pub fetched_letter : Image → Registers → Result (Operator × ℕ) BadCode → Option Letter
fetched_letter img r (Err bad) = None
fetched_letter img r (Ok found) = operator_letter found.0 img r

abbrev pub registers_letter : Code → Image → Option Registers → Option Letter
registers_letter code img None = None
registers_letter code img (Some r) = fetched_letter img r (operator_at code r)

-- whatever faults is the fault, and what is not performed is no action
abbrev pub letter_by : Outcome Image → Option Letter → Option Letter
letter_by (gives new) found = found
letter_by (faults kind) found = Some Fault
letter_by (interrupts kind) found = None
letter_by limit found = None

-- The letter of the action that the next operator of a process is: none where it is private and does not fault, or is not performed.
abbrev pub letter : Code → Image → ℕ → Option Letter
letter code img p = letter_by (table code img p) (registers_letter code img (numbered img.regs p))
