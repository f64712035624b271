-- The text of a run by turns. Every line ends with LF.
use Rattle.std.specs.Prelude.{ℕ, zero, suc, ◌+◌, List, [], ◌∷◌, ◌++◌, codes}
use Rattle.std.specs.Fmt.{decimal}
use Rattle.b67_segment.specs.declared.code.Code.{Code}
use Rattle.b67_table.specs.declared.InterruptKind.{InterruptKind}
use Rattle.b67_table.specs.declared.InterruptKind.TheVariants.{InvalidOperand, StackUnderflow, BrokenChain, BadCode}
use Rattle.b67_machine.specs.Kept.{MachineModel, operators_counted}
use Rattle.b67_report.specs.declared.EndWords.TheVariants as ends
use Rattle.b67_report.specs.Texts.{line_text, lines_text, counts_text, end_words}
use Rattle.b67_exec.specs.declared.Stopped.{Stopped}
use Rattle.b67_exec.specs.declared.Stopped.TheVariants as stopped
use Rattle.b67_exec.specs.Turns.{Ran, exec_run, counts_of}

-- the words of each interrupt
abbrev pub interrupt_words : InterruptKind → List ℕ
interrupt_words InvalidOperand = codes "INVALID OPERAND"
interrupt_words StackUnderflow = codes "STACK UNDERFLOW"
interrupt_words BrokenChain = codes "BROKEN CHAIN"
interrupt_words BadCode = codes "BAD CODE"

-- why a run by turns stopped
abbrev pub stopped_words : Stopped → List ℕ
stopped_words stopped.Finished = end_words ends.Finished
stopped_words (stopped.Fault kind p) = end_words (ends.Fault kind p)
stopped_words stopped.AllWaiting = end_words ends.AllWaiting
stopped_words (stopped.Interrupt kind p) = codes "END INTERRUPT " ++ interrupt_words kind ++ codes " IN " ++ decimal p
stopped_words (stopped.StackLimit p words) = end_words (ends.StackLimit p words)
stopped_words stopped.BudgetSpent = end_words ends.BudgetSpent

-- the output, why the run stopped, and how many operators each process performed
abbrev pub told_text : List (List ℕ) → Stopped → List ℕ → List ℕ
told_text output why counts = lines_text (codes "OUTPUT ") output ++ line_text (stopped_words why) ++ counts_text (codes "OPERATORS ") counts

abbrev pub ran_text : Ran → List ℕ
ran_text ran = told_text ran.turns.image.output ran.why (counts_of ran.turns)

-- the text of the run of a code by turns with a budget of so many operators
abbrev pub exec_text : Code → ℕ → List ℕ
exec_text code budget = ran_text (exec_run code budget)

-- ---- on a machine

-- how many operators so many processes have performed, from this one on
abbrev pub counts_in : List ℕ → ℕ → ℕ → List ℕ
counts_in counts p zero = []
counts_in counts p (suc n) = operators_counted counts p ∷ counts_in counts (p + 1) n

-- the text of a machine whose run has stopped so
abbrev pub machine_text : MachineModel → Stopped → List ℕ
machine_text m why = told_text m.image.output why (counts_in m.counts 1 m.image.started)
