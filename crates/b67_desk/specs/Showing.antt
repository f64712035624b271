-- What the command `dump` answers: a source with a schedule beside it.
use Rattle.std.specs.Prelude.{ℕ, List}
use Rattle.algol_tree.specs.Plain.{PProgram}
use Rattle.b67_schedule.specs.declared.reading.Given.{Given}
use Rattle.b67_schedule.specs.Giving.{given_entries}
use Rattle.b67_dump.specs.declared.Answer.{Answer as Seen}
use Rattle.b67_dump.specs.declared.Answer.TheVariants.{Shown, Illegal}
use Rattle.b67_dump.specs.Dumps.{Dumps, dump_text}
use Rattle.b67_desk.specs.declared.status.Status.{Status}
use Rattle.b67_desk.specs.declared.status.Status.TheVariants as status

-- the status under which cells are shown, or the entry that can not be performed is told
abbrev pub status_shown : Seen → Status
status_shown (Shown lines) = status.Finished
status_shown (Illegal entry) = status.Illegal entry

-- `dump`: what is seen of the cells after the first so many entries that are given
pub data Dumped (entries : ℕ) (tree : PProgram) (given : Given) : List ℕ → Status → Type 0 where
  dumped : (seen : Seen) → Dumps tree (given_entries given) entries seen → Dumped entries tree given (dump_text seen) (status_shown seen)
