-- What an entry of a process leads to, and what a history of entries.
use Rattle.std.specs.Prelude.{◌≡◌, ℕ, suc, ◌+◌, ◌<◌, ◌≤◌, ◌^◌, Bool, true, false, List}
use Rattle.b67_segment.specs.declared.code.Code.{Code}
use Rattle.b67_table.specs.Image.{Image}
use Rattle.b67_table.specs.Outcome.{limit}
use Rattle.b67_table.specs.Table.{table}
use Rattle.b67_table.specs.Runs.{Runs, RunEntry, Plains}
use Rattle.b67_outcomes.specs.declared.found.TheConstants.{MOST_ENTRIES}

-- the number of a process is from 1 on, and has 16 bits
abbrev pub IsProcessNumber : ℕ → Type 0
IsProcessNumber p = (1 ≤ p) × (p < 2 ^ 16)

-- the process comes to the stack limit before its action, in this image
pub record Stops (code : Code) (p : ℕ) (a quiet : Image) : Type 0 where
  pub count : ℕ
  pub plains : Plains code p a count quiet
  pub at_limit : table code quiet p ≡ limit

-- an entry of the process was performed, or it came to the stack limit
abbrev pub ProcessEnters : Code → ℕ → Image → Bool → Image → Type 0
ProcessEnters code p a true b = (n : ℕ) × RunEntry code p a n b
ProcessEnters code p a false b = Stops code p a b

-- so many entries of the process, one after another, lead from one image to the other
pub data Repeats (code : Code) (p : ℕ) : ℕ → Image → Image → Type 0 where
  none : {a : Image} → Repeats code p 0 a a
  again : {k n : ℕ} {a b c : Image} → Repeats code p k a b → RunEntry code p b n c → Repeats code p (suc k) a c

-- where no more than so many entries were performed, there is room for all others of a history
pub record HasRoom (Room : ℕ → Type 0) (performed : ℕ) : Type 0 where
  pub left : ℕ
  pub is : Room left
  pub enough : MOST_ENTRIES ≤ left + performed

-- the run of a history leads to the image
abbrev pub HistoryLeadsTo : Code → List ℕ → Image → Type 0
HistoryLeadsTo code history img = (counts : List ℕ) × Runs code history counts img

-- the history has a run
abbrev pub HistoryLeads : Code → List ℕ → Type 0
HistoryLeads code history = (img : Image) × HistoryLeadsTo code history img

-- some run leads to the image
abbrev pub IsReached : Code → Image → Type 0
IsReached code img = (history : List ℕ) × HistoryLeadsTo code history img
