-- Some codes at work: what they come to by turns.
use Rattle.std.specs.Prelude.{◌≡◌, ℕ, List, [], ◌∷◌}
use Rattle.b67_num.specs.declared.FaultKind.TheVariants.{DivideByZero, CriticalBlockExit}
use Rattle.b67_segment.specs.declared.code.Code.{Code}
use Rattle.b67_table.specs.declared.InterruptKind.TheVariants.{StackUnderflow, BadCode}
use Rattle.b67_table.specs.Worked.{segment_of}
use Rattle.b67_exec.specs.declared.Stopped.{Stopped}
use Rattle.b67_exec.specs.declared.Stopped.TheVariants.{Finished, Fault, Interrupt, BudgetSpent}
use Rattle.b67_exec.specs.Turns.{exec_run, counts_of}

-- a code of two segments of these words
abbrev pub segments_of : List ℕ → List ℕ → Code
segments_of words others = record { segments = record { words = words; marks = [] } ∷ record { words = others; marks = [] } ∷ []; formats = [] }

-- a code comes to this by turns, with so many operators of each process
pub record CodeComesTo (code : Code) (budget : ℕ) (why : Stopped) (counts : List ℕ) : Type 0 where
  pub stopped : (exec_run code budget).why ≡ why
  pub counted : counts_of (exec_run code budget).turns ≡ counts

pub record TurnsAtWork : Type 0 where
  -- ONE, ZERO, DIVD: the operator that is at fault is counted
  pub divide : CodeComesTo (segment_of (0xb1b084fefefe ∷ [])) 100 (Fault DivideByZero 1) (3 ∷ [])
  -- ADD: the operator that interrupts is not
  pub add : CodeComesTo (segment_of (0x80fefefefefe ∷ [])) 100 (Interrupt StackUnderflow 1) (0 ∷ [])
  -- a branch to itself
  pub loop : CodeComesTo (segment_of (0xa20000fefefe ∷ [])) 100 BudgetSpent (100 ∷ [])
  -- EXIT: the end is looked at before the budget
  pub exit : CodeComesTo (segment_of (0xa3fefefefefe ∷ [])) 1 Finished (1 ∷ [])
  -- NOOPs up to the segment's end
  pub out : CodeComesTo (segment_of (0xfefefefefefe ∷ [])) 100 (Interrupt BadCode 1) (6 ∷ [])
  -- MPCW, PUSH, then MKST, NAMC 0,6, NAMC 2,2, ZERO, ENTR, which starts a process in segment 1, where a branch leads to itself; NOOP, NOOP,
  -- EXIT. The started process comes before its starter, and leaving its critical block is a fault.
  pub started :
      CodeComesTo (segments_of (0xbf0000000000 ∷ 0x001000018000 ∷ 0xb4ae40066002 ∷ 0xb0abfefea3fe ∷ []) (0xa20000fefefe ∷ [])) 100 (Fault CriticalBlockExit 1)
      (10 ∷ 3 ∷ [])
