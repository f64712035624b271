-- Sources and sinks in memory, and the calls of theirs that are to fail.
use Rattle.std.specs.Prelude.{ℕ, ◌+◌, ◌^◌, List, Option, Some, None, nat_lt, if◌then◌else◌, Contains}

-- the bytes left, the most that a call gives, the number of the next call, the numbers of the calls that fail,
-- and the count of faults
pub record SourceState : Type 0 where
  pub left : List ℕ
  pub most : ℕ
  pub next_call : Option ℕ
  pub failing_calls : List ℕ
  pub faults : ℕ

-- the bytes held, how many there is room for, the number of the next call, the numbers of the calls that fail,
-- and the count of faults
pub record SinkState : Type 0 where
  pub bytes : List ℕ
  pub room : ℕ
  pub next_call : Option ℕ
  pub failing_calls : List ℕ
  pub faults : ℕ

-- the call is one of those that fail; a call without a number is none of them
abbrev pub IsFailing : Option ℕ → List ℕ → Type 0
IsFailing None failing_calls = ⊥
IsFailing (Some number) failing_calls = Contains failing_calls number

-- calls are numbered up to the greatest u32; those past it have no number
abbrev pub call_after : Option ℕ → Option ℕ
call_after None = None
call_after (Some number) = if nat_lt (number + 1) (2 ^ 32) then Some (number + 1) else None
