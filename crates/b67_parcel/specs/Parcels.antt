-- What a parcel is: plain operators of a process on a copy of its private part, or entries of it on a copy of its whole stack.
use Rattle.std.specs.Prelude.{◌≡◌, ◌⊎◌, ℕ, zero, suc, ◌+◌, ◌≤◌, Bool, true, false, List, length, Option, Some}
use Rattle.b67_list.specs.Numbered.{numbered}
use Rattle.b67_limits.specs.declared.TheConstants.{MOST_STRETCH}
use Rattle.b67_deeds.specs.declared.Letter.{Letter}
use Rattle.b67_segment.specs.declared.code.Code.{Code}
use Rattle.b67_table.specs.declared.Private.{Private}
use Rattle.b67_table.specs.Image.{Image, is_able}
use Rattle.b67_table.specs.Privacy.{RegistersStay}
use Rattle.b67_table.specs.Valid.{IsValid}
use Rattle.b67_private.specs.Parts.{PlainParts, IsPrivatePart, is_plain}
use Rattle.b67_action.specs.declared.running.Ran.{Ran}
use Rattle.b67_machine.specs.Parts.{private_part, whole_part, IsWholePart, IsFull}
use Rattle.b67_machine.specs.Chaining.{RunsTo}
use Rattle.b67_limits.specs.declared.TheConstants.{MOST_RUN}

-- what contracts see of a parcel
pub record Stretch : Type 0 where
  -- whose it is
  pub process : ℕ
  -- how many entries it may have: where it may have none, it is of the private part; else of the whole stack
  pub room : ℕ
  -- the part as it was taken, and after what was performed
  pub start : Private
  pub end : Private
  -- what was performed: entries, of which the letters are noted first, and plain operators after them
  pub ran : Ran
  pub noted : List Letter

-- ---- what is taken

-- the part of a process that a parcel has which may have so many entries
abbrev pub part_for : ℕ → Image → ℕ → Option Private
part_for zero img p = private_part img p
part_for (suc n) img p = whole_part img p

-- it has as many words as its registers say
abbrev pub IsComplete : ℕ → Private → Type 0
IsComplete zero part = IsWholePart part
IsComplete (suc n) part = IsFull part

-- it was the part of a process that was able, in a valid image of the code
pub record IsTaken (code : Code) (process room : ℕ) (start : Private) : Type 0 where
  pub image : Image
  pub valid : IsValid code image
  pub able : is_able (numbered image.states process) ≡ true
  pub part : part_for room image process ≡ Some start

-- what contracts see of a process that was taken ahead
pub record Fetched : Type 0 where
  -- whether a parcel is still to begin with it
  pub is_there : Bool
  pub process : ℕ
  -- how many entries the parcel may have
  pub room : ℕ
  -- the part of it that the parcel is to have, as it was taken
  pub part : Private

-- what is kept of it: so was its part, with as many words as its registers say
pub record IsFetched (code : Code) (f : Fetched) : Type 0 where
  pub taken : IsTaken code f.process f.room f.part
  pub complete : IsComplete f.room f.part
  pub is_part : IsPrivatePart f.part

-- ---- what is performed

abbrev pub no_operators : Ran
no_operators = record { entries = 0; operators = 0; plain = 0 }

-- On a private part: so many plain operators of the code, no more than a stretch has. The words of the end are those from the start's floor up,
-- also where a PUSH raised the floor.
pub record IsPlain (code : Code) (s : Stretch) : Type 0 where
  pub performed : PlainParts code s.start s.ran.plain s.end
  pub only : s.ran ≡ record no_operators { plain = s.ran.plain }
  pub few : s.ran.plain ≤ MOST_STRETCH
  pub keeps : RegistersStay s.start.regs s.end.regs
  pub part : IsPrivatePart s.end

-- Nothing was performed yet.
pub record IsIdle (s : Stretch) : Type 0 where
  pub none : s.ran ≡ no_operators
  pub same : s.end ≡ s.start

-- On a whole stack: in every valid image in which the process is able and has the start, its own entries with these letters and the plain operators
-- after them leave the end.
pub record IsRun (code : Code) (s : Stretch) : Type 0 where
  pub runs : RunsTo code s.process MOST_RUN s.start s.ran s.noted s.end
  pub full : IsFull s.end
  pub keeps : RegistersStay s.start.regs s.end.regs
  pub counted : s.ran.entries ≤ s.ran.operators
  pub most : s.ran.operators + s.ran.plain ≤ MOST_RUN

abbrev pub Performs : ℕ → Code → Stretch → Type 0
Performs zero code s = IsPlain code s
Performs (suc n) code s = IsIdle s ⊎ IsRun code s

-- what a parcel keeps: so was its start, and what was performed leads from it to the end
pub record IsStretch (code : Code) (s : Stretch) : Type 0 where
  pub taken : IsTaken code s.process s.room s.start
  pub complete : IsComplete s.room s.start
  pub is_part : IsPrivatePart s.start
  pub performed : Performs s.room code s
  pub letters : length s.noted ≡ s.room

-- It was worked. On a private part it has as many operators as a stretch may have, or the next one is not plain. On a whole stack it has as many
-- entries as it may have, or as many operators, or the next one is not plain, nor an action of its own that goes on (the clauses of `HasRun`).
abbrev pub WorkedBy : ℕ → Code → Stretch → Type 0
WorkedBy zero code s = (s.ran.plain ≡ MOST_STRETCH) ⊎ (is_plain code s.end ≡ false)
WorkedBy (suc n) code s = IsRun code s

abbrev pub IsWorked : Code → Stretch → Type 0
IsWorked code s = WorkedBy s.room code s

-- it starts with the part that its process has in this image
abbrev pub StartsAs : Image → Stretch → Type 0
StartsAs image s = part_for s.room image s.process ≡ Some s.start

-- so it is, and nothing was performed yet
pub record IsCopied (image : Image) (s : Stretch) : Type 0 where
  pub start : StartsAs image s
  pub end : s.end ≡ s.start
  pub none : s.ran ≡ no_operators
