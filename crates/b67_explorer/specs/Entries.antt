-- What an entry that is performed on a machine comes to: whether it is performed, and for how many more there is room.
use Rattle.std.specs.Prelude.{◌≡◌, ℕ, ◌+◌, ◌*◌, ◌^◌, ◌<◌, Bool, true, false, Option, Some, None}
use Rattle.b67_segment.specs.declared.TheConstants.{MOST_SEGMENT_WORDS}
use Rattle.b67_table.specs.Ending.{image_end}
use Rattle.b67_table.specs.Valid.{IsValid}
use Rattle.b67_action.specs.declared.done.Done.{Done}
use Rattle.b67_action.specs.declared.done.Done.TheVariants.{Went, Waits, Ended, Fault, Interrupt, StackLimit, NoMemory}
use Rattle.b67_machine.specs.Kept.{MachineModel, operators_counted}
use Rattle.b67_machine.specs.declared.reads.End.{End}
use Rattle.b67_machine.specs.declared.reads.End.TheVariants as ends

-- whether the entry was performed, or the process came to the stack limit; none where neither is so
abbrev pub entered_by : Option Done → Option Bool
entered_by None = None
entered_by (Some Went) = Some true
entered_by (Some Waits) = Some true
entered_by (Some Ended) = Some true
entered_by (Some (Fault kind)) = Some true
entered_by (Some (Interrupt kind)) = None
entered_by (Some StackLimit) = Some false
entered_by (Some NoMemory) = None

-- one of these is so, or memory lacks
abbrev pub HasCome : Option Done → Type 0
HasCome None = ⊥
HasCome (Some Went) = Unit {0}
HasCome (Some Waits) = Unit {0}
HasCome (Some Ended) = Unit {0}
HasCome (Some (Fault kind)) = Unit {0}
HasCome (Some (Interrupt kind)) = ⊥
HasCome (Some StackLimit) = Unit {0}
HasCome (Some NoMemory) = Unit {0}

-- so many operators an entry has at most: plain ones of its segment, and an action
abbrev pub most_operators : ℕ
most_operators = 6 * MOST_SEGMENT_WORDS + 1

-- So many more entries can be performed on a machine: no process has come to the stack limit, and the operators of each process can be counted.
pub record EntriesFit (m : MachineModel) (more : ℕ) : Type 0 where
  pub limit : m.limit ≡ None
  pub valid : IsValid m.code m.image
  pub counts : (p : ℕ) → operators_counted m.counts p + most_operators * more < 2 ^ 63

-- the process has come to the stack limit, and the image has no end
pub record IsAtLimit (m : MachineModel) (p : ℕ) : Type 0 where
  pub limit : m.limit ≡ Some p
  pub goes : image_end m.image ≡ None

-- the end is the stack limit
abbrev pub IsLimitEnd : Option End → Type 0
IsLimitEnd None = ⊥
IsLimitEnd (Some ends.Finished) = ⊥
IsLimitEnd (Some (ends.Fault kind process)) = ⊥
IsLimitEnd (Some ends.AllWaiting) = ⊥
IsLimitEnd (Some (ends.StackLimit process words)) = Unit {0}
