-- What a process does on the room of its own stack, on the machine, and entries that go on.
use Rattle.std.specs.Prelude.{◌≡◌, ◌≤◌, ℕ, zero, suc, ◌+◌, true, List, [], length, take, Some}
use Rattle.b67_list.specs.Numbered.{numbered}
use Rattle.b67_deeds.specs.declared.Letter.{Letter}
use Rattle.b67_segment.specs.declared.code.Code.{Code}
use Rattle.b67_table.specs.declared.Private.{Private}
use Rattle.b67_table.specs.Image.{Image, with_private, is_able}
use Rattle.b67_table.specs.Valid.{IsValid}
use Rattle.b67_action.specs.declared.running.Ran.{Ran}
use Rattle.b67_action.specs.Running.{HasRun}
use Rattle.b67_machine.specs.Entries.{EntriesFollow}
use Rattle.b67_machine.specs.Kept.{MachineModel, Counts}
use Rattle.b67_machine.specs.Letters.{last_or}
use Rattle.b67_machine.specs.Parts.{whole_part}
use Rattle.b67_machine.specs.Stepping.{MachineGoes}

-- ---- on a copy of a whole stack

-- wherever a process that is able in a valid image has these registers and these words of its stack, this is a run of it, and these others are what it leaves
abbrev pub RunsTo : Code → ℕ → ℕ → Private → Ran → List Letter → Private → Type 0
RunsTo code p most start ran noted end =
    (img : Image) → IsValid code img → is_able (numbered img.states p) ≡ true → whole_part img p ≡ Some start → HasRun code p most img ran noted (with_private img p 0 end)

-- ---- on the machine

-- whom the last of so many entries has released, each of which releases nobody
abbrev pub released_after : ℕ → List ℕ → List ℕ
released_after zero before = before
released_after (suc n) before = []

-- so many entries on its own stack, whose letters are noted first, and so many plain operators after them, and all else is as it was
pub record ChainRuns (old : MachineModel) (p most : ℕ) (ran : Ran) (noted : List Letter) (new : MachineModel) : Type 0 where
  pub begun : IsValid old.code old.image
  pub number : 1 ≤ p
  pub known : p ≤ length old.counts
  pub run : HasRun old.code p most old.image ran noted new.image
  pub counts : Counts old.counts p (ran.operators + ran.plain) new.counts
  pub others : new ≡ record old {
    image = new.image;
    counts = new.counts;
    released = released_after ran.entries old.released;
    letter = last_or (take ran.entries noted) old.letter;
  }

-- so many entries that go on, whose letters are noted first, and so many plain operators after them
pub record Passing (old : MachineModel) (p most : ℕ) (ran : Ran) (noted : List Letter) (new : MachineModel) : Type 0 where
  pub between : MachineModel
  pub enters : EntriesFollow p most old (take ran.entries noted) ran.operators between
  pub goes : MachineGoes between p ran.plain new
