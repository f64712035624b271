-- What an operator does to a machine.
use Rattle.std.specs.Prelude.{◌≡◌, ℕ, ◌<◌, Bool, true, false, List, [], Option, Some, None}
use Rattle.b67_segment.specs.declared.code.Code.{Code}
use Rattle.b67_table.specs.Image.{Image}
use Rattle.b67_table.specs.Ending.{failed}
use Rattle.b67_table.specs.Runs.{Plains}
use Rattle.b67_table.specs.Table.{plain}
use Rattle.b67_table.specs.Valid.{IsValid}
use Rattle.b67_action.specs.declared.done.Done.{Done}
use Rattle.b67_action.specs.declared.done.Done.TheVariants.{Went, Waits, Ended, Fault, Interrupt, StackLimit, NoMemory}
use Rattle.b67_action.specs.Able.{AbleAfter}
use Rattle.b67_letters.specs.Letters.{letter}
use Rattle.b67_letters.specs.Releases.{releases, started_between, operator_starts}
use Rattle.b67_action.specs.Done.{Came, is_performed}
use Rattle.b67_machine.specs.declared.Failure.{Failure}
use Rattle.b67_machine.specs.declared.entry.Performed.{Performed}
use Rattle.b67_machine.specs.Kept.{MachineModel, Counts}
use Rattle.b67_machine.specs.Letters.{lettered}

-- ---- one operator

-- the image after an operator, where its action has left this one: a fault is kept
abbrev pub image_after : ℕ → Done → Image → Image
image_after p (Fault kind) acted = failed acted p kind
image_after p done acted = acted

-- the fault that an operator comes to
abbrev pub failure_of : ℕ → Done → Option Failure
failure_of p (Fault kind) = Some (record { kind = kind; process = p })
failure_of p done = None

-- an operator that was performed or is at fault is counted
abbrev pub operators_in : Done → ℕ
operators_in Went = 1
operators_in Waits = 1
operators_in Ended = 1
operators_in (Fault kind) = 1
operators_in (Interrupt kind) = 0
operators_in StackLimit = 0
operators_in NoMemory = 0

abbrev pub limit_of : ℕ → Done → Option ℕ
limit_of p StackLimit = Some p
limit_of p done = None

abbrev pub lacks : Done → Bool
lacks NoMemory = true
lacks done = false

-- the processes that the next operator of a process releases, in their order, and none where it is not performed
abbrev pub released_where : Bool → Code → Image → ℕ → List ℕ
released_where true code img p = releases code img p
released_where false code img p = []

-- the process that it starts, where it starts one
abbrev pub started_where : Bool → Code → Image → ℕ → Option ℕ
started_where true code img p = operator_starts code img p
started_where false code img p = None

-- the next operator of a process came to this
pub record MachineActs (old : MachineModel) (p : ℕ) (done : Done) (new : MachineModel) : Type 0 where
  pub acted : Image
  pub came : Came old.code old.image p done acted
  pub image : new.image ≡ image_after p done acted
  pub counts : Counts old.counts p (operators_in done) new.counts
  pub released : new.released ≡ released_where (is_performed done) old.code old.image p
  pub started : started_between old.image.started new.image.started ≡ started_where (is_performed done) old.code old.image p
  -- who is able, where the operator is counted
  pub able : operators_in done ≡ 1 → AbleAfter old.image new.image p new.released
  pub limit : new.limit ≡ limit_of p done
  pub lacked : new.lacked ≡ lacks done
  pub letter_is : new.letter ≡ lettered (operators_in done) (letter old.code old.image p) old.letter
  pub code : new.code ≡ old.code

-- a machine that found no memory once does nothing more
abbrev pub StepsBy : Bool → MachineModel → ℕ → Done → MachineModel → Type 0
StepsBy true old p done new = (done ≡ NoMemory) × (new ≡ old)
StepsBy false old p done new = MachineActs old p done new

abbrev pub Steps : MachineModel → ℕ → Done → MachineModel → Type 0
Steps old p done new = StepsBy old.lacked old p done new

-- ---- plain operators

-- so many plain operators of a process make the new image, and fewer than the most only where the next one is not plain
pub record IsStretched (code : Code) (p n most : ℕ) (old new : Image) : Type 0 where
  pub performed : Plains code p old n new
  pub stops : n < most → plain code new p ≡ false
  pub valid : IsValid code new

-- the process has performed so many plain operators, and all else is as it was
pub record MachineGoes (old : MachineModel) (p n : ℕ) (new : MachineModel) : Type 0 where
  pub performed : Plains old.code p old.image n new.image
  pub counts : Counts old.counts p n new.counts
  pub others : new ≡ record old { image = new.image; counts = new.counts }
  pub states : new.image.states ≡ old.image.states
  pub started : new.image.started ≡ old.image.started
  pub fault : new.image.fault ≡ old.image.fault

-- ---- an entry

-- what comes after so many plain operators, of so many at the most
abbrev pub MachineFollows : MachineModel → ℕ → ℕ → ℕ → Option Done → MachineModel → Type 0
MachineFollows between p n most None new = (n ≡ most) × (new ≡ between)
MachineFollows between p n most (Some done) new = (n < most) × (plain between.code between.image p ≡ false) × Steps between p done new

-- So many plain operators, and then the action that comes next; or as many plain operators as were allowed, and no action.
pub record MachinePerforms (old : MachineModel) (p most : ℕ) (performed : Performed) (new : MachineModel) : Type 0 where
  pub between : MachineModel
  pub plains : MachineGoes old p performed.plain between
  pub then : MachineFollows between p performed.plain most performed.done new
