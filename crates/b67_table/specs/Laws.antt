-- What holds of every row at once.
use Rattle.std.specs.Prelude.{◌≡◌, ◌↔◌, ℕ, ◌<◌, ◌≤◌, List, [], ◌∷◌}
use Rattle.b67_num.specs.declared.FaultKind.{FaultKind}
use Rattle.b67_table.specs.declared.InterruptKind.{InterruptKind}
use Rattle.b67_table.specs.Effect.{Effect, gives, faults, interrupts}
use Rattle.b67_segment.specs.declared.code.Code.{Code}
use Rattle.b67_store.specs.Store.{stack_limit}
use Rattle.b67_table.specs.Outcome as outcomes
use Rattle.b67_table.specs.Image.{Image}
use Rattle.b67_table.specs.Table.{raw, table, stack_length}
use Rattle.b67_table.specs.Questions.{told}
use Rattle.b67_table.specs.Writes.{Write, write_made}
use Rattle.b67_table.specs.Program.{Test, answer, interrupt, fault, ask, asked, Change, done, look_up, write, Program, does}

-- ---- an operator's writes

-- the writes of a change, in order
abbrev pub writes_of : ℕ → Change → Image → List Write
writes_of p done img = []
writes_of p (look_up q more) img = writes_of p (more (told img q)) img
writes_of p (write w next) img = w ∷ writes_of p next (write_made p w img)

-- the writes of a program: none where a test stops it
abbrev pub writes_after : ℕ → Image → Effect Change → List Write
writes_after p img (gives change) = writes_of p change img
writes_after p img (faults kind) = []
writes_after p img (interrupts kind) = []

abbrev pub program_writes : ℕ → Program → Image → List Write
program_writes p program img = writes_after p img (asked img program)

abbrev pub all_written : ℕ → List Write → Image → Image
all_written p [] img = img
all_written p (w ∷ ws) img = all_written p ws (write_made p w img)

-- ---- refusals

-- the image after an operator: the new one, or the same one where the operator is refused
abbrev pub image_then : Image → Effect Image → Image
image_then img (gives new) = new
image_then img (faults kind) = img
image_then img (interrupts kind) = img

-- the image after an operator is the one before it with all that the program writes, and what is refused writes nothing
pub record RefusalsWriteNothing : Type 0 where
  pub after_is : (p : ℕ) (program : Program) (img : Image) → image_then img (does p program img) ≡ all_written p (program_writes p program img) img
  pub fault_writes : (p : ℕ) (program : Program) (img : Image) (kind : FaultKind) → does p program img ≡ faults kind → program_writes p program img ≡ []
  pub interrupt_writes : (p : ℕ) (program : Program) (img : Image) (kind : InterruptKind) → does p program img ≡ interrupts kind
      → program_writes p program img ≡ []

-- ---- what is read decides

-- all that the test asks is told the same by two images
abbrev pub TestAgrees : {A : Type 0} → Test A → Image → Image → Type 0
TestAgrees (answer a) x y = Unit {0}
TestAgrees (interrupt kind) x y = Unit {0}
TestAgrees (fault kind) x y = Unit {0}
TestAgrees (ask q more) x y = (told x q ≡ told y q) × TestAgrees (more (told x q)) x y

-- so it is with all that the change looks up as it goes on
abbrev pub ChangeAgrees : ℕ → Change → Image → Image → Type 0
ChangeAgrees p done x y = Unit {0}
ChangeAgrees p (look_up q more) x y = (told x q ≡ told y q) × ChangeAgrees p (more (told x q)) x y
ChangeAgrees p (write w next) x y = ChangeAgrees p next (write_made p w x) (write_made p w y)

abbrev pub EffectAgrees : ℕ → Effect Change → Image → Image → Type 0
EffectAgrees p (gives change) x y = ChangeAgrees p change x y
EffectAgrees p (faults kind) x y = Unit {0}
EffectAgrees p (interrupts kind) x y = Unit {0}

abbrev pub ProgramAgrees : ℕ → Program → Image → Image → Type 0
ProgramAgrees p program x y = TestAgrees program x y × EffectAgrees p (asked x program) x y

-- images that tell a program the same get the same answer from it, and the same writes
pub record ReadingDecides : Type 0 where
  pub asked_same : (p : ℕ) (program : Program) (x y : Image) → ProgramAgrees p program x y → asked x program ≡ asked y program
  pub writes_same : (p : ℕ) (program : Program) (x y : Image) → ProgramAgrees p program x y → program_writes p program x ≡ program_writes p program y

-- ---- the limit

-- the table gives what the row does, and the limit exactly where the new image's stack would have more words than a stack can have
pub record LimitComesLast : Type 0 where
  pub new : (code : Code) (img new : Image) (p : ℕ)
      → (table code img p ≡ outcomes.gives new) ↔ ((raw code img p ≡ gives new) × (stack_length p new ≤ stack_limit))
  pub fault : (code : Code) (img : Image) (p : ℕ) (kind : FaultKind) → (table code img p ≡ outcomes.faults kind) ↔ (raw code img p ≡ faults kind)
  pub interrupt : (code : Code) (img : Image) (p : ℕ) (kind : InterruptKind)
      → (table code img p ≡ outcomes.interrupts kind) ↔ (raw code img p ≡ interrupts kind)
  pub limit : (code : Code) (img : Image) (p : ℕ)
      → (table code img p ≡ outcomes.limit) ↔ ((new : Image) × (raw code img p ≡ gives new) × (stack_limit < stack_length p new))
