-- A look at stacks, as a test of an image: what the calls on stacks only find, a program of the table is told.
use Rattle.std.proofs.Common.{◌≡◌, refl}
use Rattle.b67_table.specs.Effect.{Effect, gives, faults, interrupts}
use Rattle.b67_table.specs.Image.{Image}
use Rattle.b67_table.specs.Questions.{told}
use Rattle.b67_table.specs.Program.{Test, answer, interrupt, fault, ask, asked, ◌>>=◌}

-- the rest of a test, after its first part
abbrev pub after_test : {A B : Type 0} → Image → Effect A → (A → Test B) → Effect B
after_test img (gives a) next = asked img (next a)
after_test img (faults kind) next = faults kind
after_test img (interrupts kind) next = interrupts kind

pub asked_then : {A B : Type 0} (img : Image) (t : Test A) (next : A → Test B) → asked img (t >>= next) ≡ after_test img (asked img t) next
asked_then img (answer a) next = refl
asked_then img (interrupt kind) next = refl
asked_then img (fault kind) next = refl
asked_then img (ask q more) next = asked_then img (more (told img q)) next
