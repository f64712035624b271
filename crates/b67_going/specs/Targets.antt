-- What GOTO goes to, and what it does on the way.
use Rattle.std.specs.Prelude.{◌≡◌, ℕ, ◌+◌, ◌≤◌, List, Option, Result, Ok, Err}
use Rattle.b67_word.specs.declared.Place.{Place}
use Rattle.b67_word.specs.Word.{Word}
use Rattle.b67_control.specs.declared.Registers.{Registers}
use Rattle.b67_store.specs.Store.{Stacks, stack_limit}
use Rattle.b67_table.specs.declared.InterruptKind.{InterruptKind}
use Rattle.b67_table.specs.Arguments.{Three, three}
use Rattle.b67_table.specs.Chains.{rebuilt}
use Rattle.b67_table.specs.Image.{Image}
use Rattle.b67_table.specs.Linkage.{if_not_critical}
use Rattle.b67_table.specs.Look.{Look, look_seen, ◌>->◌}
use Rattle.b67_table.specs.Program.{Program, asked, see, ◌>>=◌}
use Rattle.b67_table.specs.GoingTo.{Passing, passed_by, passed_frames, target_of, if_same_stack}
use Rattle.b67_table.specs.GoingTo as going
use Rattle.b67_linkage.specs.Leaving.{Cutting, cutting}
use Rattle.b67_reach.specs.declared.Stop.{Stop}
use Rattle.b67_reach.specs.Answers.{ProgramActs}
use Rattle.b67_going.specs.declared.targets.Target.{Target}

-- a target in the table's words
abbrev pub tabled : Target → going.Target
tabled t = record { frame = t.frame; level = t.level; segment = t.segment; pointer = t.pointer }

abbrev pub target_in : Result going.Target InterruptKind → Result Target InterruptKind
target_in (Ok t) = Ok (record { frame = t.frame; level = t.level; segment = t.segment; pointer = t.pointer })
target_in (Err kind) = Err kind

-- what GOTO goes to by its arguments
abbrev pub named_target : Registers → List Word → Look going.Target
named_target r words = three words >-> (λ (z : Three). target_of r z)

-- the tests of GOTO on the way to a target
abbrev pub route : Registers → going.Target → (Passing → List (Option Place) → Program) → Program
route r t next =
    see (passed_by r t.frame) >>= (λ (p : Passing). see (rebuilt t.frame t.level) >>= (λ (display : List (Option Place)).
    if_same_stack r t.frame (if_not_critical r.stack (passed_frames p.frames) (next p display))))

-- In an image the tests find the frames above the target and its display, and go on with them; or they are stopped.
abbrev pub Routes : {A : Type 0} → Registers → going.Target → Image → Result A Stop → Type 0
Routes r t img (Ok a) =
    (c : Cutting) → look_seen img.stacks (cutting r t.frame t.level) ≡ Ok c
    → (next : Passing → List (Option Place) → Program) → asked img (route r t next) ≡ asked img (next c.passing c.display)
Routes {A = A} r t img (Err stop) = (p : ℕ) (next : Passing → List (Option Place) → Program) → ProgramActs {A = A} p (route r t next) img img (Err stop)

-- the frames above the target and its display are found, and the target ends within the limit of a stack
abbrev pub IsClear : Stacks → Registers → Target → Type 0
IsClear stacks r t = (c : Cutting) × (look_seen stacks (cutting r t.frame t.level) ≡ Ok c) × (t.frame.at + 2 + c.passing.cells ≤ stack_limit)
