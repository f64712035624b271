-- Of whom each entry of a run by one processor is, under a rule of dispatch.
use Rattle.std.specs.Prelude.{◌≡◌, ℕ, if◌then◌else◌, List, [], ◌∷◌, ◌++◌, length, slice_get, remove, Option, Some, None}
use Rattle.b67_segment.specs.declared.code.Code.{Code}
use Rattle.b67_letters.specs.Releases.{releases, operator_starts}
use Rattle.b67_table.specs.Ending.{may_act}
use Rattle.b67_table.specs.Image.{Image}
use Rattle.b67_table.specs.Runs.{Runs, begin, entry}

-- which place of a queue is picked, by how many wait and how many takes there have been
abbrev pub Pick : Type 0
Pick = ℕ → ℕ → ℕ

abbrev pub if_started : Option ℕ → List ℕ
if_started None = []
if_started (Some p) = p ∷ []

-- who goes to the rear after an action: those whom its operator releases, in their order, then the one that it starts, then the process
-- itself where it may go on
abbrev pub to_rear : Code → Image → ℕ → Image → List ℕ
to_rear code before p after = releases code before p ++ if_started (operator_starts code before p) ++ (if may_act after p then p ∷ [] else [])

-- who waits after a run, the earliest first: at first process 1; each entry takes the process at the place that is picked, and the
-- others close up
abbrev pub waiting_after : Pick → {code : Code} {h counts : List ℕ} {img : Image} → Runs code h counts img → List ℕ
waiting_after pick begin = 1 ∷ []
waiting_after pick {code} (entry {h = h} {b = b} {p = p} runs e) =
    remove (waiting_after pick runs) (pick (length (waiting_after pick runs)) (length h)) ++ to_rear code e.quiet p b

-- each entry is of the process at the place that is picked
abbrev pub ArePicked : Pick → {code : Code} {h counts : List ℕ} {img : Image} → Runs code h counts img → Type 0
ArePicked pick begin = Unit {0}
ArePicked pick (entry {h = h} {p = p} runs e) =
    ArePicked pick runs × (slice_get (waiting_after pick runs) (pick (length (waiting_after pick runs)) (length h)) ≡ Some p)
