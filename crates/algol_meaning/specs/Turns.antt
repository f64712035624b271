-- The entries that one processor makes under a dispatch rule.
use Rattle.std.specs.Prelude.{ℕ, zero, suc, ◌+◌, ◌-◌, if◌then◌else◌, List, [], ◌∷◌, ◌++◌, length, take, drop, Option, Some, None, slice_get}
use Rattle.algol_tree.specs.Plain.{PProgram}
use Rattle.algol_tree.specs.Scopes.{Scopes, scopes_of}
use Rattle.algol_meaning.specs.World.{World}
use Rattle.algol_meaning.specs.Choice.{Choice, choice}
use Rattle.algol_meaning.specs.Run.{start, may_go}

abbrev pub turn_listed : Option ℕ → List ℕ
turn_listed None = []
turn_listed (Some p) = p ∷ []

-- the released processes in their order, then a started one, then the actor where it is able
abbrev pub queued : List ℕ → ℕ → Choice → List ℕ
queued waiting p c =
    if may_go c.world p then waiting ++ c.released ++ turn_listed c.started ++ p ∷ [] else waiting ++ c.released ++ turn_listed c.started

-- p is taken from place `at` of the queue; `go_on` are the entries after it
abbrev pub entries_with : Scopes → World → List ℕ → ℕ → Option ℕ → (World → List ℕ → List ℕ) → List ℕ
entries_with sc w queue at None go_on = []
entries_with sc w queue at (Some p) go_on =
    let c = choice sc w p in
    let entries = p ∷ go_on c.world (queued (take at queue ++ drop (at + 1) queue) p c) in if may_go w p then entries else []

-- The queue is a list; a take removes the process at the rule's answer for the length and the number of takes so far.
abbrev pub turns_from : Scopes → (ℕ → ℕ → ℕ) → ℕ → ℕ → World → List ℕ → List ℕ
turns_from sc rule zero takes w queue = []
turns_from sc rule (suc n) takes w queue =
    entries_with sc w queue (rule (length queue) takes) (slice_get queue (rule (length queue) takes)) (turns_from sc rule n (takes + 1))

-- the first n entries, or all up to the end
unfoldable pub turns : PProgram → (ℕ → ℕ → ℕ) → ℕ → List ℕ
turns tree rule n = turns_from (scopes_of tree) rule n 0 (start (scopes_of tree)) (1 ∷ [])

abbrev pub fifo : ℕ → ℕ → ℕ
fifo waiting takes = 0

abbrev pub lifo : ℕ → ℕ → ℕ
lifo waiting takes = waiting - 1
