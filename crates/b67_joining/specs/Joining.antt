-- Who is in the queue of those who wait for a turn, and who joins it.
use Rattle.std.specs.Prelude.{◌≡◌, ℕ, if◌then◌else◌, Bool, List, [], ◌∷◌, ◌++◌}
use Rattle.b67_table.specs.Image.{Image}
use Rattle.b67_action.specs.Able.{number_times, one_if, able_in, newly}

-- each process that is able is in the queue once, and no other is
abbrev pub IsQueue : Image → List ℕ → Type 0
IsQueue img queue = (p : ℕ) → number_times p queue ≡ one_if (able_in img p)

-- a process, where it is able
abbrev pub if_able : Bool → ℕ → List ℕ
if_able able p = if able then p ∷ [] else []

-- who joins after an operator of a process that released these, where there were so many processes before: the released, in their order,
-- then the one that was started, then the process itself where it is able
abbrev pub joining : ℕ → Image → ℕ → List ℕ → List ℕ
joining before after p released = released ++ newly before after.started ++ if_able (able_in after p) p
