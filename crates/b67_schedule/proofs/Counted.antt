-- How many actions runs are.
use Rattle.std.proofs.Common.{◌≡◌, ℕ, ◌+◌, ◌*◌, ◌^◌, ◌<◌, ◌≤◌, List, [], ◌∷◌, length, get_or, take, arith}
use Rattle.std.specs.List.{All}
use Rattle.std.proofs.lemmas.List.{length-append, length-replicate, length-take-le}
use Rattle.std.proofs.lemmas.List.Elements.{All-get_or, All-head, All-tail, All-take}
use Rattle.b67_schedule.specs.declared.Run.{Run}
use Rattle.b67_schedule.specs.Schedules.{most_in_schedule, entries, IsRun, AreRuns}

-- some runs are at most so many
entries_few : (runs : List Run) → All IsRun runs → length (entries runs) ≤ length runs * most_in_schedule
entries_few [] all = omega arith
entries_few (run ∷ runs) all =
    let rest = entries_few runs (All-tail IsRun run runs all) in
    let times = (All-head IsRun run runs all).times_greatest in
    rw (length-append, length-replicate) (omega arith)

-- with those of one run more they have 64 bits
pub actions_fit : (runs : List Run) (i : ℕ) (d : Run) → AreRuns runs → i < length runs → length (entries (take i runs)) + (get_or runs i d).times < 2 ^ 64
actions_fit runs i d is inside =
    let front = entries_few (take i runs) (All-take IsRun i runs is.numbers) in
    let long : length (take i runs) ≡ i = length-take-le i runs (omega arith) in
    let times = (All-get_or IsRun runs i d inside is.numbers).times_greatest in
    let few = is.few in
    omega arith
