-- The processes that an event releases: the room for them, and their woken numbers, as positions give them.
use Rattle.std.specs.Prelude.{ℕ, ◌≤◌, nat_eq, if◌then◌else◌, List, [], ◌∷◌}
use Rattle.std.specs.Vec.{vec_capacity}
use Rattle.b67_list.specs.Numbered.{set_numbered}
use Rattle.b67_events.specs.declared.Woken.{Woken}

-- a position of 0 is none, and leaves the number that a process has
abbrev pub told_number : ℕ → ℕ → List ℕ → List ℕ
told_number p n numbers = if nat_eq n 0 then numbers else (set_numbered numbers p n)

-- these processes have these positions for their woken numbers
abbrev pub told_numbers : List ℕ → List ℕ → List ℕ → List ℕ
told_numbers [] positions numbers = numbers
told_numbers (p ∷ ps) [] numbers = numbers
told_numbers (p ∷ ps) (n ∷ ns) numbers = told_numbers ps ns (told_number p n numbers)

-- there is room for so many processes to be released
abbrev pub HasPlaces : ℕ → Woken → Type 0
HasPlaces n woken = (n ≤ vec_capacity woken.processes) × (n ≤ vec_capacity woken.positions)

-- there is room for as many as before
abbrev pub KeepsPlaces : Woken → Woken → Type 0
KeepsPlaces old new = (vec_capacity old.processes ≤ vec_capacity new.processes) × (vec_capacity old.positions ≤ vec_capacity new.positions)
