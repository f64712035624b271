use Rattle.std.proofs.Common.{◌≡◌, ℕ, take}
use Rattle.b67_race.specs.Entries.{entry_is_one_of}
use Rattle.b67_race.specs.Times.{time_of}
use Rattle.b67_race.specs.Timed.{time_in, joined_if}
use Rattle.b67_race.proofs.timing.join_all.Given as goal

abbrev pub invariant-joining : goal.invariant-joining
invariant-joining l =
    (p q : ℕ) → time_in l.clocks.items p q ≡ joined_if (entry_is_one_of (take l.process-index l.released) p) (time_in l.initial.clocks.items p q) (time_of l.own q)
