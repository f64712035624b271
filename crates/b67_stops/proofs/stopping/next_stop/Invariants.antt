use Rattle.std.proofs.Common.{◌≡◌, ℕ, ◌<◌, ◌≤◌, Some}
use Rattle.std.specs.Prelude.{slice_get}
use Rattle.b67_stops.proofs.stopping.next_stop.Given as goal

-- no position among the first so many is between
abbrev pub invariant-at : goal.invariant-at
invariant-at l = (l.k < l.next) × ((place here : ℕ) → place < l.position-index → slice_get l.fn.at place ≡ Some here → l.k < here → l.next ≤ here)
