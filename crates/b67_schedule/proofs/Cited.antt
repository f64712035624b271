-- Facts that several crates cite.
use Rattle.std.proofs.Common.{List, ap, arith, drop, drop-cons, get_or, length, replicate, suc, ℕ, ◌++◌, ◌+◌, ◌<◌, ◌∙◌, ◌∷◌, ◌≡◌}
use Rattle.b67_schedule.specs.Schedules.{entries}
use Rattle.b67_schedule.specs.declared.Run.{Run}

pub entries_drop : (runs : List Run) (i : ℕ) (d : Run) → i < length runs → entries (drop i runs) ≡ replicate ((get_or runs i d).times) ((get_or runs i d).process) ++ entries (drop (i + 1) runs)
entries_drop runs i d l = let next : suc i ≡ i + 1 = omega arith in ap entries (drop-cons runs i d l ∙ ap (λ (n : ℕ). get_or runs i d ∷ drop n runs) next)
