-- More actions of a process after those of a schedule.
use Rattle.std.specs.Prelude.{min}
use Rattle.std.proofs.Common.{◌≡◌, ℕ, ◌+◌, ◌-◌, ◌<◌, ◌≤◌, List, [], ◌∷◌, ◌++◌, length, get_or, take, drop, set, replicate, zero, suc, sym, ap, subst, arith, ◌∙◌, ⊎_elim, append_assoc}
use Rattle.std.specs.List.{All}
use Rattle.std.proofs.lemmas.List.{append-nil, length-append, length-set, length-replicate, replicate-append-replicate, get_or_append_left, get_or_push, get_or-set_same, get_or-set_other, get_or_default, length_push, take_more, take_all, set_split, drop_all}
use Rattle.std.proofs.lemmas.List.Concat.{flat_map-append}
use Rattle.std.proofs.lemmas.List.Elements.{All-head, All-tail, All-push, All-set}
use Rattle.std.proofs.lemmas.Bool.{cases_eq, cases_lt}
use Rattle.b67_schedule.specs.declared.Run.{Run}
use Rattle.b67_deeds.specs.declared.Letter.{Letter}
use Rattle.b67_schedule.specs.Schedules.{most_in_schedule, entries, IsRun, AreRuns, IsSchedule, IsLastRun}

-- the entries of a last run
pub entries_push : (runs : List Run) (run : Run) → entries (runs ++ run ∷ []) ≡ entries runs ++ replicate run.times run.process
entries_push runs run =
    flat_map-append (λ (r : Run). replicate r.times r.process) runs (run ∷ []) ∙ ap (λ e. entries runs ++ e) (append-nil (replicate run.times run.process))

-- a list with an element is what is before its last one, and that
split_last : (runs : List Run) (d : Run) → 0 < length runs → runs ≡ take (length runs - 1) runs ++ get_or runs (length runs - 1) d ∷ []
split_last runs d some =
    let all : runs ≡ take (length runs - 1 + 1) runs = sym (take_all (length runs - 1 + 1) runs (omega arith)) in
    all ∙ take_more runs (length runs - 1) d (omega arith)

-- and with another last one it is what is before, and that
set_last : (runs : List Run) (run : Run) → 0 < length runs → set runs (length runs - 1) run ≡ take (length runs - 1) runs ++ run ∷ []
set_last runs run some =
    let none : drop (suc (length runs - 1)) runs ≡ [] = drop_all (suc (length runs - 1)) runs (omega arith) in
    set_split runs (length runs - 1) run (omega arith) ∙ ap (λ rest. take (length runs - 1) runs ++ run ∷ rest) none

-- a run has as many entries as its times say
times_le : (runs : List Run) (n : ℕ) (d : Run) → n < length runs → (get_or runs n d).times ≤ length (entries runs)
times_le [] n d p = absurd (omega arith)
times_le (run ∷ runs) zero d p = rw (length-append, length-replicate) (omega arith)
times_le (run ∷ runs) (suc n) d p = let below = times_le runs n d (omega arith) in rw (length-append, length-replicate) (omega arith)

-- no run is without entries
pub length_le_entries : (runs : List Run) → All IsRun runs → length runs ≤ length (entries runs)
length_le_entries [] all = omega arith
length_le_entries (run ∷ runs) all =
    let rest = length_le_entries runs (All-tail IsRun run runs all) in
    let first = (All-head IsRun run runs all).times_least in
    rw (length-append, length-replicate) (omega arith)

-- a run that is written over by one of the same process leaves the process of each run
process_set : (runs : List Run) (n k : ℕ) (run d : Run) → n < length runs → run.process ≡ (get_or runs n run).process →
    (get_or (set runs n run) k d).process ≡ (get_or runs k d).process
process_set runs n k run d inside same =
    ⊎_elim (λ (e : k ≡ n).
    let written : get_or (set runs n run) n d ≡ run = get_or-set_same runs n run d inside in
    let default : get_or runs n run ≡ get_or runs n d = get_or_default runs n run d inside in
    rw e (ap (λ (r : Run). r.process) written ∙ same ∙ ap (λ (r : Run). r.process) default))
    (λ (other : k ≡ n → ⊥). ap (λ (r : Run). r.process) (get_or-set_other runs n k run d other)) (cases_eq k n)

-- a last run that is longer
pub entries_raised : (runs : List Run) (last : Run) (n : ℕ) → 0 < length runs → last ≡ get_or runs (length runs - 1) last →
    entries (set runs (length runs - 1) record { process = last.process; times = last.times + n }) ≡ entries runs ++ replicate n last.process
entries_raised runs last n some is =
    let front = take (length runs - 1) runs in
    let whole : runs ≡ front ++ last ∷ [] = split_last runs last some ∙ ap (λ (r : Run). front ++ r ∷ []) (sym is) in
    ap entries (set_last runs record { process = last.process; times = last.times + n } some)
    ∙ entries_push front record { process = last.process; times = last.times + n }
    ∙ ap (λ e. entries front ++ e) (sym (replicate-append-replicate last.times n last.process))
    ∙ sym (append_assoc (entries front) (replicate last.times last.process) (replicate n last.process))
    ∙ ap (λ e. e ++ replicate n last.process) (sym (entries_push front last))
    ∙ ap (λ rs. entries rs ++ replicate n last.process) (sym whole)

pub AreRuns_raised : (runs : List Run) (last : Run) (n : ℕ) → 0 < length runs → last ≡ get_or runs (length runs - 1) last → AreRuns runs → length (entries runs) + n ≤ most_in_schedule →
    AreRuns (set runs (length runs - 1) record { process = last.process; times = last.times + n })
AreRuns_raised runs last n some is valid small =
    let inside : length runs - 1 < length runs = omega arith in
    let run : IsRun last = subst IsRun (sym is) (valid.numbers (length runs - 1) last inside) in
    let times = times_le runs (length runs - 1) last inside in
    let same : last.times ≡ (get_or runs (length runs - 1) last).times = ap (λ (r : Run). r.times) is in
    let raised : Run = record { process = last.process; times = last.times + n } in
    let process : raised.process ≡ (get_or runs (length runs - 1) raised).process =
    ap (λ (r : Run). r.process) is ∙ ap (λ (r : Run). r.process) (get_or_default runs (length runs - 1) last raised inside) in
    record {
      numbers = All-set IsRun runs (length runs - 1) raised
          record { process_least = run.process_least; process_greatest = run.process_greatest; times_least = omega (arith, run.times_least); times_greatest = omega arith } valid.numbers;
      differ = λ k d within equal. valid.differ k d (rw length-set at within)
          (sym (process_set runs (length runs - 1) k raised d inside process) ∙ equal ∙ process_set runs (length runs - 1) (k + 1) raised d inside process);
      few = rw length-set valid.few;
    }

-- a new last run
pub AreRuns_pushed : (runs : List Run) (process n : ℕ) → AreRuns runs → length (entries runs) + n ≤ most_in_schedule → 1 ≤ n → 1 ≤ process → process ≤ most_in_schedule → (IsLastRun runs process → ⊥) →
    AreRuns (runs ++ record { process = process; times = n } ∷ [])
AreRuns_pushed runs process n valid small some least greatest new =
    let count = length_le_entries runs valid.numbers in
    let run : Run = record { process = process; times = n } in
    record {
      numbers = All-push IsRun runs run valid.numbers record { process_least = least; process_greatest = greatest; times_least = some; times_greatest = omega arith };
      differ = λ k d within equal.
          let long : length (runs ++ run ∷ []) ≡ length runs + 1 = length_push runs run in
          ⊎_elim (λ (before : k + 1 < length runs).
          let first : get_or (runs ++ run ∷ []) k d ≡ get_or runs k d = get_or_append_left runs (run ∷ []) d k (omega arith) in
          let second : get_or (runs ++ run ∷ []) (k + 1) d ≡ get_or runs (k + 1) d = get_or_append_left runs (run ∷ []) d (k + 1) before in
          valid.differ k d before (rw (first, second) at equal))
          (λ (at_end : length runs ≤ k + 1).
          let last : k ≡ length runs - 1 = omega arith in
          let first : get_or (runs ++ run ∷ []) k d ≡ get_or runs k d = get_or_append_left runs (run ∷ []) d k (omega arith) in
          let second : get_or (runs ++ run ∷ []) (k + 1) d ≡ run = get_or_push runs run d (k + 1) (omega arith) in
          let same : (get_or runs k d).process ≡ process = rw (first, second) at equal in
          let read : (e : Run) → (get_or runs (length runs - 1) e).process ≡ process =
          λ e. ap (λ (r : Run). r.process) (get_or_default runs (length runs - 1) e d (omega arith) ∙ ap (λ i. get_or runs i d) (sym last)) ∙ same in
          new (omega arith, read)) (cases_lt (k + 1) (length runs));
      few = rw length_push (omega arith);
    }

-- what becomes of a schedule: so many more actions of that process
pub record Added (old new : List Run) (process n : ℕ) : Type 0 where
  pub valid : AreRuns new
  pub added : entries new ≡ entries old ++ replicate n process
  pub count : length (entries new) ≡ length (entries old) + n

counted : (old new : List Run) (process n : ℕ) → AreRuns new → entries new ≡ entries old ++ replicate n process → Added old new process n
counted old new process n valid added = record {
  valid = valid;
  added = added;
  count = ap length added ∙ length-append (entries old) (replicate n process) ∙ ap (λ k. length (entries old) + k) (length-replicate n process);
}

pub raised : (runs : List Run) (count process n : ℕ) (last : Run) → count ≡ length runs → IsLastRun runs process → last ≡ get_or runs (count - 1) last →
    AreRuns runs → length (entries runs) + n ≤ most_in_schedule → Added runs (set runs (count - 1) record { process = last.process; times = last.times + n }) process n
raised runs count process n last is ends read valid small =
    let at_end : last ≡ get_or runs (length runs - 1) last = rw is at read in
    let same : last.process ≡ process = ap (λ (r : Run). r.process) at_end ∙ ends.1 last in
    rw (is, ← same) (counted runs (set runs (length runs - 1) record { process = last.process; times = last.times + n }) last.process n
    (AreRuns_raised runs last n ends.0 at_end valid small) (entries_raised runs last n ends.0 at_end))

pub pushed : (runs new : List Run) (process n : ℕ) → new ≡ runs ++ record { process = process; times = n } ∷ [] → AreRuns runs → length (entries runs) + n ≤ most_in_schedule → 1 ≤ n →
    1 ≤ process → process ≤ most_in_schedule → (IsLastRun runs process → ⊥) → Added runs new process n
pushed runs new process n is valid small some least greatest other =
    rw is (counted runs (runs ++ record { process = process; times = n } ∷ []) process n
    (AreRuns_pushed runs process n valid small some least greatest other) (entries_push runs record { process = process; times = n }))

-- a schedule with room for more actions has room for more runs
pub runs_room : (runs : List Run) (letters : List Letter) (capacity other n : ℕ) → IsSchedule runs letters → length letters + n ≤ min capacity other → 1 ≤ n → length runs < capacity
runs_room runs letters capacity other n is room some =
    let count = length_le_entries runs is.runs_are.numbers in omega (arith, count, is.each, room, some)
