-- Runs of a schedule one after another.
use Rattle.std.specs.Prelude.{replicate}
use Rattle.std.proofs.Common.{◌≡◌, ◌⊎◌, refl, sym, ap, subst, ◌∙◌, inl, inr, ℕ, zero, suc, ◌+◌, ◌-◌, ◌≤◌, ◌<◌, List, [], ◌∷◌, ◌++◌, length, take, drop, get_or, append-nil, append_assoc, length-append, arith}
use Rattle.std.proofs.lemmas.List.{length-replicate, replicate-append-replicate}
use Rattle.b67_deeds.specs.declared.Letter.{Letter}
use Rattle.b67_segment.specs.declared.code.Code.{Code}
use Rattle.b67_schedule.specs.declared.Run.{Run}
use Rattle.b67_schedule.specs.Schedules.{entries}
use Rattle.b67_machine.specs.declared.replay.Replayed.{Replayed}
use Rattle.b67_machine.specs.Kept.{MachineModel}
use Rattle.b67_machine.specs.Replaying.{ReplaysEntries}

abbrev of_run : Run → List ℕ
of_run run = replicate run.times run.process

-- the entries of the first runs and of the next one are those of one run more
pub entries_next : (runs : List Run) (i : ℕ) (d : Run) → i < length runs
    → entries (take (suc i) runs) ≡ entries (take i runs) ++ replicate (get_or runs i d).times (get_or runs i d).process
entries_next [] i d less = absurd (omega (arith, less))
entries_next (r ∷ runs) zero d less = append-nil (of_run r)
entries_next (r ∷ runs) (suc i) d less =
    ap (λ (zs : List ℕ). of_run r ++ zs) (entries_next runs i d (omega (arith, less)))
    ∙ sym (append_assoc (of_run r) (entries (take i runs)) (of_run (get_or runs i d)))

-- and with those of the runs after them they are all
pub entries_split : (runs : List Run) (i : ℕ) → entries runs ≡ entries (take i runs) ++ entries (drop i runs)
entries_split [] zero = refl
entries_split [] (suc i) = refl
entries_split (r ∷ runs) zero = refl
entries_split (r ∷ runs) (suc i) =
    ap (λ (zs : List ℕ). of_run r ++ zs) (entries_split runs i) ∙ sym (append_assoc (of_run r) (entries (take i runs)) (entries (drop i runs)))

pub entries_end : (runs : List Run) (i : ℕ) → length runs ≤ i → entries (take i runs) ≡ entries runs
entries_end [] zero all = refl
entries_end [] (suc i) all = refl
entries_end (r ∷ runs) zero all = absurd (omega (arith, all))
entries_end (r ∷ runs) (suc i) all = ap (λ (zs : List ℕ). of_run r ++ zs) (entries_end runs i (omega (arith, all)))

module _ (code : Code) (budget : ℕ) (runs : List Run) (i : ℕ) (d : Run) (less : i < length runs) where
  pub entries_then : (before : List ℕ) → before ≡ entries (take i runs) → before ++ of_run (get_or runs i d) ≡ entries (take (suc i) runs)
  entries_then before e = ap (λ (xs : List ℕ). xs ++ of_run (get_or runs i d)) e ∙ sym (entries_next runs i d less)

  -- a run more is within all
  pub next_within : (before : List ℕ) → before ≡ entries (take i runs) → length before + (get_or runs i d).times ≤ length (entries runs)
  next_within before e = omega (
    arith,
    ap length (entries_then before e),
    ap length (entries_split runs (suc i)),
    length-append before (of_run (get_or runs i d)),
    length-replicate (get_or runs i d).times (get_or runs i d).process,
    length-append (entries (take (suc i) runs)) (entries (drop (suc i) runs)),
  )

  -- there is room for a run more
  pub room_next : (before : List ℕ) (room now : ℕ) → before ≡ entries (take i runs) → room ≤ now → (length (entries runs) ≤ room) ⊎ (budget ≤ room)
      → (length before + (get_or runs i d).times ≤ now) ⊎ (budget ≤ now)
  room_next before room now e more (inr h) = inr (omega (arith, h, more))
  room_next before room now e more (inl h) = inl (omega (arith, next_within before e, h, more))

  -- the replay has ended within a run
  pub ends_in : (its : Code) → its ≡ code → (before done : List ℕ) (noted : List Letter) (new : MachineModel) (answer : Replayed) → before ≡ entries (take i runs)
      → ((more : List ℕ) → ReplaysEntries its (before ++ of_run (get_or runs i d) ++ more) budget done noted new answer) → ReplaysEntries code (entries runs) budget done noted new answer
  ends_in its same before done noted new answer e h =
      subst (λ (given : List ℕ). ReplaysEntries code given budget done noted new answer)
      (ap (λ (xs : List ℕ). xs ++ entries (drop (suc i) runs)) (entries_then before e) ∙ sym (entries_split runs (suc i)))
      (subst (λ (k : Code). ReplaysEntries k (before ++ of_run (get_or runs i d) ++ entries (drop (suc i) runs)) budget done noted new answer) same (h (entries (drop (suc i) runs))))

-- ---- the entries of one run

-- so many of them, and so many more
pub more_of_run : (start before : List ℕ) (p n k t : ℕ) → before ≡ start ++ replicate n p → t ≡ n + k → before ++ replicate k p ≡ start ++ replicate t p
more_of_run start before p n k t here e =
    ap (λ (xs : List ℕ). xs ++ replicate k p) here
    ∙ append_assoc start (replicate n p) (replicate k p)
    ∙ ap (λ (xs : List ℕ). start ++ xs) (replicate-append-replicate n k p ∙ ap (λ (m : ℕ). replicate m p) (sym e))

-- the replay has ended at one of the first of them
pub ends_in_run : (code : Code) (budget : ℕ) (start : List ℕ) (p first total : ℕ) → first ≤ total → (before : List ℕ) → before ≡ start ++ replicate first p → (its : Code) → its ≡ code
    → (done : List ℕ) (noted : List Letter) (new : MachineModel) (answer : Replayed) → ((more : List ℕ) → ReplaysEntries its (before ++ more) budget done noted new answer)
    → (more : List ℕ) → ReplaysEntries code (start ++ replicate total p ++ more) budget done noted new answer
ends_in_run code budget start p first total few before here its same done noted new answer h more =
    let rest : List ℕ = replicate (total - first) p in
    let all : before ++ (rest ++ more) ≡ start ++ replicate total p ++ more =
    sym (append_assoc before rest more)
    ∙ ap (λ (xs : List ℕ). xs ++ more) (more_of_run start before p first (total - first) total here (omega (arith, few))) in
    subst (λ (given : List ℕ). ReplaysEntries code given budget done noted new answer) all
    (subst (λ (k : Code). ReplaysEntries k (before ++ (rest ++ more)) budget done noted new answer) same (h (rest ++ more)))

-- there is room for those that are left
pub room_left : (before now times n most room budget : ℕ) → (before + times ≤ most) ⊎ (budget ≤ most) → now ≡ before + n → n ≤ times → most ≤ room
    → (now + (times - n) ≤ room) ⊎ (budget ≤ room)
room_left before now times n most room budget (inl h) e few more = inl (omega (arith, h, e, few, more))
room_left before now times n most room budget (inr h) e few more = inr (omega (arith, h, more))
