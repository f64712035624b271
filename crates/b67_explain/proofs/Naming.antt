-- Each entry of a legal schedule is of a process that there is in the world after it.
use Rattle.std.proofs.Common.{◌≡◌, ℕ, ◌≤◌, Bool, true, false, List, [], ◌∷◌, length, Option, Some, None, refl}
use Rattle.std.specs.Prelude.{if◌then◌else◌}
use Rattle.std.specs.List.{AllByRecursion}
use Rattle.b67_list.specs.Numbered.{numbered}
use Rattle.algol_tree.specs.Scopes.{Scopes}
use Rattle.algol_meaning.specs.World.{World, Process, is_able, or_no_process, process_at}
use Rattle.algol_meaning.specs.Choice.{choice}
use Rattle.algol_meaning.specs.Run.{may_go, end_of, after_entry, run_from}
use Rattle.algol_meaning.proofs.Cited.{goes_able}
use Rattle.algol_laws.specs.Kept.{EachRunGrows}
use Rattle.b67_table.proofs.Lists.{numbered_within, numbered_from}

-- the process is one of so many
abbrev pub IsOneOf : ℕ → ℕ → Type 0
IsOneOf n p = (1 ≤ p) × (p ≤ n)

some_process : (o : Option Process) → is_able ((or_no_process o).state) ≡ true → (q : Process) × (o ≡ Some q)
some_process (Some q) e = (q, refl)
some_process None e = cc

pub going_is_able : (w : World) (p : ℕ) → may_go w p ≡ true → is_able ((process_at w p).state) ≡ true
unfolding may_go
going_is_able w p e = goes_able (end_of w) (is_able ((process_at w p).state)) e

pub able_is_one : (w : World) (p : ℕ) → is_able ((process_at w p).state) ≡ true → IsOneOf (length w.processes) p
able_is_one w p e = let q = some_process (numbered w.processes p) e in (numbered_from w.processes p q.0 q.1, numbered_within w.processes p q.0 q.1)

module _ (sc : Scopes) (grows : EachRunGrows) where
  stays_one : (h : List ℕ) (w after : World) (p : ℕ) → run_from sc h (Some w) ≡ Some after → is_able ((process_at w p).state) ≡ true →
      IsOneOf (length after.processes) p
  stays_one h w after p e able_now =
      let q = some_process (numbered w.processes p) able_now in
      let r = (grows sc h w after e).processes p q.0 q.1 in
      (numbered_from after.processes p r.0 r.1, numbered_within after.processes p r.0 r.1)

  none_left : (h : List ℕ) (after : World) → run_from sc h None ≡ Some after → ⊥
  none_left [] after e = cc
  none_left (p ∷ h) after e = cc

  pub entries_are_there : (h : List ℕ) (w after : World) → run_from sc h (Some w) ≡ Some after → AllByRecursion (IsOneOf (length after.processes)) h
  unfolding after_entry
  entries_are_there [] w after e = tt
  entries_are_there (p ∷ h) w after e = by (may_go w p) refl e (λ f. entries_are_there h ((choice sc w p).world) after f)
    where
      by : (b : Bool) → may_go w p ≡ b → run_from sc h (if b then Some ((choice sc w p).world) else None) ≡ Some after →
          (run_from sc h (Some ((choice sc w p).world)) ≡ Some after → AllByRecursion (IsOneOf (length after.processes)) h) →
          IsOneOf (length after.processes) p × AllByRecursion (IsOneOf (length after.processes)) h
      by true goes f g = (stays_one (p ∷ h) w after p e (going_is_able w p goes), g f)
      by false goes f g = absurd (none_left h after f)
