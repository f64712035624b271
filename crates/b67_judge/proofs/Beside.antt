-- A walk over a schedule in a world that runs beside that of the meaning.
use Rattle.std.proofs.Common.{arith, ◌≡◌, ◌⊎◌, inl, inr, sym, ap, ◌∙◌, subst, ℕ, zero, ◌+◌, ◌<◌, ◌≤◌, Bool, true, false, List, [], length, drop, get_or, replicate, Some, length-append}
use Rattle.std.specs.Prelude.{Result, Ok, Err, IfOk}
use Rattle.algol_front.proofs.Ordered.{IsSource}
use Rattle.algol_tree.specs.Plain.{PProgram}
use Rattle.algol_tree.specs.Scopes.{Scopes, scopes_of}
use Rattle.algol_cells.specs.declared.scope.Scopes as code
use Rattle.algol_cells.specs.SeenScope.{scoped}
use Rattle.algol_meaning.specs.World.{World}
use Rattle.algol_meaning.specs.Run.{start, may_go, run_from}
use Rattle.algol_world.specs.SeenWorld.{world_of}
use Rattle.algol_world.specs.declared.world.World as worlds
use Rattle.algol_world.specs.declared.acted.Acted.{Acted}
use Rattle.algol_run.specs.Stepping.{is_going}
use Rattle.algol_run.specs.declared.stepping.Stepped.{Stepped}
use Rattle.algol_run.specs.declared.stepping.Stepped.TheVariants as stepped
use Rattle.algol_lean.specs.Lean.{Lean}
use Rattle.algol_lean.specs.Beside.{RunsBeside, StepsBeside}
use Rattle.algol_lean.proofs.Doing.{ends_lean}
use Rattle.algol_lean.proofs.Steps.{source_beside}
use Rattle.b67_schedule.specs.declared.Run.{Run}
use Rattle.b67_schedule.specs.Schedules.{entries}
use Rattle.b67_schedule.proofs.Cited.{entries_drop}
use Rattle.b67_report.specs.declared.EndWords.{EndWords}
use Rattle.b67_report.specs.declared.EndWords.TheVariants as ends
use Rattle.b67_judge.specs.Judging.{EndFits}
use Rattle.b67_judge.specs.Walked.{WentBeside, GoesAsFar, StopsAt, WalksBeside}
use Rattle.b67_judge.specs.declared.walking.Walked.TheVariants.{Whole, Stopped}
use Rattle.b67_judge.proofs.Steps.{went_more, stays_so, Stands, stands_first, walk_more, walk_stops, whole_so, length_replicate}

-- ---- the first world

pub first_beside : {E : Type 0} (tree : PProgram) (sc : code.Scopes) (r : Result worlds.World E) → IsSource tree → scoped sc ≡ scopes_of tree →
    IfOk r (λ w. world_of w ≡ start (scoped sc)) → IfOk r (λ w. w.scopes ≡ sc) → IfOk r (λ w. RunsBeside (scoped w.scopes) (start (scopes_of tree)) (world_of w))
first_beside tree sc (Ok w) is same begins its =
    subst (λ (k : Scopes). RunsBeside k (start (scopes_of tree)) (world_of w)) (sym (ap scoped its ∙ same))
    (subst (λ (v : World). RunsBeside (scopes_of tree) (start (scopes_of tree)) v) (sym (begins ∙ ap start same)) (source_beside tree is))
first_beside tree sc (Err e) is same begins its = tt

-- ---- entries of one process

pub goes_by : (s : Stepped) → ((a : Acted) × (s ≡ stepped.Went a)) ⊎ ((a : Acted) × (s ≡ stepped.Ended a)) → is_going s ≡ true
goes_by s (inl (a, is)) = ap is_going is
goes_by s (inr (a, is)) = ap is_going is

module _ (sc sc' : Scopes) (w now after : World) (n p : ℕ) (s : Stepped) (same : sc' ≡ sc) (t : WentBeside sc w n p now)
    (steps : (v : World) → RunsBeside sc' v now → StepsBeside sc' v p after s) where
  next : StepsBeside sc t.after p after s
  next = subst (λ (k : Scopes). StepsBeside k t.after p after s) same (steps t.after (subst (λ (k : Scopes). RunsBeside k t.after now) (sym same) t.beside))

  pub goes_more : is_going s ≡ true → WentBeside sc w (n + 1) p after
  goes_more going = record { after = next.after; went = went_more sc n p w t.after next.after s t.went next.step going; beside = next.beside }

  pub goes_no_more : (times : ℕ) → is_going s ≡ false → GoesAsFar sc w n times p after
  goes_no_more times stays =
      record {
        goes = record { after = next.after; went = t.went ∙ ap Some (sym (next.still stays)); beside = next.beside };
        stays = λ less. ap (λ (v : World). may_go v p) (next.still stays) ∙ stays_so sc t.after next.after p s next.step stays;
      }

-- ---- run by run

pub record StandsBeside (sc : Scopes) (given : List ℕ) (w now : World) (count : ℕ) (left : List ℕ) : Type 0 where
  pub after : World
  pub stands : Stands sc given w after count left
  pub beside : RunsBeside sc after now

pub stands_beside : (sc : Scopes) (given : List ℕ) (w now : World) → RunsBeside sc w now → StandsBeside sc given w now 0 given
stands_beside sc given w now b = record { after = w; stands = stands_first sc given w; beside = b }

-- how many entries are left
module _ (runs items : List Run) (i : ℕ) (d : Run) (before n total : ℕ) (same : items ≡ runs) (l : i < length items) (counted : before + length (entries (drop i runs)) ≡ total) where
  run_length : length (entries (drop i runs)) ≡ (get_or items i d).times + length (entries (drop (i + 1) runs))
  run_length =
      ap (λ (rs : List Run). length (entries (drop i rs))) (sym same)
      ∙ ap (λ (ps : List ℕ). length ps) (entries_drop items i d l)
      ∙ length-append (replicate ((get_or items i d).times) ((get_or items i d).process)) (entries (drop (i + 1) items))
      ∙ ap (λ (k : ℕ). k + length (entries (drop (i + 1) items))) (length_replicate ((get_or items i d).times) ((get_or items i d).process))
      ∙ ap (λ (rs : List Run). (get_or items i d).times + length (entries (drop (i + 1) rs))) same

  pub count_more : n ≤ (get_or items i d).times → (get_or items i d).times ≤ n → (before + n) + length (entries (drop (i + 1) runs)) ≡ total
  count_more a b = let r = run_length in omega (arith, r, counted, a, b)

  pub count_within : n ≤ (get_or items i d).times → before + n ≤ total
  count_within a = let r = run_length in omega (arith, r, counted, a)

  pub count_below : n < (get_or items i d).times → before + n + 1 ≤ total
  count_below a = let r = run_length in omega (arith, r, counted, a)

module _ (sc sc' : Scopes) (runs items : List Run) (i : ℕ) (d : Run) (w now then : World) (before n : ℕ) (same : items ≡ runs) (l : i < length items) (scopes : sc' ≡ sc)
    (s : StandsBeside sc (entries runs) w now before (entries (drop i runs)))
    (goes : (v : World) → RunsBeside sc' v now → GoesAsFar sc' v n ((get_or items i d).times) ((get_or items i d).process) then) where
  went : GoesAsFar sc s.after n ((get_or items i d).times) ((get_or items i d).process) then
  went =
      subst (λ (k : Scopes). GoesAsFar k s.after n ((get_or items i d).times) ((get_or items i d).process) then) scopes
      (goes s.after (subst (λ (k : Scopes). RunsBeside k s.after now) (sym scopes) s.beside))

  pub walk_beside : n ≤ (get_or items i d).times → (get_or items i d).times ≤ n → StandsBeside sc (entries runs) w then (before + n) (entries (drop (i + 1) runs))
  walk_beside a b =
      record {
        after = went.goes.after;
        stands = walk_more sc runs items i d w s.after went.goes.after before n same l s.stands went.goes.went a b;
        beside = went.goes.beside;
      }

  pub stops_beside : n < (get_or items i d).times → WalksBeside sc (entries runs) w then (Stopped (before + n + 1))
  stops_beside less =
      record {
        after = went.goes.after;
        walks = walk_stops sc runs items i d w s.after went.goes.after before n same l s.stands went.goes.went less (went.stays less);
        beside = went.goes.beside;
      }

pub whole_beside : (sc : Scopes) (given : List ℕ) (w now : World) (count : ℕ) (left : List ℕ) → left ≡ [] → StandsBeside sc given w now count left → WalksBeside sc given w now Whole
whole_beside sc given w now count left none s = record { after = s.after; walks = whole_so sc given w s.after count left none s.stands; beside = s.beside }

-- ---- ends

fits_lean : (w v : World) (n : ℕ) (e : EndWords) → Lean w v → EndFits v n e → EndFits w n e
fits_lean w v n ends.Finished l f = sym (ends_lean w v l) ∙ f
fits_lean w v n (ends.Fault kind process) l f = sym (ends_lean w v l) ∙ f
fits_lean w v n ends.AllWaiting l f = sym (ends_lean w v l) ∙ f
fits_lean w v n ends.BudgetSpent l f = sym (ends_lean w v l) ∙ f
fits_lean w v n (ends.StackLimit process words) l f = sym (ends_lean w v l) ∙ f
fits_lean w v n ends.ScheduleEnded l f = sym (ends_lean w v l) ∙ f
fits_lean w v n (ends.Illegal entry) l f = f
fits_lean w v n (ends.Differs entry) l f = f

fits_whole : (w v : World) (n : ℕ) (e : EndWords) → Lean w v → EndFits w n e → EndFits v n e
fits_whole w v n ends.Finished l f = ends_lean w v l ∙ f
fits_whole w v n (ends.Fault kind process) l f = ends_lean w v l ∙ f
fits_whole w v n ends.AllWaiting l f = ends_lean w v l ∙ f
fits_whole w v n ends.BudgetSpent l f = ends_lean w v l ∙ f
fits_whole w v n (ends.StackLimit process words) l f = ends_lean w v l ∙ f
fits_whole w v n ends.ScheduleEnded l f = ends_lean w v l ∙ f
fits_whole w v n (ends.Illegal entry) l f = f
fits_whole w v n (ends.Differs entry) l f = f

-- an end fits a world exactly where it fits one that runs beside it
pub fits_beside : (sc : Scopes) (w v : World) (n : ℕ) (e : EndWords) → RunsBeside sc w v → EndFits v n e → EndFits w n e
fits_beside sc w v n e b f = fits_lean w v n e b.lean f

pub fits_not_beside : (sc : Scopes) (w v : World) (n : ℕ) (e : EndWords) → RunsBeside sc w v → (EndFits v n e → ⊥) → EndFits w n e → ⊥
fits_not_beside sc w v n e b other f = other (fits_whole w v n e b.lean f)
