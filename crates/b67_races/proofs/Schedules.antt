-- One entry more.
use Rattle.std.proofs.Common.{arith, ◌≡◌, refl, ap, sym, ◌∙◌, subst, ℕ, zero, suc, ◌+◌, ◌<◌, List, [], ◌∷◌, ◌++◌, Bool, true, false, length, replicate, get_or, drop, Option, Some, None, append_assoc, append-nil, ◌-◌}
use Rattle.algol_tree.specs.Plain.{PProgram}
use Rattle.algol_tree.specs.Scopes.{Scopes, scopes_of}
use Rattle.algol_meaning.specs.World.{World}
use Rattle.algol_meaning.specs.Choice.{choice}
use Rattle.algol_meaning.specs.Run.{after_entry, run, run_from, start}
use Rattle.algol_meaning.proofs.Cited.{after_is, entry_is, no_world, run_none, stays_none}
use Rattle.algol_seen.specs.Accesses.{done_of}
use Rattle.algol_seen.specs.Seen.{told_done, ProcessIsSeen}
use Rattle.algol_seen.specs.declared.seen.Seen.{Seen}
use Rattle.algol_lean.specs.Beside.{RunsBeside, SeenBeside}
use Rattle.algol_lean.proofs.InUse.{run_is}
use Rattle.b67_race.specs.Entries.{Done}
use Rattle.b67_race.specs.Noted.{StandsAfter}
use Rattle.b67_race.specs.declared.walk.Walk.{Walk}
use Rattle.b67_schedule.specs.declared.Run.{Run}
use Rattle.b67_schedule.specs.Schedules.{entries}
use Rattle.b67_schedule.proofs.Cited.{entries_drop}
use Rattle.b67_judge.proofs.Steps.{run_append}
use Rattle.b67_race.specs.Races.{Race, AreRaces}
use Rattle.b67_races.specs.Schedules.{all_done_from, AreRacesOf}
use Rattle.b67_races.specs.Walking.{ScheduleStands, WorldGoes}

pub done_more : (sc : Scopes) (h : List ℕ) (p : ℕ) (w v : World) → run_from sc h (Some w) ≡ Some v → all_done_from sc w (h ++ p ∷ []) ≡ all_done_from sc w h ++ done_of sc v p ∷ []
done_more sc [] p w v e = let same : w ≡ v = value e in ap (λ (u : World). done_of sc u p ∷ []) same
  where
    value : Some w ≡ Some v → w ≡ v
    value f = cc
done_more sc (q ∷ h) p w v e = ap (λ (ds : List Done). done_of sc w q ∷ ds) (done_more sc h p ((choice sc w q).world) v (after_is sc w q h v e))

-- ---- where a walk stands

module _ (sc : Scopes) (w : World) (given : List ℕ) (now after : World) (walk later : Walk) (p : ℕ) (left : List ℕ) (s : ScheduleStands sc w given now walk (p ∷ left)) where
  -- an entry that goes is noted
  pub stands_more : (seen : Seen) → SeenBeside sc s.world p after (Some seen) → ((ds : List Done) → StandsAfter ds walk → StandsAfter (ds ++ told_done p seen ∷ []) later)
      → ScheduleStands sc w given after later left
  stands_more seen b noted =
      record {
        done = s.done ++ p ∷ [];
        split = s.split ∙ sym (append_assoc s.done (p ∷ []) left);
        world = b.after;
        legal = run_append sc s.done (p ∷ []) (Some w) ∙ ap (λ (o : Option World). run_from sc (p ∷ []) o) s.legal
            ∙ last (after_entry sc s.world p) (entry_is sc s.world b.after p is.may is.world);
        beside = b.beside;
        noted = subst (λ (ds : List Done). StandsAfter ds later)
            (sym (done_more sc s.done p w s.world s.legal ∙ ap (λ (d : Done). all_done_from sc w s.done ++ d ∷ []) (sym is.done)))
            (noted (all_done_from sc w s.done) s.noted);
      }
    where
      is : ProcessIsSeen sc s.world p b.after seen
      is = b.step

      last : (o : Option World) → o ≡ Some b.after → run_from sc [] o ≡ Some b.after
      last None q = q
      last (Some x) q = q

  -- one that may not go makes the schedule illegal
  pub stands_none : SeenBeside sc s.world p after None → run_from sc given (Some w) ≡ None
  stands_none b =
      ap (λ (h : List ℕ). run_from sc h (Some w)) s.split
      ∙ run_append sc s.done (p ∷ left) (Some w)
      ∙ ap (λ (o : Option World). run_from sc (p ∷ left) o) s.legal
      ∙ ap (λ (o : Option World). run_from sc left o) (stays_none sc s.world p b.step.0)
      ∙ run_none sc left

-- ---- runs

split_one : (n p : ℕ) (left : List ℕ) → 0 < n → replicate n p ++ left ≡ p ∷ (replicate (n - 1) p ++ left)
split_one zero p left l = absurd (omega (arith, l))
split_one (suc n) p left l = let r : n ≡ suc n - 1 = omega arith in ap (λ (k : ℕ). p ∷ (replicate k p ++ left)) r

module _
    (sc sc' : Scopes) (w : World) (given : List ℕ) (now after : World) (walk later : Walk) (p n : ℕ) (left : List ℕ) (b : Bool) (same : sc' ≡ sc) (more : 0 < n)
    (s : ScheduleStands sc w given now walk (replicate n p ++ left)) (goes : (rest : List ℕ) → ScheduleStands sc' w given now walk (p ∷ rest) → WorldGoes sc' w given after later rest b) where
  one_more : WorldGoes sc w given after later (replicate (n - 1) p ++ left) b
  one_more =
      subst (λ (k : Scopes). WorldGoes k w given after later (replicate (n - 1) p ++ left) b) same
      (goes (replicate (n - 1) p ++ left)
      (subst (λ (k : Scopes). ScheduleStands k w given now walk (p ∷ (replicate (n - 1) p ++ left))) (sym same)
      (subst (λ (xs : List ℕ). ScheduleStands sc w given now walk xs) (split_one n p left more) s)))

  pub one_stops : b ≡ false → run_from sc given (Some w) ≡ None
  one_stops e = subst (λ (c : Bool). WorldGoes sc w given after later (replicate (n - 1) p ++ left) c) e one_more

module _
    (sc sc' : Scopes) (w : World) (given : List ℕ) (now after : World) (walk later : Walk) (runs items : List Run) (i : ℕ) (d : Run) (b : Bool) (is : items ≡ runs)
    (less : i < length items) (same : sc' ≡ sc) (s : ScheduleStands sc w given now walk (entries (drop i runs)))
    (goes : (rest : List ℕ) → ScheduleStands sc' w given now walk (replicate ((get_or items i d).times) ((get_or items i d).process) ++ rest) → WorldGoes sc' w given after later rest b) where
  this_run : entries (drop i runs) ≡ replicate ((get_or items i d).times) ((get_or items i d).process) ++ entries (drop (i + 1) runs)
  this_run =
      ap (λ (rs : List Run). entries (drop i rs)) (sym is) ∙ entries_drop items i d less
      ∙ ap (λ (rs : List Run). replicate ((get_or items i d).times) ((get_or items i d).process) ++ entries (drop (i + 1) rs)) is

  run_more : WorldGoes sc w given after later (entries (drop (i + 1) runs)) b
  run_more =
      subst (λ (k : Scopes). WorldGoes k w given after later (entries (drop (i + 1) runs)) b) same
      (goes (entries (drop (i + 1) runs))
      (subst (λ (k : Scopes). ScheduleStands k w given now walk (replicate ((get_or items i d).times) ((get_or items i d).process) ++ entries (drop (i + 1) runs))) (sym same)
      (subst (λ (xs : List ℕ). ScheduleStands sc w given now walk xs) this_run s)))

  pub run_stops : b ≡ false → run_from sc given (Some w) ≡ None
  run_stops e = subst (λ (c : Bool). WorldGoes sc w given after later (entries (drop (i + 1) runs)) c) e run_more

-- ---- a whole schedule

module _ (tree : PProgram) (h : List ℕ) (now after : World) (walk : Walk) (rs : List Race) (legal : run tree h ≡ Some after) (found : (ds : List Done) → StandsAfter ds walk → AreRaces ds rs) where
  races_so : (b : Bool) → WorldGoes (scopes_of tree) (start (scopes_of tree)) h now walk [] b → AreRacesOf tree h rs
  races_so true s =
      subst (λ (xs : List ℕ). AreRaces (all_done_from (scopes_of tree) (start (scopes_of tree)) xs) rs) (sym (s.split ∙ append-nil s.done))
      (found (all_done_from (scopes_of tree) (start (scopes_of tree)) s.done) s.noted)
  races_so false g = absurd (no_world (sym g ∙ sym (run_is tree h) ∙ legal))

  pub all_so :
      (sc : Scopes) (v : World) (first : Walk) (b : Bool) → sc ≡ scopes_of tree → RunsBeside sc (start (scopes_of tree)) v → StandsAfter [] first
      → ((w : World) (given : List ℕ) → ScheduleStands sc w given v first h → WorldGoes sc w given now walk [] b) → AreRacesOf tree h rs
  all_so sc v first b same beside none goes =
      races_so b
      (subst (λ (k : Scopes). WorldGoes k (start (scopes_of tree)) h now walk [] b) same
      (goes (start (scopes_of tree)) h
      (record { done = []; split = refl; world = start (scopes_of tree); legal = refl; beside = beside; noted = none })))
