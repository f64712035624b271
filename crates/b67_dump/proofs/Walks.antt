-- The first entries of a schedule, run by run, in a world that runs beside that of the meaning.
use Rattle.std.proofs.Common.{arith, ◌≡◌, refl, ap, sym, ◌∙◌, subst, ℕ, zero, suc, ◌+◌, ◌-◌, ◌<◌, ◌≤◌, min, List, [], ◌∷◌, ◌++◌, length, take, drop, get_or, replicate}
use Rattle.algol_tree.specs.Scopes.{Scopes}
use Rattle.algol_meaning.specs.World.{World}
use Rattle.b67_schedule.specs.declared.Run.{Run}
use Rattle.b67_schedule.specs.Schedules.{entries}
use Rattle.b67_schedule.proofs.Cited.{entries_drop}
use Rattle.algol_lean.specs.Beside.{RunsBeside}
use Rattle.b67_judge.specs.Walked.{GoesAsFar, WalksBeside}
use Rattle.b67_judge.specs.declared.walking.Walked.TheVariants.{Whole, Stopped}
use Rattle.b67_judge.proofs.Steps.{Stands, stands_more, stops_so}
use Rattle.b67_judge.proofs.Beside.{StandsBeside, stands_beside, whole_beside}

-- of so many entries the first ones are of the first run
take_entries : (left times p : ℕ) (rest : List ℕ) → take left (replicate times p ++ rest) ≡ replicate (min left times) p ++ take (left - min left times) rest
take_entries zero times p rest = let none : min zero times ≡ 0 = omega arith in rw none refl
take_entries (suc left) zero p rest =
    let none : min (suc left) zero ≡ 0 = omega arith in
    let all : suc left - 0 ≡ suc left = omega arith in rw (none, all) refl
take_entries (suc left) (suc times) p rest =
    let one : min (suc left) (suc times) ≡ suc (min left times) = omega arith in
    let less : suc left - suc (min left times) ≡ left - min left times = omega arith in
    rw (one, less) (ap (λ (xs : List ℕ). p ∷ xs) (take_entries left times p rest))

-- Of the first so many entries those of these runs are to be made yet, at most so many as are left.
abbrev pub FirstBeside : Scopes → ℕ → List Run → World → World → ℕ → List Run → Type 0
FirstBeside sc most runs w now left rest = StandsBeside sc (take most (entries runs)) w now (most - left) (take left (entries rest))

pub first_beside : (sc : Scopes) (most : ℕ) (runs : List Run) (w now : World) → RunsBeside sc w now → FirstBeside sc most runs w now most runs
first_beside sc most runs w now b =
    let none : 0 ≡ most - most = omega arith in
    subst (λ (k : ℕ). StandsBeside sc (take most (entries runs)) w now k (take most (entries runs))) none (stands_beside sc (take most (entries runs)) w now b)

module _ (sc sc' : Scopes) (most : ℕ) (runs : List Run) (i : ℕ) (d : Run) (w now then : World) (left times n : ℕ) (l : i < length runs) (scopes : sc' ≡ sc) (within : left ≤ most)
    (s : FirstBeside sc most runs w now left (drop i runs)) (lesser : times ≡ min left ((get_or runs i d).times))
    (goes : (v : World) → RunsBeside sc' v now → GoesAsFar sc' v n times ((get_or runs i d).process) then) where
  abbrev p : ℕ
  p = (get_or runs i d).process

  went : GoesAsFar sc s.after n times p then
  went =
      subst (λ (k : Scopes). GoesAsFar k s.after n times p then) scopes
      (goes s.after (subst (λ (k : Scopes). RunsBeside k s.after now) (sym scopes) s.beside))

  here : Stands sc (take most (entries runs)) w s.after (most - left) (replicate times p ++ take (left - times) (entries (drop (i + 1) runs)))
  here =
      subst (λ (k : ℕ). Stands sc (take most (entries runs)) w s.after (most - left) (replicate k p ++ take (left - k) (entries (drop (i + 1) runs)))) (sym lesser)
      (subst (λ (xs : List ℕ). Stands sc (take most (entries runs)) w s.after (most - left) xs)
      (ap (λ (xs : List ℕ). take left xs) (entries_drop runs i d l) ∙ take_entries left ((get_or runs i d).times) p (entries (drop (i + 1) runs))) s.stands)

  pub first_more : n ≤ times → times ≤ n → FirstBeside sc most runs w then (left - times) (drop (i + 1) runs)
  first_more a b =
      let all : times ≡ n = omega (arith, a, b) in
      let few : times ≤ left = omega (arith, lesser) in
      let counted : most - left + n ≡ most - (left - times) = omega (arith, a, b, few, within) in
      record {
        after = went.goes.after;
        stands =
            subst (λ (k : ℕ). Stands sc (take most (entries runs)) w went.goes.after k (take (left - times) (entries (drop (i + 1) runs)))) counted
            (stands_more sc (take most (entries runs)) w s.after went.goes.after (most - left) n p (take (left - times) (entries (drop (i + 1) runs)))
            (subst (λ (k : ℕ). Stands sc (take most (entries runs)) w s.after (most - left) (replicate k p ++ take (left - times) (entries (drop (i + 1) runs)))) all here) went.goes.went);
        beside = went.goes.beside;
      }

  pub first_stops : n < times → WalksBeside sc (take most (entries runs)) w then (Stopped (most - left + n + 1))
  first_stops less =
      record {
        after = went.goes.after;
        walks = stops_so sc (take most (entries runs)) w s.after went.goes.after (most - left) n times p (take (left - times) (entries (drop (i + 1) runs))) less here went.goes.went (went.stays less);
        beside = went.goes.beside;
      }

take_none : (k : ℕ) → take {A = ℕ} k [] ≡ []
take_none zero = refl
take_none (suc k) = refl

-- no run is left
pub first_whole : (sc : Scopes) (most : ℕ) (runs : List Run) (w now : World) (left : ℕ) (rest : List Run) → rest ≡ [] → FirstBeside sc most runs w now left rest
    → WalksBeside sc (take most (entries runs)) w now Whole
first_whole sc most runs w now left rest none s =
    whole_beside sc (take most (entries runs)) w now (most - left) (take left (entries rest)) (ap (λ (rs : List Run). take left (entries rs)) none ∙ take_none left) s
