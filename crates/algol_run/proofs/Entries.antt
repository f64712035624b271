-- A schedule entry by entry.
use Rattle.std.proofs.Common.{arith, ◌≡◌, refl, ℕ, suc, ◌+◌, ◌<◌, ◌++◌, Bool, true, false, if◌then◌else◌, List, [], ◌∷◌, length, take, get_or, ap, sym, ◌∙◌, Option, Some, None, slice_get}
use Rattle.std.proofs.lemmas.Option.{slice_get-get_or}
use Rattle.algol_tree.specs.Scopes.{Scopes}
use Rattle.algol_meaning.specs.World.{World}
use Rattle.algol_meaning.specs.Choice.{Choice, choice}
use Rattle.algol_meaning.specs.Run.{End, end_of, may_go, after_entry, run_from}
use Rattle.algol_cells.specs.SeenScope.{scoped}
use Rattle.algol_cells.specs.declared.scope.Scopes as code
use Rattle.algol_perform.proofs.Newer.{take_more}
use Rattle.algol_run.specs.Stepping.{RunStep, ended, not_able, went, chosen_by, step_by, step_of}

-- the world after a step that goes
abbrev pub entered : RunStep → Option World
entered not_able = None
entered (went c) = Some c.world
entered (ended c) = Some c.world

entry_is : (sc : Scopes) (w : World) (p : ℕ) → after_entry sc w p ≡ entered (step_of sc w p)
unfolding after_entry
entry_is sc w p = by (may_go w p) (choice sc w p)
  where
    chosen : (e : Option End) (c : Choice) → Some c.world ≡ entered (chosen_by e c)
    chosen None c = refl
    chosen (Some e) c = refl

    by : (may : Bool) (c : Choice) → (if may then Some c.world else None) ≡ entered (step_by may c)
    by true c = chosen (end_of c.world) c
    by false c = refl

run_none : (sc : Scopes) (o : Option World) → run_from sc [] o ≡ o
run_none sc None = refl
run_none sc (Some w) = refl

run_last : (sc : Scopes) (h : List ℕ) (p : ℕ) (o : Option World) (v : World) → run_from sc h o ≡ Some v → run_from sc (h ++ p ∷ []) o ≡ after_entry sc v p
run_last sc [] p None v e = cc
run_last sc (q ∷ h) p None v e = cc
run_last sc [] p (Some w) v e =
    let same : w ≡ v = cc in run_none sc (after_entry sc w p) ∙ ap (λ (u : World). after_entry sc u p) same
run_last sc (q ∷ h) p (Some w) v e = run_last sc h p (after_entry sc w q) v e

-- one entry more
run_more :
    (sc : Scopes) (h : List ℕ) (k p : ℕ) (w v : World) (s : RunStep) → Some p ≡ slice_get h k → run_from sc (take k h) (Some w) ≡ Some v
    → s ≡ step_of sc v p → run_from sc (take (suc k) h) (Some w) ≡ entered s
run_more sc h k p w v s at so_far e =
    ap (λ (ps : List ℕ). run_from sc ps (Some w)) (take_more h k p at) ∙ run_last sc (take k h) p (Some w) v so_far ∙ entry_is sc v p
    ∙ ap entered (sym e)

-- one entry more of a schedule that is gone through by its index
pub entry_more :
    (was now : code.Scopes) (h : List ℕ) (k i : ℕ) (w v : World) (s : RunStep) → now ≡ was → k ≡ i → i < length h
    → run_from (scoped was) (take k h) (Some w) ≡ Some v → s ≡ step_of (scoped now) v (get_or h i 0)
    → run_from (scoped was) (take (k + 1) h) (Some w) ≡ entered s
entry_more was now h k i w v s same at less so_far e =
    let p = get_or h i 0 in
    let more : k + 1 ≡ suc k = omega arith in
    let here : Some p ≡ slice_get h k = sym (slice_get-get_or h i 0 less) ∙ ap (λ (n : ℕ). slice_get h n) (sym at) in
    let told_so : s ≡ step_of (scoped was) v p = e ∙ ap (λ (scopes : code.Scopes). step_of (scoped scopes) v p) same in
    ap (λ (n : ℕ). run_from (scoped was) (take n h) (Some w)) more ∙ run_more (scoped was) h k p w v s here so_far told_so
