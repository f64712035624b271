-- A report has one verdict.
use Rattle.std.proofs.Common.{arith, ◌≡◌, ◌⊎◌, inl, inr, refl, ap, sym, ◌∙◌, subst, ℕ, zero, suc, ◌+◌, ◌<◌, false, List, [], ◌∷◌, ◌++◌, length, take, Option, Some, None, slice_get}
use Rattle.algol_tree.specs.Plain.{PProgram}
use Rattle.algol_tree.specs.Scopes.{scopes_of}
use Rattle.algol_meaning.specs.World.{World}
use Rattle.algol_meaning.specs.Run.{may_go, run, run_from, start}
use Rattle.algol_meaning.proofs.Cited.{no_world, run_none, stays_none}
use Rattle.b67_schedule.specs.Schedules.{entries}
use Rattle.b67_report.specs.declared.Report.{Report}
use Rattle.algol_lean.proofs.InUse.{run_is}
use Rattle.b67_judge.specs.declared.Verdict.{Verdict}
use Rattle.b67_judge.specs.declared.Verdict.TheVariants.{Just, BadEntry, BadLine, BadEnd}
use Rattle.b67_judge.specs.Judging.{EndFits, HasOutput, IsJust, IsFirstIllegal, IsFirstOther, IsOtherLine, IsOtherEnd, Judges}
use Rattle.b67_judge.specs.Laws.{ReportsHaveOneVerdict}
use Rattle.b67_judge.proofs.Steps.{run_append}

which : (m n : ℕ) → (m < n) ⊎ ((n < m) ⊎ (m ≡ n))
which m n = grind arith

-- ---- schedules

-- no schedule is legal that goes on with an entry which may not go
no_further : (tree : PProgram) (done left : List ℕ) (p : ℕ) (v : World) → run tree done ≡ Some v → may_go v p ≡ false → run tree (done ++ p ∷ left) ≡ None
no_further tree done left p v legal stays =
    run_is tree (done ++ p ∷ left)
    ∙ run_append (scopes_of tree) done (p ∷ left) (Some (start (scopes_of tree)))
    ∙ ap (λ (o : Option World). run_from (scopes_of tree) (p ∷ left) o) (sym (run_is tree done) ∙ legal)
    ∙ ap (λ (o : Option World). run_from (scopes_of tree) left o) (stays_none (scopes_of tree) v p stays)
    ∙ run_none (scopes_of tree) left

pub illegal_no_run : (tree : PProgram) (given : List ℕ) (number : ℕ) (v : World) → IsFirstIllegal tree given number → run tree given ≡ Some v → ⊥
illegal_no_run tree given number v a e =
    no_world (sym (no_further tree a.done a.left a.process a.world a.legal a.stays) ∙ ap (run tree) (sym a.split) ∙ e)

-- the longer of two fronts of a list goes on with what comes after the shorter one
front : (xs ys : List ℕ) (p : ℕ) (left zs : List ℕ) → xs ++ p ∷ left ≡ ys ++ zs → length xs < length ys → (more : List ℕ) × (ys ≡ xs ++ p ∷ more)
front [] [] p left zs e l = absurd (omega (arith, l))
front [] (y ∷ ys) p left zs e l = let same : y ≡ p = cc in (ys, ap (λ (n : ℕ). n ∷ ys) same)
front (x ∷ xs) [] p left zs e l = absurd (omega (arith, l))
front (x ∷ xs) (y ∷ ys) p left zs e l =
    let same : y ≡ x = cc in
    let rest : xs ++ p ∷ left ≡ ys ++ zs = cc in
    let f = front xs ys p left zs rest (omega (arith, l)) in
    (f.0, ap (λ (ns : List ℕ). y ∷ ns) f.1 ∙ ap (λ (n : ℕ). n ∷ xs ++ p ∷ f.0) same)

-- of two entries that may not go the first is no earlier one than the other
not_earlier : (tree : PProgram) (given : List ℕ) (k j : ℕ) (a : IsFirstIllegal tree given k) (b : IsFirstIllegal tree given j) → length a.done < length b.done → ⊥
not_earlier tree given k j a b less =
    let f = front a.done b.done a.process a.left (b.process ∷ b.left) (sym a.split ∙ b.split) less in
    no_world (sym (no_further tree a.done f.0 a.process a.world a.legal a.stays) ∙ ap (run tree) (sym f.1) ∙ b.legal)

pub illegal_once : (tree : PProgram) (given : List ℕ) (k j : ℕ) → IsFirstIllegal tree given k → IsFirstIllegal tree given j → k ≡ j
illegal_once tree given k j a b = by (which (length a.done) (length b.done))
  where
    by : (length a.done < length b.done) ⊎ ((length b.done < length a.done) ⊎ (length a.done ≡ length b.done)) → k ≡ j
    by (inl l) = absurd (not_earlier tree given k j a b l)
    by (inr (inl l)) = absurd (not_earlier tree given j k b a l)
    by (inr (inr e)) = a.is ∙ ap (λ (n : ℕ). n + 1) e ∙ sym b.is

pub same_world : (tree : PProgram) (given : List ℕ) (v u : World) → run tree given ≡ Some v → run tree given ≡ Some u → v ≡ u
same_world tree given v u a b = some_in (sym a ∙ b)
  where
    some_in : Some v ≡ Some u → v ≡ u
    some_in e = cc

-- ---- lines

get_take : (xs : List (List ℕ)) (k n : ℕ) → k < n → slice_get (take n xs) k ≡ slice_get xs k
get_take [] zero zero l = absurd (omega (arith, l))
get_take [] (suc k) zero l = absurd (omega (arith, l))
get_take [] k (suc n) l = refl
get_take (x ∷ xs) k zero l = absurd (omega (arith, l))
get_take (x ∷ xs) zero (suc n) l = refl
get_take (x ∷ xs) (suc k) (suc n) l = get_take xs k n (omega (arith, l))

not_before : (xs ys : List (List ℕ)) (m n : ℕ) (a : IsFirstOther xs ys m) (b : IsFirstOther xs ys n) → a.before < b.before → ⊥
not_before xs ys m n a b l =
    a.other (sym (get_take xs a.before b.before l) ∙ ap (λ (zs : List (List ℕ)). slice_get zs a.before) b.same ∙ get_take ys a.before b.before l)

other_once : (xs ys : List (List ℕ)) (m n : ℕ) → IsFirstOther xs ys m → IsFirstOther xs ys n → m ≡ n
other_once xs ys m n a b = by (which a.before b.before)
  where
    by : (a.before < b.before) ⊎ ((b.before < a.before) ⊎ (a.before ≡ b.before)) → m ≡ n
    by (inl l) = absurd (not_before xs ys m n a b l)
    by (inr (inl l)) = absurd (not_before xs ys n m b a l)
    by (inr (inr e)) = a.is ∙ ap (λ (k : ℕ). k + 1) e ∙ sym b.is

-- ---- verdicts

module _ (tree : PProgram) (report : Report) where
  no_entry : {A : Type 0} (number : ℕ) → IsFirstIllegal tree (entries report.schedule.runs) number → (v : World) → run tree (entries report.schedule.runs) ≡ Some v → A
  no_entry number a v e = absurd (illegal_no_run tree (entries report.schedule.runs) number v a e)

  -- the lines are the same in one world, and another in the other one, which is the same
  no_line : {A : Type 0} (number : ℕ) → HasOutput tree report → IsOtherLine tree report number → A
  no_line number has other =
      let same = same_world tree (entries report.schedule.runs) has.world other.world has.legal other.legal in
      absurd (other.other.other (ap (λ (zs : List (List ℕ)). slice_get zs other.other.before) (has.output ∙ ap (λ (w : World). w.output) same)))

  no_end : {A : Type 0} → IsJust tree report → IsOtherEnd tree report → A
  no_end just other =
      let same = same_world tree (entries report.schedule.runs) just.has.world other.has.world just.has.legal other.has.legal in
      absurd (other.other (subst (λ (w : World). EndFits w (length (entries report.schedule.runs)) report.end) same just.end))

  lines_once : (m n : ℕ) → IsOtherLine tree report m → IsOtherLine tree report n → m ≡ n
  lines_once m n a b =
      let same = same_world tree (entries report.schedule.runs) a.world b.world a.legal b.legal in
      other_once report.output b.world.output m n (subst (λ (w : World). IsFirstOther report.output w.output m) same a.other) b.other

  one_verdict : (v u : Verdict) → Judges tree report v → Judges tree report u → v ≡ u
  one_verdict Just Just a b = refl
  one_verdict Just (BadEntry j) a b = no_entry j b a.has.world a.has.legal
  one_verdict Just (BadLine j) a b = no_line j a.has b
  one_verdict Just BadEnd a b = no_end a b
  one_verdict (BadEntry k) Just a b = no_entry k a b.has.world b.has.legal
  one_verdict (BadEntry k) (BadEntry j) a b = ap (λ (n : ℕ). BadEntry n) (illegal_once tree (entries report.schedule.runs) k j a b)
  one_verdict (BadEntry k) (BadLine j) a b = no_entry k a b.world b.legal
  one_verdict (BadEntry k) BadEnd a b = no_entry k a b.has.world b.has.legal
  one_verdict (BadLine k) Just a b = no_line k b.has a
  one_verdict (BadLine k) (BadEntry j) a b = no_entry j b a.world a.legal
  one_verdict (BadLine k) (BadLine j) a b = ap (λ (n : ℕ). BadLine n) (lines_once k j a b)
  one_verdict (BadLine k) BadEnd a b = no_line k b.has a
  one_verdict BadEnd Just a b = no_end b a
  one_verdict BadEnd (BadEntry j) a b = no_entry j b a.has.world a.has.legal
  one_verdict BadEnd (BadLine j) a b = no_line j a.has b
  one_verdict BadEnd BadEnd a b = refl

pub reports_have_one_verdict : ReportsHaveOneVerdict
reports_have_one_verdict tree report v u a b = one_verdict tree report v u a b
