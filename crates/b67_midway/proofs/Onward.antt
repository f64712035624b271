-- A part of a replay of what a run goes through has no answer but want of memory.
use Rattle.std.proofs.Common.{arith, ◌≡◌, ◌≢◌, ap, sym, ◌∙◌, subst, ◌⊎◌, inl, inr, ℕ, ◌+◌, ◌<◌, ◌≤◌, true≢false, false, List, [], ◌∷◌, ◌++◌, sum, None, append_assoc, append-nil}
use Rattle.std.proofs.lemmas.List.{append_cancel_left}
use Rattle.b67_deeds.specs.declared.Letter.{Letter}
use Rattle.b67_segment.specs.declared.code.Code.{Code}
use Rattle.b67_table.specs.Image.{Image}
use Rattle.b67_table.specs.Ending.{image_end}
use Rattle.b67_table.specs.Runs.{TableRun}
use Rattle.b67_table.proofs.Cited.{number_there}
use Rattle.b67_machine.specs.Kept.{MachineModel}
use Rattle.b67_machine.specs.declared.replay.Replayed.{Replayed}
use Rattle.b67_machine.specs.declared.replay.Replayed.TheVariants.{Ended, Ran, Illegal, BudgetSpent, NoMemory, Differs}
use Rattle.b67_machine.specs.Replaying.{ReplayAnswers, ReplaysEntries, NoneDiffers, tails_of, is_lacking}
use Rattle.b67_fronts.specs.Fronts.{GoesThrough}
use Rattle.b67_fronts.proofs.Onward.{fronts_go_on, alike}

nothing_is : (p : ℕ) (left : List ℕ) → p ∷ left ≡ [] → ⊥
nothing_is p left e = cc

-- a replay that goes on has no answer but want of memory
module _ (code : Code) (budget : ℕ) (done : List ℕ) (new : MachineModel) where
  -- an entry is left
  some_left : (p : ℕ) (left : List ℕ) (tail : ℕ) (image : Image) (answer : Replayed) → GoesThrough code (done ++ p ∷ left) budget
      → (r : TableRun code done (tails_of (p ∷ left) tail) image) → ReplayAnswers code budget (sum r.counts + tail) done (p ∷ left) tail image new answer → NoneDiffers answer
      → is_lacking answer ≡ false → ⊥
  some_left p left tail image Ended g r (inl a) none here = nothing_is p left a.1
  some_left p left tail image Ended g r (inr a) none here = (fronts_go_on code budget done p left tail image g r).free a.2.0
  some_left p left tail image Ran g r a none here = nothing_is p left a.1
  some_left p left tail image (Illegal number) g r a none here = true≢false (sym ((fronts_go_on code budget done p left tail image g r).may a.0) ∙ a.2)
  some_left p left tail image BudgetSpent g r a none here = omega (arith, (fronts_go_on code budget done p left tail image g r).left, a.1)
  some_left p left tail image NoMemory g r a none here = true≢false here
  some_left p left tail image (Differs number) g r a none here = none

  -- no process has the number 0
  never_ended : (spent tail : ℕ) (image : Image) → ReplayAnswers code budget spent done (0 ∷ []) tail image new Ended → ⊥
  never_ended spent tail image (inl a) = nothing_is 0 [] a.1
  never_ended spent tail image (inr a) = let least : 1 ≤ 0 = number_there image 0 a.1 in omega (arith, least)

  never_ran : (spent tail : ℕ) (image : Image) → ReplayAnswers code budget spent done (0 ∷ []) tail image new Ran → ⊥
  never_ran spent tail image a = nothing_is 0 [] a.1

  not_spent : (tail : ℕ) (image : Image) → GoesThrough code done budget → (r : TableRun code done [] image) → image_end image ≡ None → sum r.counts + tail ≡ budget
      → (tail ≡ 0) ⊎ ⊥ → ⊥
  not_spent tail image g r going spent (inr x) = x
  not_spent tail image g r going spent (inl zero_is) = by (alike code budget done image g r).0
    where
      by : (image_end image ≢ None) ⊎ (sum r.counts < budget) → ⊥
      by (inl ends) = ends going
      by (inr less) = omega (arith, less, spent, zero_is)

-- what a replay of these entries, and whatever comes after them, has left
module _ (code : Code) (budget : ℕ) (before next more done : List ℕ) (noted : List Letter) (new : MachineModel) (g : GoesThrough code (before ++ (next ++ more)) budget) where
  -- after one entry more, of no process
  one_more : (answer : Replayed) → before ++ (next ++ more) ≡ done → ((rest : List ℕ) → ReplaysEntries code (before ++ (next ++ rest)) budget done noted new answer)
      → ((spent tail : ℕ) (image : Image) → ReplayAnswers code budget spent done (0 ∷ []) tail image new answer → ⊥) → ⊥
  one_more answer whole all never =
      never (sum r.run.counts + r.tail) r.tail r.image
      (subst (λ (xs : List ℕ). ReplayAnswers code budget (sum r.run.counts + r.tail) done xs r.tail r.image new answer) left r.answers)
    where
      r : ReplaysEntries code (before ++ (next ++ (more ++ 0 ∷ []))) budget done noted new answer
      r = all (more ++ 0 ∷ [])

      parts : before ++ (next ++ (more ++ 0 ∷ [])) ≡ done ++ 0 ∷ []
      parts =
          ap (λ (xs : List ℕ). before ++ xs) (sym (append_assoc next more (0 ∷ []))) ∙ sym (append_assoc before (next ++ more) (0 ∷ []))
          ∙ ap (λ (xs : List ℕ). xs ++ 0 ∷ []) whole

      left : r.left ≡ 0 ∷ []
      left = append_cancel_left done r.left (0 ∷ []) (sym r.split ∙ parts)

  none_left : (answer : Replayed) (tail : ℕ) (image : Image) (r : TableRun code done [] image) → before ++ (next ++ more) ≡ done
      → ReplayAnswers code budget (sum r.counts + tail) done [] tail image new answer → NoneDiffers answer → is_lacking answer ≡ false
      → ((rest : List ℕ) → ReplaysEntries code (before ++ (next ++ rest)) budget done noted new answer) → ⊥
  none_left Ended tail image r whole a none here all = one_more Ended whole all (never_ended code budget done new)
  none_left Ran tail image r whole a none here all = one_more Ran whole all (never_ran code budget done new)
  none_left (Illegal number) tail image r whole a none here all = a.2
  none_left BudgetSpent tail image r whole a none here all =
      not_spent code budget done new tail image (subst (λ (xs : List ℕ). GoesThrough code xs budget) whole g) r a.0 a.1 a.2
  none_left NoMemory tail image r whole a none here all = true≢false here
  none_left (Differs number) tail image r whole a none here all = none

  by_left : (answer : Replayed) (left : List ℕ) (tail : ℕ) (image : Image) (r : TableRun code done (tails_of left tail) image) → before ++ (next ++ more) ≡ done ++ left
      → ReplayAnswers code budget (sum r.counts + tail) done left tail image new answer → NoneDiffers answer → is_lacking answer ≡ false
      → ((rest : List ℕ) → ReplaysEntries code (before ++ (next ++ rest)) budget done noted new answer) → ⊥
  by_left answer [] tail image r split a none here all = none_left answer tail image r (split ∙ append-nil done) a none here all
  by_left answer (p ∷ left) tail image r split a none here all =
      some_left code budget done new p left tail image answer (subst (λ (xs : List ℕ). GoesThrough code xs budget) split g) r a none here

  -- but for want of memory it has no answer
  pub no_answer : (answer : Replayed) → ((rest : List ℕ) → ReplaysEntries code (before ++ (next ++ rest)) budget done noted new answer) → NoneDiffers answer
      → is_lacking answer ≡ false → ⊥
  no_answer answer all none here =
      let r = all more in by_left answer r.left r.tail r.image r.run r.split r.answers none here all
