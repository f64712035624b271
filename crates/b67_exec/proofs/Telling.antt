-- The text of a machine after a run by turns is that of the run.
use Rattle.std.proofs.Common.{◌≡◌, refl, sym, ap, ◌∙◌, ℕ, zero, suc, ◌+◌, List, [], ◌∷◌, ◌++◌, arith}
use Rattle.b67_segment.specs.declared.code.Code.{Code}
use Rattle.b67_action.specs.Able.{number_times}
use Rattle.b67_machine.specs.Kept.{MachineModel, operators_counted}
use Rattle.b67_exec.specs.declared.Stopped.{Stopped}
use Rattle.b67_exec.specs.Exec.{CountsAre, ExecRun}
use Rattle.b67_exec.specs.Turns.{Ran, exec_run, counts_from}
use Rattle.b67_exec.specs.Texts.{told_text, ran_text, exec_text, counts_in, machine_text}

-- one process more
pub counts_more : (counts : List ℕ) (p n : ℕ) → counts_in counts p (suc n) ≡ counts_in counts p n ++ operators_counted counts (p + n) ∷ []
counts_more counts p zero =
    let same : p ≡ p + 0 = omega arith in ap (λ (k : ℕ). operators_counted counts k ∷ []) same
counts_more counts p (suc n) =
    let same : p + 1 + n ≡ p + suc n = omega arith in
    ap (λ (zs : List ℕ). operators_counted counts p ∷ zs)
    (counts_more counts (p + 1) n ∙ ap (λ (k : ℕ). counts_in counts (p + 1) n ++ operators_counted counts k ∷ []) same)

pub counts_next : (counts : List ℕ) (p n m : ℕ) → m ≡ n + 1 → counts_in counts p m ≡ counts_in counts p n ++ operators_counted counts (p + n) ∷ []
counts_next counts p n m e =
    let same : m ≡ suc n = omega (arith, e) in ap (counts_in counts p) same ∙ counts_more counts p n

same_counts : (counts done : List ℕ) → CountsAre counts done → (p n : ℕ) → counts_in counts p n ≡ counts_from p n done
same_counts counts done are p zero = refl
same_counts counts done are p (suc n) =
    ap (λ (x : ℕ). x ∷ counts_in counts (p + 1) n) (are p) ∙ ap (λ (zs : List ℕ). number_times p done ∷ zs) (same_counts counts done are (p + 1) n)

module _ (code : Code) (budget : ℕ) (m : MachineModel) (why : Stopped) (r : ExecRun code budget m why) where
  pub text_is : machine_text m why ≡ exec_text code budget
  text_is =
      ap (λ (zs : List ℕ). told_text m.image.output why zs) (same_counts m.counts r.turns.done r.counts 1 m.image.started)
      ∙ ap (λ i. told_text i.output why (counts_from 1 i.started r.turns.done)) r.image
      ∙ ap ran_text (sym r.runs)

  pub why_is : why ≡ (exec_run code budget).why
  why_is = ap (λ (x : Ran). x.why) (sym r.runs)
