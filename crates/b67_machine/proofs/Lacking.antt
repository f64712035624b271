-- A machine whose operator finds no memory.
use Rattle.std.proofs.Common.{◌≡◌, ◌⊎◌, inl, inr, ap, sym, subst, ◌∙◌, ℕ, List, true, false, Bool, None, arith}
use Rattle.std.proofs.lemmas.Bool.{cases_eq}
use Rattle.b67_table.specs.Image.{Image}
use Rattle.b67_intrinsics.specs.Called.{ImageIsLeft}
use Rattle.b67_action.specs.declared.done.Done.{Done}
use Rattle.b67_action.specs.declared.done.Done.TheVariants.{NoMemory}
use Rattle.b67_machine.specs.Kept.{MachineModel, Counts, operators_counted}
use Rattle.b67_machine.specs.Lacking.{HasLacked}
use Rattle.b67_machine.specs.Reads.{machine_end}
use Rattle.b67_machine.specs.Stepping.{MachineActs, Steps, StepsBy}
use Rattle.b67_machine.proofs.Ends.{goes_on, no_end, same_end}

counts_same : (before : List ℕ) (p : ℕ) (after : List ℕ) → Counts before p 0 after → (q : ℕ) → operators_counted after q ≡ operators_counted before q
counts_same before p after counts q = by (cases_eq q p)
  where
    by : (q ≡ p) ⊎ (q ≡ p → ⊥) → operators_counted after q ≡ operators_counted before q
    by (inl e) = subst (λ (k : ℕ). operators_counted after k ≡ operators_counted before k) (sym e) (omega (arith, counts.own))
    by (inr n) = counts.others q n

acts_lacking : (old : MachineModel) (p : ℕ) (new : MachineModel) → machine_end old ≡ None → MachineActs old p NoMemory new → HasLacked old new
acts_lacking old p new going acts =
    let left = acts.came.1 in
    let same : new.image ≡ acts.acted = acts.image in
    let on = goes_on old going in
    record {
      lacked = acts.lacked;
      image = subst (ImageIsLeft old.image) (sym same) left;
      counts = counts_same old.counts p new.counts acts.counts;
      code = acts.code;
      end = no_end new
          (same_end old.image new.image (ap (λ (i : Image). i.states) (same ∙ left.others)) (ap (λ (i : Image). i.fault) (same ∙ left.others)) ∙ on.end)
          acts.limit;
    }

pub lacks : (old : MachineModel) (p : ℕ) (new : MachineModel) → machine_end old ≡ None → old.lacked ≡ false → Steps old p NoMemory new → HasLacked old new
lacks old p new going not steps = acts_lacking old p new going (subst (λ (b : Bool). StepsBy b old p NoMemory new) not steps)

pub stays : (old : MachineModel) (p : ℕ) (done : Done) (new : MachineModel) → old.lacked ≡ true → Steps old p done new → (done ≡ NoMemory) × (new ≡ old)
stays old p done new lacked steps = subst (λ (b : Bool). StepsBy b old p done new) lacked steps
