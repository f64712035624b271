-- Who is able after an entry.
use Rattle.std.proofs.Common.{◌≡◌, sym, ap, ◌∙◌, ℕ, Bool, true, false, List, arith}
use Rattle.b67_list.specs.Numbered.{numbered}
use Rattle.b67_table.specs.declared.ProcessState.{ProcessState}
use Rattle.b67_table.specs.Image.{Image, is_able}
use Rattle.b67_action.specs.declared.done.Done.{Done}
use Rattle.b67_action.specs.declared.done.Done.TheVariants.{NoMemory}
use Rattle.b67_action.specs.Able.{number_times, one_if, able_in, newly, AbleAfter}
use Rattle.b67_machine.specs.Kept.{MachineModel}
use Rattle.b67_machine.specs.Stepping.{operators_in, MachineGoes, Steps, StepsBy}

-- from an image with the same states
pub able_from : (a b after : Image) (p : ℕ) (released : List ℕ) → b.states ≡ a.states → b.started ≡ a.started → AbleAfter b after p released → AbleAfter a after p released
able_from a b after p released s n k =
    let same : newly b.started after.started ≡ newly a.started after.started = ap (λ (m : ℕ). newly m after.started) n in
    record {
      others = λ q h.
          let now = k.others q h in
          let was : one_if (able_in b q) ≡ one_if (able_in a q) = ap (λ (xs : List ProcessState). one_if (is_able (numbered xs q))) s in
          let more : number_times q (newly b.started after.started) ≡ number_times q (newly a.started after.started) = ap (number_times q) same in
          omega (arith, now, was, more);
      own = k.own;
      own_new = ap (number_times p) (sym same) ∙ k.own_new;
      grows = omega (arith, k.grows, n);
    }

pub able_after : (old between new : MachineModel) (p n : ℕ) (done : Done) → MachineGoes old p n between → Steps between p done new → operators_in done ≡ 1
    → AbleAfter old.image new.image p new.released
able_after old between new p n done goes steps e =
    able_from old.image between.image new.image p new.released goes.states goes.started (by between.lacked steps)
  where
    none : (d : Done) → operators_in d ≡ 1 → d ≡ NoMemory → ⊥
    none d k i = absurd (omega (arith, k, ap operators_in i))

    by : (b : Bool) → StepsBy b between p done new → AbleAfter between.image new.image p new.released
    by true s = absurd (none done e s.0)
    by false s = s.able e
