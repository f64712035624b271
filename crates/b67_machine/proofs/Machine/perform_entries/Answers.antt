use Rattle.std.proofs.Common.{◌≡◌, sym, ap, subst, ◌∙◌, inl, inr, ℕ, ◌-◌, arith}
use Rattle.b67_machine.specs.Entries.{stay}
use Rattle.b67_machine.specs.Kept.{MachineModel}
use Rattle.b67_machine.specs.Stepping.{MachinePerforms}
use Rattle.b67_machine.proofs.Noting.{none_counted}
use Rattle.b67_machine.proofs.Machine.perform_entries.Goals.{then-self-via-then-self, then-self-via-else-self+then-most-eq0}
use Rattle.b67_machine.proofs.Machine.perform_entries.Goals as goal

-- there is only the last entry
pub returns-then-self-clause-performs : goal.returns-then-self-clause-performs
returns-then-self-clause-performs g c =
    let all : c.args.most ≡ c.args.most - 0 = omega arith in
    record {
      between = c.args.self.now;
      few = omega (arith, c.requires.room);
      enters = stay;
      within = omega arith;
      less = λ some. omega (arith, some);
      performs = subst (λ (n : ℕ). MachinePerforms c.args.self.now c.args.process n c.perform_entry-last.result c.perform_entry-last.new.self) all c.perform_entry-last.ensures.performs;
      able = c.perform_entry-last.ensures.able;
      last = none_counted c.args.self.now c.perform_entry-last.new.self c.args.process c.args.most c.perform_entry-last.result c.args.letters.now c.perform_entry-last.ensures.performs
          (elim c.then-self.branch [
            | then-self-via-then-self w ↦ inl (ap (λ (k : MachineModel). k.lacked) (sym c.self.view_is) ∙ w.if-self.true)
            | then-self-via-else-self+then-most-eq0 w ↦ inr w.if-most-eq0.true
          ]);
    }
