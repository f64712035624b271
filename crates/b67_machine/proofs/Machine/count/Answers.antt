use Rattle.std.proofs.Common.{◌≡◌, sym, ap, ◌∙◌, ℕ, ◌-◌, List, length, Some, arith}
use Rattle.std.proofs.lemmas.Bool.{ltb-true}
use Rattle.b67_list.specs.Numbered.{numbered}
use Rattle.b67_machine.specs.Kept.{MachineModel, or_none, operators_counted}
use Rattle.b67_machine.proofs.Plainly.{numbered_at}
use Rattle.b67_machine.proofs.Machine.count.Goals as goal

pub returns-in-Some : goal.returns-in-Some
returns-in-Some g c =
    let there : numbered c.deref.result.now c.args.process ≡ Some c.in-Some.count.now =
    numbered_at c.deref.result.now c.args.process c.in-Some.count.now (omega arith)
    (ltb-true (c.args.process - 1) (length c.deref.result.now) (sym c.in-Some.ensures.lookup.0)) c.in-Some.ensures.lookup.1 in
    sym (ap or_none there) ∙ ap (λ (counts : List ℕ). operators_counted counts c.args.process) c.deref.ensures.value ∙ ap (λ (k : MachineModel). operators_counted k.counts c.args.process) c.self.view_is
