use Rattle.std.proofs.Common.{◌≡◌, sym, ap, ◌∙◌, ◌-◌, List, length, Some, arith}
use Rattle.std.proofs.lemmas.Bool.{ltb-true}
use Rattle.b67_list.specs.Numbered.{numbered}
use Rattle.b67_control.specs.declared.Registers.{Registers}
use Rattle.b67_table.specs.Image.{critical_in, critical_of}
use Rattle.b67_machine.specs.Kept.{MachineModel}
use Rattle.b67_machine.proofs.Plainly.{numbered_at}
use Rattle.b67_machine.proofs.Machine.critical.Goals as goal

pub returns-in-Some : goal.returns-in-Some
returns-in-Some g c =
    let there : numbered c.deref.result.now c.args.process ≡ Some c.in-Some.regs.now =
    numbered_at c.deref.result.now c.args.process c.in-Some.regs.now (omega arith)
    (ltb-true (c.args.process - 1) (length c.deref.result.now) (sym c.in-Some.ensures.lookup.0)) c.in-Some.ensures.lookup.1 in
    sym (ap critical_in there) ∙ ap (λ (rs : List Registers). critical_of rs c.args.process) c.deref.ensures.value
    ∙ ap (λ (k : MachineModel). critical_of k.image.regs c.args.process) c.self.view_is
