use Rattle.std.proofs.Common.{◌≡◌, sym, ap, ◌∙◌, ◌-◌, List, length, Some, arith}
use Rattle.std.proofs.lemmas.Bool.{ltb-true}
use Rattle.b67_list.specs.Numbered.{numbered}
use Rattle.b67_table.specs.declared.ProcessState.{ProcessState}
use Rattle.b67_table.specs.Image.{is_able}
use Rattle.b67_machine.specs.Kept.{MachineModel}
use Rattle.b67_machine.proofs.Plainly.{numbered_at}
use Rattle.b67_machine.proofs.Machine.is_able.Goals as goal

pub returns-in-Able : goal.returns-in-Able
returns-in-Able g c =
    let there : numbered c.deref.result.now c.args.process ≡ Some c.in-Some.state.now =
    numbered_at c.deref.result.now c.args.process c.in-Some.state.now (omega arith)
    (ltb-true (c.args.process - 1) (length c.deref.result.now) (sym c.in-Some.ensures.lookup.0)) c.in-Some.ensures.lookup.1 in
    sym (ap is_able (there ∙ ap (λ (s : ProcessState). Some s) c.in-Able.is))
    ∙ ap (λ (states : List ProcessState). is_able (numbered states c.args.process)) c.deref.ensures.value
    ∙ ap (λ (k : MachineModel). is_able (numbered k.image.states c.args.process)) c.self.view_is
