use Rattle.std.proofs.Common.{◌≡◌, refl, sym, ap, subst, ◌∙◌, ◌+◌, [], Option, Ok, Err}
use Rattle.b67_list.specs.Numbered.{numbered}
use Rattle.b67_control.specs.declared.Registers.{Registers}
use Rattle.b67_store.specs.Store.{opened_at}
use Rattle.b67_table.specs.Image.{Image}
use Rattle.b67_table.specs.Starting.{first_words, start_process}
use Rattle.b67_reach.specs.Images.{image_of}
use Rattle.b67_reach.specs.Answers.{ProgramActs}
use Rattle.b67_intrinsics.specs.Called.{called_in, IsCalled, IsChained, finished_in, ended}
use Rattle.b67_going.specs.declared.processes.Unstarted.TheVariants.{Stopped}
use Rattle.b67_going.specs.Starts.{starting_of, Starts}
use Rattle.b67_going.proofs.Started.{is_stopped, is_started, still_there, ready, still_called, other_number, calling}
use Rattle.b67_going.proofs.processes.start.Goals as goal

pub returns-in-Err-clause-starts : goal.returns-in-Err-clause-starts
returns-in-Err-clause-starts g c =
    let img = image_of (g.C.Core.stacks c.args.core.now) (g.C.Core.rows c.args.core.now) c.args.kernel.now c.args.parts.now in
    let p = c.args.process in
    subst (λ (o : Option Registers). Starts p (called_in start_process c.args.parts.now.code o c.args.next c.args.mark.now) img img (Err (Stopped c.in-Err.stop))) (sym c.registers-regs.ensures)
    (is_stopped c.args.parts.now.code c.registers-regs.result.now c.args.next c.args.mark.now img p c.in-Err.stop (c.in-Err.ensures.told img refl refl (sym c.deref.ensures.value) refl))

pub returns-in-Err-add_process-clause-starts : goal.returns-in-Err-add_process-clause-starts
returns-in-Err-add_process-clause-starts g c = c.in-Err-add_process.ensures.unchanged c.args.kernel.now

pub end-requires-clause-called : goal.end-requires-clause-called
end-requires-clause-called g c =
    let st = g.C.Core.stacks c.args.core.now in
    let r = c.registers-regs.result.now in
    let linked = calling st (g.C.Core.rows c.args.core.now) (numbered c.args.parts.now.regs.items c.args.process) r c.requires.calling c.registers-regs.ensures in
    let is = ready st (g.C.Core.rows c.args.core.now) r linked.0 in
    let there = still_there c.args.parts.now.regs.items c.add_process.new.parts.regs.items r c.in-Ok.found.1 c.args.process c.registers-regs.ensures c.in-Ok-add_process.ensures.regs in
    let stacks_are : g.C.Core.stacks c.add_process.new.core ≡ opened_at st c.in-Ok.found.1.stack (first_words (starting_of st c.in-Ok.found.0)) =
    ap (λ (i : Image). i.stacks) (c.in-Ok-add_process.ensures.added c.args.process c.args.kernel.now) in
    let other = other_number st r (c.args.parts.now.started + 1) is c.requires.next.free in
    subst (λ (o : Option Registers). IsCalled (g.C.Core.stacks c.add_process.new.core) o) (sym there)
    (still_called st (g.C.Core.stacks c.add_process.new.core) r c.in-Ok.found.1.stack (first_words (starting_of st c.in-Ok.found.0)) is linked.1
    (λ e. other (e ∙ c.in-Ok.ensures.number)) stacks_are)

pub end-requires-clause-within : goal.end-requires-clause-within
end-requires-clause-within g c =
    let r = c.registers-regs.result.now in
    let there = still_there c.args.parts.now.regs.items c.add_process.new.parts.regs.items r c.in-Ok.found.1 c.args.process c.registers-regs.ensures c.in-Ok-add_process.ensures.regs in
    subst (IsChained c.args.mark.now) (sym there) c.in-Ok.ensures.within

pub returns-clause-starts : goal.returns-clause-starts
returns-clause-starts g c =
    let st = g.C.Core.stacks c.args.core.now in
    let r = c.registers-regs.result.now in
    let p = c.args.process in
    let m = c.args.mark.now in
    let kernel = c.args.kernel.now in
    let img = image_of st (g.C.Core.rows c.args.core.now) kernel c.args.parts.now in
    let mid = image_of (g.C.Core.stacks c.add_process.new.core) (g.C.Core.rows c.add_process.new.core) kernel c.add_process.new.parts in
    let new = ended (g.C.Core.stacks c.end.new.core) (g.C.Core.rows c.end.new.core) c.end.new.all.items mid in
    let there = still_there c.args.parts.now.regs.items c.add_process.new.parts.regs.items r c.in-Ok.found.1 p c.registers-regs.ensures c.in-Ok-add_process.ensures.regs in
    subst (λ (o : Option Registers). Starts p (called_in start_process c.args.parts.now.code o c.args.next m) img new (Ok c.add_process.new.parts.started)) (sym c.registers-regs.ensures)
    (is_started c.args.parts.now.code r c.args.next m img p (record { starting = starting_of st c.in-Ok.found.0; regs = c.in-Ok.found.1 }) mid new c.add_process.new.parts.started
    (c.in-Ok.ensures.told img refl refl (sym c.deref.ensures.value) refl)
    (c.in-Ok-add_process.ensures.added p kernel)
    (subst (λ (o : Option Registers). ProgramActs {A = Unit {0}} p (finished_in o m [] c.args.next) mid new (Ok tt)) there (c.end.ensures.acts mid refl refl refl)))
