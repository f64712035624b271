use Rattle.std.proofs.Common.{[], ◌∷◌, refl, subst, sym, Ok}
use Rattle.b67_word.specs.Word.{Word}
use Rattle.b67_list.specs.Numbered.{numbered}
use Rattle.b67_events.specs.Events.{Events}
use Rattle.b67_table.specs.Intrinsics.{make_event}
use Rattle.b67_table.specs.Writes as writes
use Rattle.b67_table.specs.Writes.{write_made}
use Rattle.b67_reach.specs.Images.{image_of}
use Rattle.b67_reach.specs.Answers.{ProgramActs}
use Rattle.b67_intrinsics.specs.Called.{called_in, finished_in, ended, mark_tests_in}
use Rattle.b67_intrinsics.proofs.Trying.{leads_on, leads_off, tries_off, opening, make_event_is, opened_then}
use Rattle.b67_intrinsics.proofs.making.make_event.Goals as goal

pub returns-in_err-place-clause-acts : goal.returns-in_err-place-clause-acts
returns-in_err-place-clause-acts g c =
    let img = image_of (g.C.Core.stacks c.args.core.now) (g.C.Core.rows c.args.core.now) c.args.kernel.now c.args.parts.now in
    let regs = numbered c.args.parts.now.regs.items c.args.process in
    let m = c.args.mark.now in
    let program = called_in make_event c.args.parts.now.code regs c.args.next m in
    tries_off c.args.process img program c.from_residual.result c.in_err-place.field-0.0 c.from_residual.ensures.1
    (leads_off c.args.process img program (mark_tests_in regs m img.stacks) (opening regs m c.args.next) c.in_err-place.field-0.0
    (make_event_is img c.args.parts.now.code c.args.next m regs) (c.in_err-place.ensures.leads img refl))

pub returns-clause-acts : goal.returns-clause-acts
returns-clause-acts g c =
    let p = c.args.process in
    let img = image_of (g.C.Core.stacks c.args.core.now) (g.C.Core.rows c.args.core.now) c.args.kernel.now c.args.parts.now in
    let regs = numbered c.args.parts.now.regs.items p in
    let m = c.args.mark.now in
    let program = called_in make_event c.args.parts.now.code regs c.args.next m in
    let at = c.in_ok-place.place in
    let w = writes.open_event at in
    let new = record (ended (g.C.Core.stacks c.end_with.new.core) (g.C.Core.rows c.end_with.new.core) c.end_with.new.all.items img) { events = c.open_event.new.self.events; lists = c.open_event.new.self.lists } in
    let q = c.end_with.ensures.acts (write_made p w img) refl refl refl in
    let made : ProgramActs p (finished_in regs m (c.pack.result ∷ []) c.args.next) (write_made p w img) new (Ok tt) =
    subst (λ (k : Events). ProgramActs p (finished_in regs m (c.pack.result ∷ []) c.args.next) (write_made p w img) (record new { events = k.events; lists = k.lists }) (Ok tt))
    (sym c.in-Ok.ensures.ok) q in
    leads_on p img program (mark_tests_in regs m img.stacks) (opening regs m c.args.next) at new (Ok tt) (make_event_is img c.args.parts.now.code c.args.next m regs)
    (c.in_ok-place.ensures.leads img refl)
    (opened_then p img new m c.args.next at regs
    (subst (λ (v : Word). ProgramActs p (finished_in regs m (v ∷ []) c.args.next) (write_made p w img) new (Ok tt)) c.pack.ensures made))
