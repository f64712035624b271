use Rattle.std.proofs.Common.{◌≡◌, refl, sym, ap, subst, ◌∙◌, ℕ, List, [], ◌∷◌, take, Option, Some, None, Ok}
use Rattle.b67_list.specs.Numbered.{numbered}
use Rattle.b67_control.specs.declared.Registers.{Registers}
use Rattle.b67_events.specs.Events.{Events, first_event_happened, waited_any}
use Rattle.b67_table.specs.declared.ProcessState.{ProcessState}
use Rattle.b67_table.specs.Image.{Image, woken_number}
use Rattle.b67_reach.specs.Images.{image_of}
use Rattle.b67_reach.specs.Answers.{ProgramActs}
use Rattle.b67_intrinsics.specs.Called.{IsCalled, finished_in, ended}
use Rattle.b67_intrinsics.proofs.ManyEvents.{coming, several_stops, several_goes, goes_woken, goes_first, waits, went_by, waits_by}
use Rattle.b67_intrinsics.proofs.waiting.wait_any.Goals as goal

pub returns-in_err-count-clause-acts : goal.returns-in_err-count-clause-acts
returns-in_err-count-clause-acts g c =
    let img = image_of (g.C.Core.stacks c.args.core.now) (g.C.Core.rows c.args.core.now) c.args.kernel.now c.args.parts.now in
    several_stops c.args.parts.now.code c.args.next c.args.mark.now c.args.process img (numbered c.args.parts.now.regs.items c.args.process)
    c.in_err-count.field-0.0 c.from_residual.result (c.in_err-count.ensures.leads img refl refl) c.from_residual.ensures.1

pub returns-then-number-ne0-clause-acts : goal.returns-then-number-ne0-clause-acts
returns-then-number-ne0-clause-acts g c =
    let p = c.args.process in
    let m = c.args.mark.now in
    let img = image_of (g.C.Core.stacks c.args.core.now) (g.C.Core.rows c.args.core.now) c.args.kernel.now c.args.parts.now in
    let r = c.registers.result.now in
    let w = c.position_word-word.result in
    let ns = c.set_number.new.numbers.items in
    let mid = record img { numbers = ns } in
    let new = ended (g.C.Core.stacks c.end_with.new.core) (g.C.Core.rows c.end_with.new.core) c.end_with.new.all.items mid in
    let places = take c.in_ok-count.count c.find.new.places in
    several_goes c.args.parts.now.code c.args.next m p img (numbered c.args.parts.now.regs.items p) places new (c.in_ok-count.ensures.leads img refl refl)
    (subst (λ (o : Option Registers). ProgramActs {A = Unit {0}} p (coming c.args.parts.now.code c.args.next m p img o places) img new (Ok tt)) (sym c.registers.ensures)
    (goes_woken c.args.parts.now.code c.args.next m p img r places new c.woken_number-number.result w mid c.if-number-ne0.true
    (c.woken_number-number.ensures ∙ ap (woken_number c.args.parts.now.numbers.items) c.from.ensures) c.position_word-word.ensures
    (ap (λ (z : List ℕ). record img { numbers = z }) c.set_number.ensures)
    (subst (λ (o : Option Registers). ProgramActs {A = Unit {0}} p (finished_in o m (w ∷ []) c.args.next) mid new (Ok tt)) c.registers.ensures
    (c.end_with.ensures.acts mid refl refl refl))))

pub returns-in-Went-clause-acts : goal.returns-in-Went-clause-acts
returns-in-Went-clause-acts g c =
    let p = c.args.process in
    let m = c.args.mark.now in
    let old = c.args.kernel.now in
    let img = image_of (g.C.Core.stacks c.args.core.now) (g.C.Core.rows c.args.core.now) old c.args.parts.now in
    let r = c.registers.result.now in
    let w = c.position_word-word-in-Went.result in
    let k = c.wait_any.new.self in
    let mid = record img { events = k.events; lists = k.lists } in
    let new = ended (g.C.Core.stacks c.end_with-in-Went.new.core) (g.C.Core.rows c.end_with-in-Went.new.core) c.end_with-in-Went.new.all.items mid in
    let places = take c.in_ok-count.count c.find.new.places in
    let first : first_event_happened places old.events ≡ Some c.in-Went.position = went_by (first_event_happened places old.events) c.in-Went.position (sym c.in-Went.is ∙ c.wait_any.ensures.answer) in
    let same : mid ≡ img = ap (λ (e : Events). record img { events = e.events; lists = e.lists }) (c.wait_any.ensures.after ∙ ap (λ (o : Option ℕ). waited_any o places p old) first) in
    several_goes c.args.parts.now.code c.args.next m p img (numbered c.args.parts.now.regs.items p) places new (c.in_ok-count.ensures.leads img refl refl)
    (subst (λ (o : Option Registers). ProgramActs {A = Unit {0}} p (coming c.args.parts.now.code c.args.next m p img o places) img new (Ok tt)) (sym c.registers.ensures)
    (goes_first c.args.parts.now.code c.args.next m p img r places new (sym c.if-number-ne0.false ∙ c.woken_number-number.ensures ∙ ap (woken_number c.args.parts.now.numbers.items) c.from.ensures)
    c.in-Went.position w first c.position_word-word-in-Went.ensures
    (subst (λ (i : Image). ProgramActs {A = Unit {0}} p (finished_in (Some r) m (w ∷ []) c.args.next) i new (Ok tt)) same
    (subst (λ (o : Option Registers). ProgramActs {A = Unit {0}} p (finished_in o m (w ∷ []) c.args.next) mid new (Ok tt)) c.registers.ensures
    (c.end_with-in-Went.ensures.acts mid refl refl refl)))))

pub returns-in-Waits-clause-acts : goal.returns-in-Waits-clause-acts
returns-in-Waits-clause-acts g c =
    let p = c.args.process in
    let m = c.args.mark.now in
    let old = c.args.kernel.now in
    let st = g.C.Core.stacks c.args.core.now in
    let img = image_of st (g.C.Core.rows c.args.core.now) old c.args.parts.now in
    let r = c.registers.result.now in
    let k = c.wait_any.new.self in
    let new = record img { events = k.events; lists = k.lists; states = c.set_state.new.states.items } in
    let places = take c.in_ok-count.count c.find.new.places in
    let none : first_event_happened places old.events ≡ None = waits_by (first_event_happened places old.events) (sym c.in-Waits.is ∙ c.wait_any.ensures.answer) in
    let is =
    ap (λ (e : Events). record img { events = e.events; lists = e.lists; states = c.set_state.new.states.items })
    (c.wait_any.ensures.after ∙ ap (λ (o : Option ℕ). waited_any o places p old) none)
    ∙ ap (λ (z : List ProcessState). record img { events = (waited_any None places p old).events; lists = (waited_any None places p old).lists; states = z }) c.set_state.ensures in
    let ready = (subst (λ (o : Option Registers). IsCalled st o) c.registers.ensures c.requires.called).0 in
    several_goes c.args.parts.now.code c.args.next m p img (numbered c.args.parts.now.regs.items p) places new (c.in_ok-count.ensures.leads img refl refl)
    (subst (λ (o : Option Registers). ProgramActs {A = Unit {0}} p (coming c.args.parts.now.code c.args.next m p img o places) img new (Ok tt)) (sym c.registers.ensures)
    (waits c.args.parts.now.code c.args.next m p img r places new (sym c.if-number-ne0.false ∙ c.woken_number-number.ensures ∙ ap (woken_number c.args.parts.now.numbers.items) c.from.ensures)
    c.registers.ensures ready.room none is))
