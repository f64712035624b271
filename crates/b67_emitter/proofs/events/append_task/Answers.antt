use Rattle.std.proofs.Common.{◌≡◌, ℤ, pos, subst, arith}
use Rattle.std.proofs.lemmas.Int.{ints}
use Rattle.std.proofs.lemmas.Result.{on_ok_weaker}
use Rattle.b67_segment.specs.Operators.{size}
use Rattle.b67_segment.specs.Building.{level_set}
use Rattle.b67_templates.specs.Emitting.{Emitted}
use Rattle.b67_templates.specs.Fragments.{NumberAt}
use Rattle.b67_emitter.proofs.OnEvents.{known_event, seen_event, task_event, task_named, task_none}
use Rattle.b67_emitter.proofs.events.append_task.Goals as goal

pub couple_of-requires : goal.couple_of-requires
couple_of-requires c =
    let level = level_set c.args.out.now in
    known_event c.args.names.now level c.in-Some.name (task_event c.args.names.now level c.args.task.now c.in-Some.name c.in-Some.is c.requires.code)

pub append_reference-requires-clause-seen : goal.append_reference-requires-clause-seen
append_reference-requires-clause-seen c =
    let level = level_set c.args.out.now in
    seen_event c.args.names.now level c.in-Some.name c.couple_of.result c.requires.near c.couple_of.ensures
    (task_event c.args.names.now level c.args.task.now c.in-Some.name c.in-Some.is c.requires.code)

pub returns-in-None-clause-code : goal.returns-in-None-clause-code
returns-in-None-clause-code c =
    let a = c.args.out.now in
    let b = c.append_number.new.out in
    let N : ℤ → Type 0 = λ z. Emitted a b (λ qs. NumberAt qs (level_set a) z (size a.operators) (size b.operators)) in
    let zero : c.fitting.result ≡ pos 0 = omega (arith, ints, c.fitting.ensures) in
    on_ok_weaker c.append_number.result (λ h. task_none c.args.names.now (level_set a) c.args.task.now a b c.in-None.is (subst N zero h)) c.append_number.ensures.code

pub returns-in-Some-clause-code : goal.returns-in-Some-clause-code
returns-in-Some-clause-code c =
    on_ok_weaker c.append_reference.result
    (task_named c.args.names.now (level_set c.args.out.now) c.args.task.now c.in-Some.name c.couple_of.result c.args.out.now c.append_reference.new.out c.in-Some.is c.couple_of.ensures)
    c.append_reference.ensures.code
