use Rattle.std.proofs.Common.{◌≡◌, refl, ◌+◌, ◌-◌, ◌++◌, ◌∷◌, [], ◌∙◌, length, arith}
use Rattle.b67_schedule.specs.declared.Run.{Run}
use Rattle.b67_schedule.specs.Schedules.{IsLastRun}
use Rattle.b67_schedule.proofs.Pushes.{raised, pushed}
use Rattle.b67_told.proofs.schedule.add.Goals as goal

pub returns-then-is_last-clause-are : goal.returns-then-is_last-clause-are
returns-then-is_last-clause-are c =
    let ends : IsLastRun c.args.runs.now.items c.args.process = rw c.as_slice.ensures.value at (c.if-is_last.ensures.0 refl) in
    let count : c.len-last.result ≡ length c.args.runs.now.items = omega arith in
    (raised c.args.runs.now.items c.len-last.result c.args.process 1 c.index_mut.result.now count ends c.index_mut.ensures.value c.requires.are c.requires.few).valid

pub returns-then-is_last-clause-added : goal.returns-then-is_last-clause-added
returns-then-is_last-clause-added c =
    let ends : IsLastRun c.args.runs.now.items c.args.process = rw c.as_slice.ensures.value at (c.if-is_last.ensures.0 refl) in
    let count : c.len-last.result ≡ length c.args.runs.now.items = omega arith in
    (raised c.args.runs.now.items c.len-last.result c.args.process 1 c.index_mut.result.now count ends c.index_mut.ensures.value c.requires.are c.requires.few).added

pub returns-in_ok-push-clause-are : goal.returns-in_ok-push-clause-are
returns-in_ok-push-clause-are c =
    (pushed c.args.runs.now.items c.push.new.self.items c.args.process 1 c.in_ok-push.ensures.items c.requires.are c.requires.few (omega arith) c.requires.number.0
    (omega (arith, c.requires.number.1))
    (λ ends. let wrong = c.if-is_last.ensures.1 (rw c.as_slice.ensures.value ends) in cc)).valid

pub returns-in_ok-push-clause-added : goal.returns-in_ok-push-clause-added
returns-in_ok-push-clause-added c =
    (pushed c.args.runs.now.items c.push.new.self.items c.args.process 1 c.in_ok-push.ensures.items c.requires.are c.requires.few (omega arith) c.requires.number.0
    (omega (arith, c.requires.number.1))
    (λ ends. let wrong = c.if-is_last.ensures.1 (rw c.as_slice.ensures.value ends) in cc)).added
