use Rattle.std.proofs.Common.{◌≡◌, refl, sym, subst, ◌∙◌, ℕ, ◌-◌, ◌<◌, ◌≤◌, Some, set, arith}
use Rattle.std.proofs.lemmas.List.{length-set}
use Rattle.b67_action.specs.declared.done.Done.TheVariants.{Went}
use Rattle.b67_machine.specs.declared.entries.Entered.{Entered}
use Rattle.b67_machine.specs.Entries.{PerformsEntries, stay}
use Rattle.b67_machine.specs.Stepping.{MachineGoes, MachinePerforms}
use Rattle.b67_machine.proofs.Chains.{one_performs, one_able, one_noted, runs_able, runs_going, runs_action, runs_plainly}
use Rattle.b67_machine.proofs.Enabling.{able_after}
use Rattle.b67_machine.proofs.Noting.{steps_named, noted_last}
use Rattle.b67_machine.proofs.Machine.pass_one.Goals as goal

-- an action on the process's own stack
pub returns-then-ran-gt0-clause-performs : goal.returns-then-ran-gt0-clause-performs
returns-then-ran-gt0-clause-performs g c =
    let a = c.args.self.now in
    let p = c.args.process in
    let most = c.args.most in
    let ran = c.run_process-ran.result in
    let noted = c.run_process-ran.new.letters in
    let new = c.run_process-ran.new.self in
    let e = c.run_process-ran.ensures in
    let h = e.runs in
    let one : ran.entries ≡ 1 = omega (arith, e.entries, e.size, c.requires.room, c.if-ran-gt0.true) in
    let none : ran.plain ≡ 0 = h.run.last (omega (arith, one)) (omega (arith, one, e.size, c.requires.room)) in
    let within : ran.operators ≤ most = omega (arith, e.most) in
    let all : most ≡ most - 0 = omega arith in
    subst (λ (x : Entered). PerformsEntries a p most x noted new) (sym c.only.ensures)
    (record {
      between = a;
      few = omega (arith, e.size, c.requires.room);
      enters = stay;
      within = omega arith;
      less = λ some. omega (arith, some);
      performs = subst (λ (n : ℕ). MachinePerforms a p n (record { plain = ran.operators - 1; done = Some Went }) new) all
          (one_performs a new p most ran noted h c.requires.going c.requires.here c.requires.able within one none);
      able = λ x. one_able a new p most ran noted h c.requires.going c.requires.here c.requires.able within one none;
      last = λ x. one_noted a new p most ran noted h c.requires.going c.requires.here c.requires.able within one none;
    })

-- plain operators only
pub returns-then-ran-most-clause-performs : goal.returns-then-ran-most-clause-performs
returns-then-ran-most-clause-performs g c =
    let a = c.args.self.now in
    let p = c.args.process in
    let most = c.args.most in
    let ran = c.run_process-ran.result in
    let noted = c.run_process-ran.new.letters in
    let new = c.run_process-ran.new.self in
    let e = c.run_process-ran.ensures in
    let none : ran.entries ≡ 0 = omega (arith, c.if-ran-gt0.false) in
    let goes = runs_plainly a new p most ran noted e.runs none in
    let all : ran.plain ≡ most = omega (arith, c.if-ran-most.true) in
    subst (λ (x : Entered). PerformsEntries a p most x noted new) (sym c.only-then-ran-most.ensures)
    (record {
      between = a;
      few = omega (arith, e.size, c.requires.room);
      enters = stay;
      within = omega arith;
      less = λ some. omega (arith, some);
      performs = record { between = new; plains = subst (λ (n : ℕ). MachineGoes a p n new) all goes.0; then = (omega arith, refl) };
      able = tt;
      last = tt;
    })

pub act-done-requires-clause-able : goal.act-done-requires-clause-able
act-done-requires-clause-able g c =
    runs_able c.args.self.now c.run_process-ran.new.self c.args.process c.args.most c.run_process-ran.result c.run_process-ran.new.letters c.run_process-ran.ensures.runs c.requires.able

pub act-done-requires-clause-going : goal.act-done-requires-clause-going
act-done-requires-clause-going g c =
    runs_going c.args.self.now c.run_process-ran.new.self c.args.process c.args.most c.run_process-ran.result c.run_process-ran.new.letters c.run_process-ran.ensures.runs c.requires.going

pub act-done-requires-clause-count : goal.act-done-requires-clause-count
act-done-requires-clause-count g c =
    omega (
      arith,
      c.run_process-ran.ensures.runs.counts.own,
      c.run_process-ran.ensures.most,
      c.requires.count,
      c.if-ran-most.false,
      (runs_plainly c.args.self.now c.run_process-ran.new.self c.args.process c.args.most c.run_process-ran.result c.run_process-ran.new.letters c.run_process-ran.ensures.runs
          (omega (arith, c.if-ran-gt0.false))).1,
    )

-- an action that goes through the store, or goes on no further
pub returns-clause-performs : goal.returns-clause-performs
returns-clause-performs g c =
    let a = c.args.self.now in
    let p = c.args.process in
    let most = c.args.most in
    let ran = c.run_process-ran.result in
    let noted = c.run_process-ran.new.letters in
    let mid = c.run_process-ran.new.self in
    let e = c.run_process-ran.ensures in
    let new = c.act-done.new.self in
    let steps = c.act-done.ensures.steps in
    let none : ran.entries ≡ 0 = omega (arith, c.if-ran-gt0.false) in
    let goes = runs_plainly a mid p most ran noted e.runs none in
    let less : ran.plain < most = omega (arith, c.if-ran-most.false, e.most) in
    let action = runs_action a mid p most ran noted e.runs (omega (arith, less, goes.1)) (λ some. absurd (omega (arith, some, none))) in
    subst (λ (x : Entered). PerformsEntries a p most x (set noted 0 c.write_letter.new.place) new) (sym c.only-2.ensures)
    (record {
      between = a;
      few = omega (arith, e.size, c.requires.room, length-set noted 0 c.write_letter.new.place);
      enters = stay;
      within = omega arith;
      less = λ some. omega (arith, some);
      performs = record { between = mid; plains = goes.0; then = (omega (arith, less), action, steps) };
      able = able_after a mid new p ran.plain c.act-done.result goes.0 steps;
      last = λ one. noted_last noted 0 c.write_letter.new.place c.letter.result mid p new (omega (arith, e.size, c.requires.room)) c.letter.ensures c.write_letter.ensures
          (steps_named mid new p c.act-done.result steps action one);
    })

pub returns-clause-size : goal.returns-clause-size
returns-clause-size g c = length-set c.run_process-ran.new.letters 0 c.write_letter.new.place ∙ c.run_process-ran.ensures.size
