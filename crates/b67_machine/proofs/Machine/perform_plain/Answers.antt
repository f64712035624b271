use Rattle.std.proofs.Common.{arith}
use Rattle.b67_machine.proofs.Chains.{runs_plainly}
use Rattle.b67_machine.proofs.Machine.perform_plain.Goals as goal

pub returns-clause-goes : goal.returns-clause-goes
returns-clause-goes g c =
    (runs_plainly c.args.self.now c.run_process.new.self c.args.process c.args.most c.run_process.result c.run_process.new.letters c.run_process.ensures.runs (omega (arith, c.run_process.ensures.entries, c.run_process.ensures.size))).0

pub returns-clause-stops : goal.returns-clause-stops
returns-clause-stops g c = λ less.
    let h = c.run_process.ensures.runs in
    let none = (runs_plainly c.args.self.now c.run_process.new.self c.args.process c.args.most c.run_process.result c.run_process.new.letters h (omega (arith, c.run_process.ensures.entries, c.run_process.ensures.size))).1 in
    h.run.stops (omega (arith, less, none)) (λ some. absurd (omega (arith, some, c.run_process.ensures.entries, c.run_process.ensures.size)))
