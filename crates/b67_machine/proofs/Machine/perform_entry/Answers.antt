use Rattle.std.proofs.Common.{arith}
use Rattle.b67_machine.proofs.Enabling.{able_after}
use Rattle.b67_machine.proofs.Going.{still_goes}
use Rattle.b67_machine.proofs.Machine.perform_entry.Goals as goal

pub act-done-requires-clause-going : goal.act-done-requires-clause-going
act-done-requires-clause-going g c =
    still_goes c.args.self.now c.perform_plain-plain.new.self c.args.process c.perform_plain-plain.result c.requires.going c.perform_plain-plain.ensures.goes

pub act-done-requires-clause-count : goal.act-done-requires-clause-count
act-done-requires-clause-count g c =
    omega (arith, c.perform_plain-plain.ensures.goes.counts.own, c.if-plain-most.true, c.requires.count)

pub returns-then-plain-most-clause-able : goal.returns-then-plain-most-clause-able
returns-then-plain-most-clause-able g c =
    able_after c.args.self.now c.perform_plain-plain.new.self c.act-done.new.self c.args.process c.perform_plain-plain.result c.act-done.result
    c.perform_plain-plain.ensures.goes c.act-done.ensures.steps
