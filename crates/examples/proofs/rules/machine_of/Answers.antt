use Rattle.algol_tree.specs.Image.{program}
use Rattle.b67_machine.proofs.Loading.{none_in}
use Rattle.b67_desk.proofs.Told.{segments_short, kept_short}
use Rattle.examples.proofs.rules.machine_of.Goals as goal

pub load-requires-clause-stacks : goal.load-requires-clause-stacks
load-requires-clause-stacks c = none_in _ c.new.ensures.stacks

pub load-requires-clause-rows : goal.load-requires-clause-rows
load-requires-clause-rows c = none_in _ c.new.ensures.rows

pub load-requires-clause-segments : goal.load-requires-clause-segments
load-requires-clause-segments c = segments_short c.in_ok-code.code c.in_ok-code.ensures.faithful.listable

pub returns-clause-sound : goal.returns-clause-sound
returns-clause-sound c =
    (kept_short c.in_ok-code.code c.in_ok-machine.machine.code (program c.args.checked.now.program) c.in_ok-code.ensures.faithful c.in_ok-machine.ensures.code).0

pub returns-clause-segments : goal.returns-clause-segments
returns-clause-segments c =
    (kept_short c.in_ok-code.code c.in_ok-machine.machine.code (program c.args.checked.now.program) c.in_ok-code.ensures.faithful c.in_ok-machine.ensures.code).1
