use Rattle.std.proofs.Common.{◌≡◌, drop}
use Rattle.b67_table.specs.Writes.{able_again}
use Rattle.b67_reach.proofs.states.wake.Given as goal

abbrev pub invariant-waking : goal.invariant-waking
invariant-waking l = able_again (drop l.process-index l.processes.items) l.states.items ≡ able_again l.processes.items l.fn.states.items
