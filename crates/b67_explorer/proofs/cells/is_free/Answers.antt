use Rattle.b67_explorer.proofs.Touched.{free_first, free_next, free_all}
use Rattle.b67_explorer.proofs.cells.is_free.Goals as goal

pub processes-init : goal.processes-init
processes-init g c = record { free = free_first c.args.machine.now.image c.args.stack }

pub processes-preserved : goal.processes-preserved
processes-preserved g c =
    record {
      free = free_next c.args.machine.now.image c.args.stack c.processes.done c.critical.result c.lies_in.result c.processes.invariant.free c.critical.ensures c.if-lies_in.false c.lies_in.ensures;
    }

pub returns : goal.returns
returns g c = λ t.
    free_all c.args.machine.now.code c.args.machine.now.image c.args.stack c.processes.done c.started-last.result c.requires.valid c.started-last.ensures c.processes-test.false
    c.processes.invariant.free
