use Rattle.std.proofs.Common.{◌≡◌, ◌+◌, ◌≤◌}
use Rattle.b67_ready.specs.declared.order.Order.TheVariants.{Fifo}
use Rattle.b67_table.specs.Limits.{most_processes}
use Rattle.b67_exec.proofs.Running.{Stands}
use Rattle.b67_exec.proofs.exec.Given as goal

-- the run stands here, and the queue is one
abbrev pub invariant-turns : goal.invariant-turns
invariant-turns g l =
    Stands l.fn.machine.code l.fn.budget l.left l.machine l.ready.waiting × (l.ready.rule ≡ Fifo) × (most_processes + 2 ≤ l.ready.room)

abbrev pub decreases-turns : goal.decreases-turns
decreases-turns g l = l.left
