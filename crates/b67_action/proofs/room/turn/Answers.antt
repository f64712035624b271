use Rattle.std.proofs.Common.{sym, subst}
use Rattle.b67_ops.specs.declared.BranchKind.{BranchKind}
use Rattle.b67_table.specs.Rows.{branch_turn}
use Rattle.b67_action.specs.OnRoom.{PerformsOn}
use Rattle.b67_action.proofs.OnRoom.{turn_on}
use Rattle.b67_action.proofs.room.turn.Goals as goal

pub returns-in-Brun-clause-done : goal.returns-in-Brun-clause-done
returns-in-Brun-clause-done c = λ done.
    subst (λ (k : BranchKind). PerformsOn (branch_turn k c.args.target c.args.regs.now c.args.next) c.args.regs.now c.args.room.now (record c.args.regs.now { place = c.args.target }) c.args.room.now)
    (sym c.in-Brun.is) (λ stacks rows there. turn_on c.args.regs.now c.args.room.now c.requires.room stacks rows there c.args.target c.args.next)
