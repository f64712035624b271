use Rattle.std.proofs.Common.{◌≡◌, ◌-◌, ◌+◌, ◌≤◌, ℕ, length}
use Rattle.b67_table.specs.Image.{Image}
use Rattle.b67_table.specs.Privacy.{RegistersStay}
use Rattle.b67_reach.specs.Images.{with_own}
use Rattle.b67_action.specs.Reaching.{IsInOpen, IsOpen, own_of}
use Rattle.b67_action.specs.Running.{HasRun}
use Rattle.b67_action.proofs.reaching.run_open.Given as goal

abbrev pub invariant-running : goal.invariant-running
invariant-running g l = record {
  ran : (img : Image) (p : ℕ) → IsInOpen l.fn.code img p (g.C.Core.stacks l.fn.core) (g.C.Core.rows l.fn.core) l.fn.regs
      → HasRun l.fn.code p l.fn.most img l.ran l.letters (with_own (own_of (g.C.Core.stacks l.core) (g.C.Core.rows l.core) l.regs) p img);
  «open» : IsOpen (g.C.Core.stacks l.core) l.regs;
  size : length l.letters ≡ length l.fn.letters;
  entries : l.ran.entries ≤ length l.letters;
  counted : l.ran.entries ≤ l.ran.operators;
  most : l.ran.operators + l.ran.plain ≤ l.fn.most;
  keeps : RegistersStay l.fn.regs l.regs;
}

abbrev pub decreases-running : goal.decreases-running
decreases-running g l = length l.fn.letters - l.ran.entries
