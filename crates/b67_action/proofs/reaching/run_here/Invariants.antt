use Rattle.std.proofs.Common.{◌≡◌, ◌+◌, ◌≤◌, ℕ, true, false, length}
use Rattle.b67_table.specs.Image.{Image}
use Rattle.b67_table.specs.Privacy.{RegistersStay}
use Rattle.b67_reach.specs.Images.{with_own}
use Rattle.b67_action.specs.Reaching.{IsInOpen, IsOpen, own_of}
use Rattle.b67_action.specs.Running.{IsOpenAt, HasCome, HasRun}
use Rattle.b67_action.proofs.Open.{loans_left}
use Rattle.b67_action.proofs.reaching.run_here.Given as goal

abbrev pub invariant-lending : goal.invariant-lending
invariant-lending g l = record {
  come : (img : Image) (p : ℕ) → IsInOpen l.fn.code img p (g.C.Core.stacks l.fn.core) (g.C.Core.rows l.fn.core) l.fn.regs
      → HasCome l.fn.code p img l.lent.ran l.letters (with_own (own_of (g.C.Core.stacks l.core) (g.C.Core.rows l.core) l.regs) p img);
  ran : l.lent.short ≡ false → (img : Image) (p : ℕ) → IsInOpen l.fn.code img p (g.C.Core.stacks l.fn.core) (g.C.Core.rows l.fn.core) l.fn.regs
      → HasRun l.fn.code p l.fn.most img l.lent.ran l.letters (with_own (own_of (g.C.Core.stacks l.core) (g.C.Core.rows l.core) l.regs) p img);
  is_open : l.lent.short ≡ true → IsOpenAt l.lent.ran.entries l.letters;
  «open» : IsOpen (g.C.Core.stacks l.core) l.regs;
  size : length l.letters ≡ length l.fn.letters;
  entries : l.lent.ran.entries ≤ length l.letters;
  counted : l.lent.ran.entries ≤ l.lent.ran.operators;
  most : l.lent.ran.operators + l.lent.ran.plain ≤ l.fn.most;
  keeps : RegistersStay l.fn.regs l.regs;
}

abbrev pub decreases-lending : goal.decreases-lending
decreases-lending g l = loans_left l.lent.short l.regs.s
