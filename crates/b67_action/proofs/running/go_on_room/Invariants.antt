use Rattle.std.proofs.Common.{◌≡◌, ◌-◌, ◌≤◌, ℕ, length, take}
use Rattle.b67_table.specs.Image.{Image}
use Rattle.b67_table.specs.Privacy.{RegistersStay}
use Rattle.b67_action.specs.Running.{IsLent, IsOpenAt, HasCome, given_back}
use Rattle.b67_action.proofs.Runs.{Going}
use Rattle.b67_action.proofs.running.go_on_room.Given as goal

abbrev pub invariant-running : goal.invariant-running
invariant-running l = record {
  ran : (first img : Image) (p : ℕ) → IsLent l.fn.code img p l.fn.regs l.fn.room → HasCome l.fn.code p first l.fn.so_far l.fn.letters img
      → Going l.fn.code p first (take l.entries l.letters) l.operators (l.done - l.operators) (given_back l.regs l.room p img);
  lends : (img : Image) (p : ℕ) → IsLent l.fn.code img p l.fn.regs l.fn.room → IsLent l.fn.code (given_back l.regs l.room p img) p l.regs l.room;
  held : l.regs.s ≤ length l.room;
  size : length l.letters ≡ length l.fn.letters;
  entries : l.entries ≤ length l.letters;
  operators : l.operators ≤ l.done;
  few : l.entries ≤ l.operators;
  is_open : IsOpenAt l.entries l.letters;
  done : l.done ≤ l.fn.most;
  keeps : RegistersStay l.fn.regs l.regs;
  place : l.place ≡ l.regs.place;
}

abbrev pub decreases-running : goal.decreases-running
decreases-running l = l.fn.most - l.done
