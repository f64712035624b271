use Rattle.std.proofs.Common.{◌≡◌, All, length, take, true}
use Rattle.b67_events.specs.Events.{is_open}
use Rattle.b67_table.specs.Image.{Image}
use Rattle.b67_table.specs.Limits.{most_events}
use Rattle.b67_intrinsics.specs.Called.{arguments}
use Rattle.b67_intrinsics.proofs.ManyEvents.{AreFound}
use Rattle.b67_intrinsics.proofs.finding.find_events.Given as goal

abbrev pub invariant-finding : goal.invariant-finding
invariant-finding g l = record {
  size : length l.places ≡ most_events;
  found : (img : Image) → img.stacks ≡ g.C.Core.stacks l.fn.core → img.events ≡ l.fn.kernel.events → AreFound img l.fn.regs (arguments (g.C.Core.stacks l.fn.core) l.fn.regs) (take l.n l.places) l.n;
  there : All (λ place. is_open place l.fn.kernel.events ≡ true) (take l.n l.places);
}
