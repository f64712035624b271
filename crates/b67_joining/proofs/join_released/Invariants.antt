use Rattle.std.proofs.Common.{◌≡◌, ◌≤◌, ◌++◌, take}
use Rattle.b67_joining.proofs.join_released.Given as goal

-- those before it have joined
abbrev pub invariant-released : goal.invariant-released
invariant-released g l =
    (l.ready.waiting ≡ l.initial.ready.waiting ++ take l.process-index l.released) × (l.ready.rule ≡ l.initial.ready.rule) × (l.ready.takes ≡ l.initial.ready.takes)
    × (l.initial.ready.room ≤ l.ready.room)
