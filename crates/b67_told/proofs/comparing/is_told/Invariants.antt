use Rattle.std.proofs.Common.{take}
use Rattle.b67_told.specs.Telling.{OutcomeIsTold}
use Rattle.b67_told.proofs.comparing.is_told.Given as goal

-- it is not among those before
abbrev pub invariant-told : goal.invariant-told
invariant-told l = OutcomeIsTold (take l.item-index l.told) (record { output = l.output; end = l.end }) → ⊥
