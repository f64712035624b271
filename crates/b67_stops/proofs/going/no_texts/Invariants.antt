use Rattle.std.proofs.Common.{◌≡◌, length}
use Rattle.b67_stops.proofs.going.no_texts.Given as goal

abbrev pub invariant-commands : goal.invariant-commands
invariant-commands l = length l.texts.items ≡ l.index
