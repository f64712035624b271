use Rattle.std.proofs.Common.{◌≡◌, drop}
use Rattle.b67_emit_text.specs.Entries.{label_place_in}
use Rattle.b67_emit_text.proofs.entries.place_in.Given as goal

-- none of the labels that are done stands there
abbrev pub invariant-labels : goal.invariant-labels
invariant-labels l = label_place_in (drop l.label-index l.labels) l.spot ≡ label_place_in l.labels l.spot
