use Rattle.std.proofs.Common.{◌≡◌, drop, map}
use Rattle.algol_tree.specs.declared.token.Spot.{Spot}
use Rattle.b67_emit_text.specs.Entries.{entry_of}
use Rattle.b67_emit_text.specs.Targets.{or_target, targets_from, target_under}
use Rattle.b67_emit_text.proofs.targets.add_entries.Given as goal

abbrev pub invariant-entries : goal.invariant-entries
invariant-entries l =
    (spot : Spot) → or_target (target_under l.table spot) (targets_from l.text l.number (map entry_of (drop l.number l.entries)) spot) ≡
    or_target (target_under l.initial.table spot) (targets_from l.text 0 (map entry_of l.entries) spot)
