use Rattle.std.proofs.Common.{◌≡◌, ◌+◌, drop, map}
use Rattle.algol_tree.specs.declared.token.Spot.{Spot}
use Rattle.algol_tree.specs.Image.{body}
use Rattle.b67_emit_text.specs.Targets.{or_target, targets_in, target_under}
use Rattle.b67_emit_text.specs.Texts.{text_of_procedure, texts}
use Rattle.b67_emit_text.proofs.targets.targets_of.Given as goal

abbrev pub invariant-procedures : goal.invariant-procedures
invariant-procedures l =
    (spot : Spot) → or_target (target_under l.table spot) (targets_in (l.number + 1) (map text_of_procedure (drop l.number l.procedures.items)) spot) ≡ targets_in 0 (texts (body l.body)) spot
