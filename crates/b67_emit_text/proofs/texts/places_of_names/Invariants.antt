use Rattle.std.proofs.Common.{◌≡◌, ◌++◌, drop, map}
use Rattle.b67_emit_text.specs.Texts.{places_of, text_of_procedure}
use Rattle.b67_emit_text.proofs.texts.places_of_names.Given as goal

abbrev pub invariant-procedures : goal.invariant-procedures
invariant-procedures l = l.spots.items ++ places_of (map text_of_procedure (drop l.procedure-index l.procedures)) ≡ places_of (map text_of_procedure l.procedures)
