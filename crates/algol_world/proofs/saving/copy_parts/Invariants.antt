use Rattle.std.proofs.Common.{◌≡◌, map, take}
use Rattle.algol_tree.specs.Scopes.{Scopes}
use Rattle.algol_world.specs.SeenWorld.{part}
use Rattle.algol_world.proofs.saving.copy_parts.Given as goal

abbrev pub invariant-loop-part : goal.invariant-loop-part
invariant-loop-part l = (sc : Scopes) → map (part sc) l.copies.items ≡ map (part sc) (take l.part-index l.from)
