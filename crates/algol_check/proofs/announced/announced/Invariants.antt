use Rattle.std.proofs.Common.{◌≡◌, drop, map, reverse}
use Rattle.std.specs.Prelude.{option_copied}
use Rattle.algol_tree.specs.Image.{decls}
use Rattle.algol_check.specs.Announced.{HasBodies, bodies_for}
use Rattle.algol_check.proofs.announced.announced.Given as goal

abbrev pub invariant-declarations : goal.invariant-declarations
invariant-declarations l =
    HasBodies l.bodies (decls (drop l.at l.decls)) × (map option_copied (reverse l.found.items) ≡ bodies_for (decls (drop l.at l.decls)))
