-- The commands of a console on a schedule whose seventh and ninth entries store under the name N.
use Rattle.std.proofs.Common.{◌≡◌, refl, [], ◌∷◌, Some, None, codes}
use Rattle.b67_commands.specs.declared.command.Command.TheVariants.{Go, Store, Show}
use Rattle.b67_commands.specs.Positions.{Stored, positions}

abbrev schedule : Stored
schedule = None ∷ None ∷ None ∷ None ∷ None ∷ None ∷ Some (codes "N") ∷ None ∷ Some (codes "N") ∷ None ∷ []

forward_and_back : positions schedule 0 (Store (codes "N") ∷ Store (codes "N") ∷ Go 3 ∷ Show ∷ []) ≡ 7 ∷ 9 ∷ 3 ∷ 3 ∷ []
forward_and_back = refl

-- past the end, and to a name under which nothing is stored
to_the_end : positions schedule 0 (Go 100 ∷ Go 8 ∷ Store (codes "M") ∷ Store (codes "N") ∷ []) ≡ 10 ∷ 8 ∷ 10 ∷ 10 ∷ []
to_the_end = refl
