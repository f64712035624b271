-- Names and specifications that are the same but for their places.
use Rattle.std.specs.Prelude.{ℤ, ◌&&◌, Bool, true, false, List, [], ◌∷◌}
use Rattle.std.specs.Ordering.{int_eq}
use Rattle.algol_tree.specs.declared.tree.Named.{Named}
use Rattle.algol_tree.specs.declared.tree.Spec.{Spec}
use Rattle.algol_tree.specs.declared.tree.Spec.TheVariants as specs
use Rattle.algol_tree.specs.Classes.{same_kind}
use Rattle.algol_tree.specs.Sorts.{same_name}

abbrev pub names_agree : List Named → List Named → Bool
names_agree [] [] = true
names_agree (n ∷ ns) (m ∷ ms) = same_name n.name m.name && names_agree ns ms
names_agree _ _ = false

abbrev pub lows_agree : List ℤ → List ℤ → Bool
lows_agree [] [] = true
lows_agree (l ∷ ls) (m ∷ ms) = int_eq l m && lows_agree ls ms
lows_agree _ _ = false

abbrev pub spec_agrees : Spec → Spec → Bool
spec_agrees (specs.Simple k ns) (specs.Simple m ms) = same_kind k m && names_agree ns ms
spec_agrees (specs.Events ns) (specs.Events ms) = names_agree ns ms
spec_agrees (specs.Arrays k ns ls) (specs.Arrays m ms os) = same_kind k m && names_agree ns ms && lows_agree ls os
spec_agrees _ _ = false

abbrev pub specs_agree : List Spec → List Spec → Bool
specs_agree [] [] = true
specs_agree (s ∷ ss) (t ∷ ts) = spec_agrees s t && specs_agree ss ts
specs_agree _ _ = false
