-- Headings that are the same but for their places: what a FORWARD says and what the heading with the body says.
use Rattle.std.specs.Prelude.{ℤ, ◌&&◌, Bool, true, false, List, [], ◌∷◌}
use Rattle.std.specs.Ordering.{int_eq}
use Rattle.algol_tree.specs.declared.tree.Named.{Named}
use Rattle.algol_tree.specs.declared.tree.Heading.{Heading}
use Rattle.algol_tree.specs.declared.tree.Spec.{Spec}
use Rattle.algol_tree.specs.declared.tree.Spec.TheVariants as specs
use Rattle.algol_tree.specs.Classes.{same_kind, same_result}
use Rattle.algol_tree.specs.Sorts.{same_name}

abbrev same_names : List Named → List Named → Bool
same_names [] [] = true
same_names (n ∷ ns) (m ∷ ms) = same_name n.name m.name && same_names ns ms
same_names _ _ = false

abbrev same_lows : List ℤ → List ℤ → Bool
same_lows [] [] = true
same_lows (l ∷ ls) (m ∷ ms) = int_eq l m && same_lows ls ms
same_lows _ _ = false

abbrev same_spec : Spec → Spec → Bool
same_spec (specs.Simple k ns) (specs.Simple m ms) = same_kind k m && same_names ns ms
same_spec (specs.Events ns) (specs.Events ms) = same_names ns ms
same_spec (specs.Arrays k ns ls) (specs.Arrays m ms os) = same_kind k m && same_names ns ms && same_lows ls os
same_spec _ _ = false

abbrev same_specs : List Spec → List Spec → Bool
same_specs [] [] = true
same_specs (s ∷ ss) (t ∷ ts) = same_spec s t && same_specs ss ts
same_specs _ _ = false

abbrev pub same_heading : Heading → Heading → Bool
same_heading h g =
    same_result h.kind g.kind && same_name h.name.name g.name.name && same_names h.params g.params && same_names h.values g.values &&
    same_specs h.specs g.specs
