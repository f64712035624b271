-- Laws of what follows.
use Rattle.std.proofs.Common.{◌≡◌, refl, List, [], ◌∷◌, ◌++◌, map, ap}
use Rattle.algol_meaning.proofs.Cited.{settles_items}
use Rattle.algol_rest_expr.proofs.Supplying.{all_done_append, length_append_one}
use Rattle.algol_cells.specs.SeenValue.{value}
use Rattle.algol_cells.specs.declared.value.Value.{Value}

pub values_append : (vs : List Value) (v : Value) → map value (vs ++ v ∷ []) ≡ map value vs ++ value v ∷ []
values_append [] v = refl
values_append (w ∷ vs) v = ap (λ (x : _). value w ∷ x) (values_append vs v)

pub ruleset value_laws = values_append

pub ruleset held_laws = (values_append, all_done_append, length_append_one)

pub ruleset list_laws = settles_items
