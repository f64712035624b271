-- Laws of parameters, and of what names are declared as.
use Rattle.std.proofs.Common.{◌≡◌, refl, ℕ, zero, suc, ℤ, Bool, List, [], ◌∷◌, ◌∙◌, sym, ap, map, length, nat_lt, true, false, Some, None, slice_get, slice_index_or, option_map}
use Rattle.std.proofs.lemmas.Option.{slice_get_read, slice_get_past}
use Rattle.std.proofs.lemmas.Bool.{ltb-true, ltb-false}
use Rattle.algol_tree.specs.Sorts as plain
use Rattle.algol_sorts.specs.declared.sort.Sort.{Sort}
use Rattle.algol_sorts.specs.declared.sort.Sort.TheVariants as sorts
use Rattle.algol_meaning.specs.Settle.{sorts_of}
use Rattle.algol_cells.specs.SeenScope.{by_value_or_none, is_by_value, lows_specified, parameter, sort_as}
use Rattle.algol_cells.specs.declared.scope.Parameter.{Parameter}

by_value_same : (s : Sort) (lows : List ℤ) (number : ℕ) → is_by_value s ≡ plain.is_variable (sort_as s lows number)
by_value_same (sorts.Variable kind) lows number = refl
by_value_same (sorts.ByName kind) lows number = refl
by_value_same (sorts.Array kind subscripts) lows number = refl
by_value_same (sorts.FormalArray kind subscripts) lows number = refl
by_value_same sorts.Event lows number = refl
by_value_same sorts.Task lows number = refl
by_value_same sorts.FormalEvent lows number = refl
by_value_same sorts.Label lows number = refl
by_value_same sorts.File lows number = refl
by_value_same (sorts.Procedure result) lows number = refl
by_value_same sorts.Unspecified lows number = refl

-- ---- parameters

abbrev sort_of : Parameter → plain.Sort
sort_of p = (parameter p).sort

sort_of_parameter : (ps : List Parameter) (k : ℕ) → slice_get (sorts_of (map parameter ps)) k ≡ option_map sort_of (slice_get ps k)
sort_of_parameter [] k = refl
sort_of_parameter (p ∷ ps) zero = refl
sort_of_parameter (p ∷ ps) (suc k) = sort_of_parameter ps k

pub parameter_at :
    (ps : List Parameter) (k : ℕ) (x : Parameter) (b : Bool) → true ≡ nat_lt k (length ps) → x ≡ slice_index_or ps k x → b ≡ is_by_value x.sort
    → Some b ≡ by_value_or_none (slice_get (sorts_of (map parameter ps)) k)
parameter_at ps k x b e f g =
    ap (λ (b : Bool). Some b) (g ∙ by_value_same x.sort (lows_specified x.heading.now.specs x.name.now) 0)
    ∙ sym (ap by_value_or_none (sort_of_parameter ps k ∙ ap (option_map sort_of) (slice_get_read ps (length ps) k x refl (ltb-true k (length ps) (sym e)) f)))

pub parameter_past : (ps : List Parameter) (k : ℕ) → false ≡ nat_lt k (length ps) → None ≡ by_value_or_none (slice_get (sorts_of (map parameter ps)) k)
parameter_past ps k b =
    sym (ap by_value_or_none (sort_of_parameter ps k ∙ ap (option_map sort_of) (slice_get_past ps k (ltb-false k (length ps) (sym b)))))

pub ruleset parameter_laws = (parameter_at, parameter_past)
