-- Elements by their numbers, where a number that is too great is the greatest.
use Rattle.std.proofs.Common.{arith, ◌≡◌, ℕ, ◌^◌, ◌≤◌, ◌<◌, pos, List, length, map, ap, sym, ◌∙◌, slice_get, slice_set, get_or, option_map}
use Rattle.std.proofs.lemmas.List.{map-set}
use Rattle.std.proofs.lemmas.Option.{slice_get-map, slice_get-get_or, slice_get_past}
use Rattle.algol_meaning.specs.Value as plain
use Rattle.algol_meaning.specs.Arrays.{or_number}
use Rattle.algol_cells.specs.SeenValue.{value}
use Rattle.algol_cells.specs.declared.value.Value.{Value}
use Rattle.algol_instances.specs.SeenArray.{capped}

module _ (xs : List Value) (n k : ℕ) (is : k ≡ capped n) where
  pub element_within :
      (v : Value) → k < length xs → length xs < 2 ^ 64 → v ≡ get_or xs k v → value v ≡ or_number (slice_get (map value xs) n)
  element_within v within fits here =
      let same : k ≡ n = omega arith in
      ap value here
      ∙ sym (ap or_number (slice_get-map value xs n ∙ ap (λ (i : ℕ). option_map value (slice_get xs i)) (sym same)
      ∙ ap (option_map value) (slice_get-get_or xs k v within)))

  pub element_past : length xs ≤ k → plain.number (pos 0) ≡ or_number (slice_get (map value xs) n)
  element_past past =
      let more : length xs ≤ n = omega arith in
      sym (ap or_number (slice_get-map value xs n ∙ ap (option_map value) (slice_get_past xs n more)))

  pub set_within : (v : Value) → k < length xs → length xs < 2 ^ 64 → map value (slice_set xs k v) ≡ slice_set (map value xs) n (value v)
  set_within v within fits =
      let same : k ≡ n = omega arith in
      map-set value xs k v ∙ ap (λ (i : ℕ). slice_set (map value xs) i (value v)) same
