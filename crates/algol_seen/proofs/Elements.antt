-- The number of an element that is there.
use Rattle.std.proofs.Common.{arith, ◌≡◌, refl, ap, sym, ◌∙◌, ℕ, zero, suc, ◌+◌, ◌^◌, ◌<◌, ◌≤◌, List, [], ◌∷◌, length, Option, Some, None, slice_get}
use Rattle.std.proofs.lemmas.Option.{slice_get_past}
use Rattle.algol_meaning.specs.Value.{Value}
use Rattle.algol_instances.specs.SeenArray.{capped}
use Rattle.b67_race.specs.Cells.{at_of}
use Rattle.algol_seen.specs.Accesses.{if_there}

some_there : (vs : List Value) (n : ℕ) → n < length vs → if_there (slice_get vs n) n ≡ Some n
some_there vs n l = by vs n n l
  where
    by : (ws : List Value) (k m : ℕ) → k < length ws → if_there (slice_get ws k) m ≡ Some m
    by [] k m l = absurd (omega (arith, l))
    by (w ∷ ws) zero m l = refl
    by (w ∷ ws) (suc k) m l = by ws k m (omega (arith, l))

none_there : (vs : List Value) (n : ℕ) → length vs ≤ n → if_there (slice_get vs n) n ≡ None
none_there vs n l = ap (λ (o : Option Value). if_there o n) (slice_get_past vs n l)

pub is_there : (vs : List Value) (number n count : ℕ) → count ≡ length vs → count < 2 ^ 64 → number < count → number ≡ capped n → at_of (number + 1) ≡ if_there (slice_get vs n) n
is_there vs number n count same fits less e =
    let exact : n ≡ number = omega (arith, fits, less, e) in
    let next : number + 1 ≡ suc number = omega arith in
    ap at_of next ∙ ap (λ (k : ℕ). Some k) (sym exact) ∙ sym (some_there vs n (omega (arith, exact, less, same)))

pub not_there : (vs : List Value) (number n count : ℕ) → count ≡ length vs → count < 2 ^ 64 → count ≤ number → number ≡ capped n → None ≡ if_there (slice_get vs n) n
not_there vs number n count same fits more e = sym (none_there vs n (omega (arith, same, fits, more, e)))

pub ruleset there_laws = (is_there, not_there)
