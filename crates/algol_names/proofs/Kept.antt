-- The lower bounds of the parameters for arrays that are used, found one after the other.
use Rattle.std.proofs.Common.{arith, ◌≡◌, ℕ, suc, ◌+◌, ◌<◌, ℤ, Bool, true, false, List, [], ◌∷◌, length, map, drop, get_or, drop-cons, Option, Some, None, refl, sym, ap, ◌∙◌, if◌then◌else◌}
use Rattle.std.specs.Option.{option_or}
use Rattle.std.specs.Borrow.{Bor}
use Rattle.std.specs.BTreeMap.{BTreeMap, get}
use Rattle.algol_tree.specs.declared.token.Spot.{Spot}
use Rattle.algol_tree.specs.contracts.token.SpotOrd.TheImpl.{ghosts}
use Rattle.algol_tree.specs.Scopes as scoping
use Rattle.algol_tree.specs.Sorts as plain
use Rattle.algol_tree.proofs.Spots.{same_spot_itself}
use Rattle.algol_sorts.specs.declared.sort.Sort.{Sort}
use Rattle.algol_sorts.specs.declared.sort.Sort.TheVariants as sort
use Rattle.algol_cells.specs.Shown.{shown_cell}
use Rattle.algol_cells.specs.SeenScope.{lows_under, or_no_lows, sort_as, used}
use Rattle.algol_cells.specs.declared.scope.Use.{Use}
use Rattle.algol_names.specs.Kept.{found_if, is_formal_at, is_used_among, lows_from, lows_used}

-- ---- one use

-- ---- one more use

both : (o : Option (List ℤ)) (a b : Bool) (lows : List ℤ) → option_or (option_or o (found_if a lows)) (found_if b lows) ≡ option_or o (found_if (if a then true else b) lows)
both (Some x) a b lows = refl
both None true true lows = refl
both None true false lows = refl
both None false b lows = refl

pub lows_step : (kept : Spot → List ℤ) (us : List Use) (i : ℕ) (u : Use) (old new : Option (List ℤ)) (spot : Spot) → i < length us → u ≡ get_or us i u →
    new ≡ option_or old (lows_used kept u spot) → option_or new (lows_from kept (drop (i + 1) us) spot) ≡ option_or old (lows_from kept (drop i us) spot)
lows_step kept us i u old new spot h e k =
    let next : suc i ≡ i + 1 = omega arith in
    let split : drop i us ≡ u ∷ drop (i + 1) us = drop-cons us i u h ∙ ap (λ (v : Use). v ∷ drop (suc i) us) (sym e) ∙ ap (λ (j : ℕ). u ∷ drop j us) next in
    ap (λ (o : Option (List ℤ)). option_or o (lows_from kept (drop (i + 1) us) spot)) k
    ∙ both old (is_formal_at u.sort u.declared spot) (is_used_among (drop (i + 1) us) spot) (kept spot)
    ∙ ap (λ (vs : List Use). option_or old (lows_from kept vs spot)) (sym split)

-- ---- all uses

alone : (o : Option (List ℤ)) (lows : List ℤ) → option_or o (found_if false lows) ≡ o
alone None lows = refl
alone (Some x) lows = refl

pub all_kept : (kept : Spot → List ℤ) (us left : List Use) (o : Option (List ℤ)) (spot : Spot) → left ≡ [] → option_or o (lows_from kept left spot) ≡ lows_from kept us spot → o ≡ lows_from kept us spot
all_kept kept us left o spot e h = sym (alone o (kept spot)) ∙ ap (λ (vs : List Use). option_or o (lows_from kept vs spot)) (sym e) ∙ h

found_lows : (o : Option (Bor (List ℤ))) (b : Bool) (lows : List ℤ) → shown_cell o ≡ found_if b lows → b ≡ true → or_no_lows o ≡ lows
found_lows None true lows e h = absurd (let clash : None ≡ Some lows = e in cc)
found_lows (Some x) true lows e h = let same : Some x.now ≡ Some lows = e in cc
found_lows o false lows e h = absurd (let clash : false ≡ true = h in cc)

module _ (kept found : Spot → List ℤ) (number : Spot → ℕ) where
  abbrev Meets : List Use → Type 0
  Meets us = (spot : Spot) → is_used_among us spot ≡ true → found spot ≡ kept spot

  abbrev made : Use → plain.Sort → scoping.Use
  made u sort = record { spot = u.spot; block = u.block; up = u.up; sort = sort }

  -- a use means the same
  one_same : (u : Use) → (is_formal_at u.sort u.declared u.declared ≡ true → found u.declared ≡ kept u.declared) → used found number u ≡ used kept number u
  one_same u h = ap (made u) (by u.sort h)
    where
      by : (s : Sort) → (is_formal_at s u.declared u.declared ≡ true → found u.declared ≡ kept u.declared) →
          sort_as s (found u.declared) (number u.declared) ≡ sort_as s (kept u.declared) (number u.declared)
      by (sort.FormalArray kind subscripts) h = ap (λ z. sort_as (sort.FormalArray kind subscripts) z (number u.declared)) (h (same_spot_itself u.declared))
      by (sort.Variable kind) h = refl
      by (sort.ByName kind) h = refl
      by (sort.Array kind subscripts) h = refl
      by sort.Event h = refl
      by sort.Task h = refl
      by sort.FormalEvent h = refl
      by sort.Label h = refl
      by sort.File h = refl
      by (sort.Procedure result) h = refl
      by sort.Unspecified h = refl

  first_of_them : (b rest : Bool) → b ≡ true → (if b then true else rest) ≡ true
  first_of_them b rest h = ap (λ (z : Bool). if z then true else rest) h

  later_of_them : (b rest : Bool) → rest ≡ true → (if b then true else rest) ≡ true
  later_of_them true rest h = refl
  later_of_them false rest h = h

  all_same : (us : List Use) → Meets us → map (used found number) us ≡ map (used kept number) us
  all_same [] m = refl
  all_same (u ∷ us) m =
      ap (λ (z : scoping.Use). z ∷ map (used found number) us)
      (one_same u (λ h. m u.declared (first_of_them (is_formal_at u.sort u.declared u.declared) (is_used_among us u.declared) h)))
      ∙ ap (λ (zs : List scoping.Use). used kept number u ∷ zs)
      (all_same us (λ spot h. m spot (later_of_them (is_formal_at u.sort u.declared spot) (is_used_among us spot) h)))

pub kept_same : (kept : Spot → List ℤ) (table : BTreeMap Spot (Bor (List ℤ))) (us : List Use) (number : Spot → ℕ) →
    ((spot : Spot) → shown_cell (get ghosts.cmp table spot) ≡ lows_from kept us spot) → map (used (lows_under table) number) us ≡ map (used kept number) us
kept_same kept table us number t =
    all_same kept (lows_under table) number us (λ spot h. found_lows (get ghosts.cmp table spot) (is_used_among us spot) (kept spot) (t spot) h)
