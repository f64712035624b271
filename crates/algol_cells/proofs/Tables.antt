-- What the numbers of places say of blocks and uses.
use Rattle.std.proofs.Common.{◌≡◌, refl, ℕ, ℤ, suc, ◌+◌, ◌-◌, ◌≤◌, Bool, true, false, cond, List, [], ◌∷◌, ◌∙◌, sym, ap, map, length, Option, Some, None, arith, nat_lt, slice_get, slice_index_or, option_map}
use Rattle.std.proofs.lemmas.Option.{same_Some, slice_get_read, slice_get_past}
use Rattle.std.proofs.lemmas.Bool.{ltb-true, ltb-false}
use Rattle.std.specs.Prelude.{unwrap_or}
use Rattle.algol_tree.specs.declared.token.Spot.{Spot}
use Rattle.algol_tree.specs.Blocks.{same_spot, number_at}
use Rattle.algol_tree.specs.Scopes as scoping
use Rattle.algol_tree.specs.Scopes.{declared_in}
use Rattle.algol_places.specs.Numbers.{number_from, place_number_of}
use Rattle.algol_cells.specs.Placed.{places_of_blocks, places_of_uses}
use Rattle.algol_cells.specs.SeenScope.{block, used}
use Rattle.algol_cells.specs.declared.scope.Block.{Block}
use Rattle.algol_cells.specs.declared.scope.Use.{Use}

-- ---- blocks

counts_step : (here : Bool) (k n l : ℕ) (later : Option ℕ) → unwrap_or later (k + 1 + l) ≡ k + 1 + n → unwrap_or (cond here (Some k) later) (k + suc l) ≡ k + cond here 0 (n + 1)
counts_step true k n l later told = omega arith
counts_step false k n l later told =
    let moved : k + suc l ≡ k + 1 + l = omega arith in
    let back : k + 1 + n ≡ k + (n + 1) = omega arith in
    ap (unwrap_or later) moved ∙ told ∙ back

-- the number of the first block that stands there, how many there are where none does
counts : (bs : List Block) (k : ℕ) (spot : Spot) → unwrap_or (number_from k (places_of_blocks bs) spot) (k + length bs) ≡ k + number_at (map block bs) spot
counts [] k spot = refl
counts (b ∷ bs) k spot =
    counts_step (same_spot b.spot spot) k (number_at (map block bs) spot) (length bs) (number_from (k + 1) (places_of_blocks bs) spot) (counts bs (k + 1) spot)

counted : (bs : List Block) (spot : Spot) → unwrap_or (place_number_of (places_of_blocks bs) spot) (length bs) ≡ number_at (map block bs) spot
counted bs spot =
    let before : length bs ≡ 0 + length bs = omega arith in
    let after : 0 + number_at (map block bs) spot ≡ number_at (map block bs) spot = omega arith in
    ap (unwrap_or (place_number_of (places_of_blocks bs) spot)) before ∙ counts bs 0 spot ∙ after

pub block_there : (bs : List Block) (places : List Spot) (spot : Spot) (n : ℕ) → places ≡ places_of_blocks bs → Some n ≡ place_number_of places spot → n ≡ number_at (map block bs) spot
block_there bs places spot n same e =
    ap (λ o. unwrap_or o (length bs)) (e ∙ ap (λ ps. place_number_of ps spot) same) ∙ counted bs spot

pub no_block_there : (bs : List Block) (places : List Spot) (spot : Spot) → places ≡ places_of_blocks bs → None ≡ place_number_of places spot → length bs ≡ number_at (map block bs) spot
no_block_there bs places spot same e =
    ap (λ o. unwrap_or o (length bs)) (e ∙ ap (λ ps. place_number_of ps spot) same) ∙ counted bs spot

pub ruleset number_laws = (block_there, no_block_there)

-- ---- uses

-- `lows`: the lower bounds by the places of declarations; `number`: the numbers of blocks by their places
module _ (lows : Spot → List ℤ) (number : Spot → ℕ) where
  abbrev Finds : List Use → ℕ → ℕ → Option scoping.Use → Type 0
  Finds us k n found = (k ≤ n) × (option_map (used lows number) (slice_get us (n - k)) ≡ found)

  finds_step : (here : Bool) (u : Use) (us : List Use) (k n : ℕ) (later : Option ℕ) (found : Option scoping.Use) → (later ≡ Some n → Finds us (k + 1) n found) →
      cond here (Some k) later ≡ Some n → Finds (u ∷ us) k n (cond here (Some (used lows number u)) found)
  finds_step true u us k n later found told e =
      let same : k ≡ n = same_Some k n e in
      let first : n - k ≡ 0 = omega (arith, same) in
      (omega (arith, same), ap (λ j. option_map (used lows number) (slice_get (u ∷ us) j)) first)
  finds_step false u us k n later found told e =
      let next = told e in
      let further : n - k ≡ suc (n - (k + 1)) = omega (arith, next.0) in
      (omega (arith, next.0), ap (λ j. option_map (used lows number) (slice_get (u ∷ us) j)) further ∙ next.1)

  finds : (us : List Use) (k n : ℕ) (spot : Spot) → number_from k (places_of_uses us) spot ≡ Some n → Finds us k n (declared_in (map (used lows number) us) spot)
  finds [] k n spot e = absurd (let clash : None ≡ Some n = e in cc)
  finds (u ∷ us) k n spot e =
      finds_step (same_spot u.spot spot) u us k n (number_from (k + 1) (places_of_uses us) spot) (declared_in (map (used lows number) us) spot) (finds us (k + 1) n spot) e

  misses_step : (here : Bool) (u : Use) (k : ℕ) (later : Option ℕ) (found : Option scoping.Use) → (later ≡ None → found ≡ None) → cond here (Some k) later ≡ None →
      cond here (Some (used lows number u)) found ≡ None
  misses_step true u k later found told e = absurd (let clash : Some k ≡ None = e in cc)
  misses_step false u k later found told e = told e

  misses : (us : List Use) (k : ℕ) (spot : Spot) → number_from k (places_of_uses us) spot ≡ None → declared_in (map (used lows number) us) spot ≡ None
  misses [] k spot e = refl
  misses (u ∷ us) k spot e = misses_step (same_spot u.spot spot) u k (number_from (k + 1) (places_of_uses us) spot) (declared_in (map (used lows number) us) spot) (misses us (k + 1) spot) e

  use_there : (us : List Use) (places : List Spot) (spot : Spot) (n : ℕ) → places ≡ places_of_uses us → Some n ≡ place_number_of places spot →
      option_map (used lows number) (slice_get us n) ≡ declared_in (map (used lows number) us) spot
  use_there us places spot n same e =
      let whole : n ≡ n - 0 = omega arith in
      ap (λ j. option_map (used lows number) (slice_get us j)) whole ∙ (finds us 0 n spot (sym (e ∙ ap (λ ps. place_number_of ps spot) same))).1

  pub use_read : (us : List Use) (places : List Spot) (spot : Spot) (n : ℕ) (u : Use) → places ≡ places_of_uses us → Some n ≡ place_number_of places spot → true ≡ nat_lt n (length us) →
      u ≡ slice_index_or us n u → Some (used lows number u) ≡ declared_in (map (used lows number) us) spot
  use_read us places spot n u same e b r =
      sym (ap (option_map (used lows number)) (slice_get_read us (length us) n u refl (ltb-true n (length us) (sym b)) r)) ∙ use_there us places spot n same e

  pub use_past : (us : List Use) (places : List Spot) (spot : Spot) (n : ℕ) → places ≡ places_of_uses us → Some n ≡ place_number_of places spot → false ≡ nat_lt n (length us) →
      None ≡ declared_in (map (used lows number) us) spot
  use_past us places spot n same e b =
      sym (ap (option_map (used lows number)) (slice_get_past us n (ltb-false n (length us) (sym b)))) ∙ use_there us places spot n same e

  pub no_use_there : (us : List Use) (places : List Spot) (spot : Spot) → places ≡ places_of_uses us → None ≡ place_number_of places spot → None ≡ declared_in (map (used lows number) us) spot
  no_use_there us places spot same e = sym (misses us 0 spot (sym (e ∙ ap (λ ps. place_number_of ps spot) same)))

pub ruleset use_laws = (use_read, use_past, no_use_there)
