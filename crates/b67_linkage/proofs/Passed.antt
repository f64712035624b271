-- The way down to a frame, step by step.
use Rattle.std.proofs.Common.{◌≡◌, refl, sym, ap, ◌∙◌, ℕ, zero, suc, ◌+◌, ◌-◌, ◌<◌, ◌≤◌, Bool, true, false, List, [], Option, Some, None, Result, Ok, Err, cond, arith}
use Rattle.std.specs.Prelude.{nat_lt, nat_le, nat_eq}
use Rattle.std.proofs.lemmas.Bool.{lt-ltb, le-ltb, eq-eqb, ne_eqb}
use Rattle.b67_word.specs.declared.Place.{Place}
use Rattle.b67_store.specs.Store.{Stacks}
use Rattle.b67_table.specs.declared.Below.{Below}
use Rattle.b67_table.specs.declared.InterruptKind.{InterruptKind}
use Rattle.b67_table.specs.declared.InterruptKind.TheVariants.{BrokenChain}
use Rattle.b67_table.specs.Look.{Look, found, look_seen, ◌>->◌}
use Rattle.b67_table.specs.Chains.{place, chain_broken, left_to}
use Rattle.b67_table.specs.GoingTo.{Passed, Passing, passing}
use Rattle.b67_table.specs.GoingTo as going
use Rattle.b67_display.proofs.Linking.{after, seen_then}

abbrev pub frame_with : ℕ → ℕ → Passed
frame_with frame cells = record { frame = frame; cells = cells }

module _ {A : Type 0} (st : Stacks) (stack target frame cells : ℕ) (K : Passing → A) where
  abbrev here : Passed
  here = record { frame = frame; cells = cells }

  abbrev pub from_here : ℕ → Look A
  from_here steps = passing steps stack target here >-> (λ (p : Passing). found (K p))

  abbrev pub from_below : ℕ → Below → Look A
  from_below steps b =
      passing steps stack target (record { frame = b.frame; cells = b.control.caller_cells }) >-> (λ (p : Passing). found (K (going.passing_after here p)))

  abbrev kept : Passing → Result A InterruptKind
  kept p = Ok (K p)

  abbrev down : ℕ → Below → Look Passing
  down n b = passing n stack target (record { frame = b.frame; cells = b.control.caller_cells }) >-> (λ (p : Passing). found (going.passing_after here p))

  abbrev on_way : ℕ → Look Passing
  on_way n = left_to (place stack frame) >-> (λ (b : Below). down n b)

  abbrev at_target : Look Passing
  at_target = found (record { frames = []; cells = cells })

  joined : (y : Result Passing InterruptKind) → after (after y (λ (p : Passing). Ok (going.passing_after here p))) kept ≡ after y (λ (p : Passing). Ok (K (going.passing_after here p)))
  joined (Ok p) = refl
  joined (Err kind) = refl

  above : (n : ℕ) → target < frame → look_seen st (passing (suc n) stack target here) ≡ look_seen st (on_way n)
  above n h =
      ap (λ (b : Bool). look_seen st (cond b at_target (cond (nat_lt frame target) chain_broken (on_way n)))) (ne_eqb frame target (λ e. absurd (omega (arith, h, e))))
      ∙ ap (λ (b : Bool). look_seen st (cond b chain_broken (on_way n))) (le-ltb frame target (omega (arith, h)))

  step_by : (n : ℕ) (b : Below) → target < frame → look_seen st (left_to (place stack frame)) ≡ Ok b → look_seen st (from_here (suc n)) ≡ look_seen st (from_below n b)
  step_by n b h e =
      seen_then st (passing (suc n) stack target here) (λ (p : Passing). found (K p))
      ∙ ap (λ (y : Result Passing InterruptKind). after y kept)
      (above n h ∙ seen_then st (left_to (place stack frame)) (λ (k : Below). down n k)
      ∙ ap (λ (x : Result Below InterruptKind). after x (λ (k : Below). look_seen st (down n k))) e
      ∙ seen_then st (passing n stack target (record { frame = b.frame; cells = b.control.caller_cells })) (λ (p : Passing). found (going.passing_after here p)))
      ∙ joined (look_seen st (passing n stack target (record { frame = b.frame; cells = b.control.caller_cells })))
      ∙ sym (seen_then st (passing n stack target (record { frame = b.frame; cells = b.control.caller_cells })) (λ (p : Passing). found (K (going.passing_after here p))))

  stop_by : (n : ℕ) (kind : InterruptKind) → target < frame → look_seen st (left_to (place stack frame)) ≡ Err kind → look_seen st (from_here (suc n)) ≡ Err kind
  stop_by n kind h e =
      seen_then st (passing (suc n) stack target here) (λ (p : Passing). found (K p))
      ∙ ap (λ (y : Result Passing InterruptKind). after y kept)
      (above n h ∙ seen_then st (left_to (place stack frame)) (λ (k : Below). down n k)
      ∙ ap (λ (x : Result Below InterruptKind). after x (λ (k : Below). look_seen st (down n k))) e)

  met_by : (n : ℕ) → frame ≡ target → look_seen st (from_here (suc n)) ≡ Ok (K (record { frames = []; cells = cells }))
  met_by n e =
      seen_then st (passing (suc n) stack target here) (λ (p : Passing). found (K p))
      ∙ ap (λ (b : Bool). after (look_seen st (cond b at_target (cond (nat_lt frame target) chain_broken (on_way n)))) kept) (eq-eqb frame target e)

  missed_by : (n : ℕ) → frame < target → look_seen st (from_here (suc n)) ≡ Err BrokenChain
  missed_by n h =
      seen_then st (passing (suc n) stack target here) (λ (p : Passing). found (K p))
      ∙ ap (λ (b : Bool). after (look_seen st (cond b at_target (cond (nat_lt frame target) chain_broken (on_way n)))) kept) (ne_eqb frame target (λ e. absurd (omega (arith, h, e))))
      ∙ ap (λ (b : Bool). after (look_seen st (cond b chain_broken (on_way n))) kept) (lt-ltb frame target h)

  one_less : (steps : ℕ) → 0 < steps → steps ≡ suc (steps - 1)
  one_less steps h = omega (arith, h)

  -- to the frame below
  pub steps_down : (steps : ℕ) (b : Below) → 0 < steps → target < frame → look_seen st (left_to (place stack frame)) ≡ Ok b
      → look_seen st (from_here steps) ≡ look_seen st (from_below (steps - 1) b)
  steps_down steps b s h e = ap (λ (n : ℕ). look_seen st (from_here n)) (one_less steps s) ∙ step_by (steps - 1) b h e

  -- nothing is below
  pub stops_there : (steps : ℕ) (kind : InterruptKind) → 0 < steps → target < frame → look_seen st (left_to (place stack frame)) ≡ Err kind → look_seen st (from_here steps) ≡ Err kind
  stops_there steps kind s h e = ap (λ (n : ℕ). look_seen st (from_here n)) (one_less steps s) ∙ stop_by (steps - 1) kind h e

  pub is_met : (steps : ℕ) → 0 < steps → frame ≡ target → look_seen st (from_here steps) ≡ Ok (K (record { frames = []; cells = cells }))
  is_met steps s e = ap (λ (n : ℕ). look_seen st (from_here n)) (one_less steps s) ∙ met_by (steps - 1) e

  pub is_missed : (steps : ℕ) → 0 < steps → frame < target → look_seen st (from_here steps) ≡ Err BrokenChain
  is_missed steps s h = ap (λ (n : ℕ). look_seen st (from_here n)) (one_less steps s) ∙ missed_by (steps - 1) h
