-- A process that is able, where there is one.
use Rattle.std.specs.Prelude.{slice_get, ◌&&◌, not, if◌then◌else◌}
use Rattle.std.proofs.Common.{◌≡◌, refl, sym, ◌∙◌, true≢false, ℕ, suc, ◌≤◌, ◌<◌, Bool, true, false, List, [], ◌∷◌, length, Option, Some, None, arith}
use Rattle.b67_list.specs.Numbered.{numbered}
use Rattle.b67_table.specs.declared.ProcessState.{ProcessState}
use Rattle.b67_table.specs.declared.ProcessState.TheVariants as states
use Rattle.b67_table.specs.Image.{Image, Failure, is_able}
use Rattle.b67_table.specs.Ending.{some_able, some_lives, all_waiting, image_end}
use Rattle.b67_table.specs.Ending as ending

-- the place of one that is able, from 0
able_from : (ss : List ProcessState) → some_able ss ≡ true → (k : ℕ) × (k < length ss) × (is_able (slice_get ss k) ≡ true)
able_from [] e = cc
able_from (states.Able ∷ ss) e = (0, omega arith, refl)
able_from (states.WaitsFor at ∷ ss) e = let r = able_from ss e in (suc r.0, omega (arith, r.1), r.2)
able_from (states.WaitsAny ∷ ss) e = let r = able_from ss e in (suc r.0, omega (arith, r.1), r.2)
able_from (states.Procures at ∷ ss) e = let r = able_from ss e in (suc r.0, omega (arith, r.1), r.2)
able_from (states.Ended ∷ ss) e = let r = able_from ss e in (suc r.0, omega (arith, r.1), r.2)

not_less : (p q : ℕ) → (q < p → ⊥) → p ≤ q
not_less p q h = omega (arith, h)

-- where none below a number is able and one is, that number is no more than there are
pub not_above : (ss : List ProcessState) (p : ℕ) → some_able ss ≡ true → ((q : ℕ) → q < p → is_able (numbered ss q) ≡ false) → p ≤ length ss
not_above ss p some below =
    let r = able_from ss some in
    omega (arith, r.1, not_less p (suc r.0) (λ (h : suc r.0 < p). true≢false (sym r.2 ∙ below (suc r.0) h)))

-- ---- in a run without an end one is able

able_unless : (f : Option Failure) (ss : List ProcessState) → some_lives ss ≡ true → ending.image_end_by f ss ≡ None → some_able ss ≡ true
able_unless (Some f) ss lives e = cc
able_unless None ss lives e = by (some_lives ss) (some_able ss) lives e
  where
    by : (a b : Bool) → a ≡ true → (if a && not b then Some all_waiting else None) ≡ None → b ≡ true
    by true true l e = refl
    by true false l e = cc
    by false b l e = cc

-- the end of an image with this fault and these states
end_of : (f : Option Failure) → List ProcessState → Option ending.ImageEnd
end_of f ss = if ending.has_ended (numbered ss 1) then Some ending.finished else ending.image_end_by f ss

able_of : (f : Option Failure) (ss : List ProcessState) → end_of f ss ≡ None → 1 ≤ length ss → some_able ss ≡ true
unfolding end_of
able_of f [] e some = absurd (omega (arith, some))
able_of f (states.Able ∷ ss) e some = refl
able_of f (states.WaitsFor at ∷ ss) e some = able_unless f (states.WaitsFor at ∷ ss) refl e
able_of f (states.WaitsAny ∷ ss) e some = able_unless f (states.WaitsAny ∷ ss) refl e
able_of f (states.Procures at ∷ ss) e some = able_unless f (states.Procures at ∷ ss) refl e
able_of f (states.Ended ∷ ss) e some = cc

pub one_able : (img : Image) → image_end img ≡ None → 1 ≤ length img.states → some_able img.states ≡ true
unfolding end_of image_end
one_able img e some = able_of img.fault img.states e some
