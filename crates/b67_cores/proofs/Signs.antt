-- Numbers in the tests of loops.
use Rattle.std.proofs.Common.{◌≡◌, refl, sym, ap, ◌∙◌, ◌≤◌, ◌<◌, Bool, true, false, ℤ, pos, negsuc, Ok, arith}
use Rattle.std.specs.Prelude.{int_lt, not, unsigned_abs, ◌-ℤ◌, ◌*ℤ◌, if◌then◌else◌}
use Rattle.std.proofs.lemmas.Bool.{ltb-true}
use Rattle.std.proofs.lemmas.Bool.Decides.{nat_tests}
use Rattle.std.proofs.lemmas.Int.{ints}
use Rattle.algol_meaning.specs.Statements.{sign_of, is_past}
use Rattle.b67_num.specs.declared.Calculation.TheVariants.{Difference, Product}
use Rattle.b67_num.specs.declared.Relation.TheVariants.{Less, Greater}
use Rattle.b67_num.specs.Whole.{most, whole, calculated, related}
use Rattle.b67_num.proofs.WholeLaws.{whole_fitting}
use Rattle.b67_templates.specs.Fragments.{IsWholeNumber}
use Rattle.b67_cores.proofs.Taking.{one_if}
use Rattle.b67_cores.proofs.Lows.{time_none, time_one}

-- ---- THRU

-- a count that is less than 1 is not above 0
pub less_one : (z : ℤ) → related Less z (pos 1) ≡ not (int_lt (pos 0) z)
unfolding related
less_one (pos n) = grind (arith, nat_tests)
less_one (negsuc n) = refl

one_less : (z : ℤ) → IsWholeNumber z → int_lt (pos 0) z ≡ true → unsigned_abs (z -ℤ pos 1) ≤ most
one_less (pos n) h e = let some : 0 < n = ltb-true 0 n e in omega (arith, ints)
one_less (negsuc n) h e = cc

pub counted_down : (z : ℤ) → IsWholeNumber z → int_lt (pos 0) z ≡ true → calculated Difference z (pos 1) ≡ Ok (z -ℤ pos 1)
unfolding calculated
counted_down z h e = whole_fitting (z -ℤ pos 1) (one_less z h e)

-- ---- FOR

not_both : (z : ℤ) → int_lt (pos 0) z ≡ true → int_lt z (pos 0) ≡ true → ⊥
not_both (pos n) a b = let wrong : n < 0 = ltb-true n 0 b in omega arith
not_both (negsuc n) a b = cc

sign_by : (above under : Bool) → (above ≡ true → under ≡ true → ⊥)
    → calculated Difference (one_if above) (one_if under) ≡ Ok (if under then pos 0 -ℤ pos 1 else (if above then pos 1 else pos 0))
unfolding calculated whole
sign_by true true h = absurd (h refl refl)
sign_by true false h = refl
sign_by false true h = refl
sign_by false false h = refl

-- the sign of a number: 1 where it is above 0, less 1 where it is below
pub sign_is : (z : ℤ) → calculated Difference (one_if (related Greater z (pos 0))) (one_if (related Less z (pos 0))) ≡ Ok (sign_of z)
unfolding related
sign_is z = sign_by (int_lt (pos 0) z) (int_lt z (pos 0)) (not_both z)

times_sign : (d : ℤ) (above under : Bool) → unsigned_abs (d *ℤ (if under then pos 0 -ℤ pos 1 else (if above then pos 1 else pos 0))) ≤ unsigned_abs d
times_sign d above true = omega (arith, ints)
times_sign d true false = omega (arith, ints)
times_sign d false false = omega (arith, ints)

pub signed : (d z : ℤ) → IsWholeNumber d → calculated Product d (sign_of z) ≡ Ok (d *ℤ sign_of z)
unfolding calculated
signed d z h = whole_fitting (d *ℤ sign_of z) (omega (arith, times_sign d (int_lt (pos 0) z) (int_lt z (pos 0)), h))

-- whether a number is past 0 in the direction of another
pub past_is : (d z : ℤ) → related Greater (d *ℤ sign_of z) (pos 0) ≡ is_past d z
unfolding related
past_is d z = refl

sign_up : (above under : Bool) → (above ≡ true → under ≡ true → ⊥) → above ≡ true
    → (if under then pos 0 -ℤ pos 1 else (if above then pos 1 else pos 0)) ≡ pos 1
sign_up true true h e = absurd (h refl refl)
sign_up true false h e = refl
sign_up false under h e = cc

sign_down : (above under : Bool) → under ≡ true → (if under then pos 0 -ℤ pos 1 else (if above then pos 1 else pos 0)) ≡ negsuc 0
sign_down above true e = refl
sign_down above false e = cc

times_less : (d : ℤ) → int_lt (pos 0) (d *ℤ negsuc 0) ≡ int_lt d (pos 0)
times_less d = grind (arith, ints)

pub past_up : (d z : ℤ) → int_lt (pos 0) z ≡ true → related Greater d (pos 0) ≡ is_past d z
unfolding related
past_up d z e =
    ap (int_lt (pos 0)) (sym (time_one d))
    ∙ ap (λ s. int_lt (pos 0) (d *ℤ s)) (sym (sign_up (int_lt (pos 0) z) (int_lt z (pos 0)) (not_both z) e))

pub past_down : (d z : ℤ) → int_lt z (pos 0) ≡ true → related Less d (pos 0) ≡ is_past d z
unfolding related
past_down d z e =
    sym (times_less d) ∙ ap (λ s. int_lt (pos 0) (d *ℤ s)) (sym (sign_down (int_lt (pos 0) z) (int_lt z (pos 0)) e))

pub past_still : (d : ℤ) → is_past d (pos 0) ≡ false
past_still d = ap (int_lt (pos 0)) (time_none d)
