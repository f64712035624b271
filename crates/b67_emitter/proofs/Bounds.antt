-- Where a lower bound lies.
use Rattle.std.proofs.Common.{◌≡◌, ap, ◌∙◌, Bool, true, false, ℤ, pos}
use Rattle.std.specs.Prelude.{int_lt, int_le, neg_ℤ, if◌then◌else◌}
use Rattle.b67_templates.specs.Fragments.{Low, zero, above, near, far, low_of}

abbrev chosen : Bool → Bool → Bool → Low
chosen a b c = if a then above else if b then zero else if c then near else far

pub is_near : (low : ℤ) → int_lt (pos 0) low ≡ false → int_le (pos 0) low ≡ false → int_lt (neg_ℤ (pos 1048576)) low ≡ true → low_of low ≡ near
is_near low e f g =
    ap (λ a. chosen a (int_le (pos 0) low) (int_lt (neg_ℤ (pos 1048576)) low)) e ∙ ap (λ b. chosen false b (int_lt (neg_ℤ (pos 1048576)) low)) f
    ∙ ap (λ c. chosen false false c) g
