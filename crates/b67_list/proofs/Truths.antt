-- Truth values.
use Rattle.std.proofs.Common.{Bool, false, if◌then◌else◌, not, refl, sym, true, ◌∙◌, ◌≡◌, ◌⊎◌}
use Rattle.std.proofs.lemmas.Bool.{and_parts}
use Rattle.std.specs.Prelude.{◌&&◌, ◌||◌}

pub and_false : (b : Bool) → (b && false) ≡ false
and_false true = refl
and_false false = refl

-- both of two tests
pub and_both : (a b : Bool) → (a && b) ≡ true → (a ≡ true) × (b ≡ true)
and_both true b e = (refl, e)
and_both false b e = cc

pub and_first : (a b : Bool) → (a && b) ≡ true → a ≡ true
and_first a b h = (and_parts a b h).0

pub or_left : (a b : Bool) → a ≡ true → (a || b) ≡ true
or_left true b e = refl
or_left false b e = cc

pub either_so : (b c : Bool) → c ≡ true → (if b then true else c) ≡ true
either_so true c h = refl
either_so false c h = h

pub or_false : (b : Bool) → (b || false) ≡ b
or_false true = refl
or_false false = refl

pub not_true_is : (b : Bool) → not b ≡ true → b ≡ false
not_true_is true h = absurd cc
not_true_is false h = refl

pub both : (a b : Bool) → a && b ≡ true → a ≡ true
both true b e = refl
both false b e = cc

pub or_right : (a b : Bool) → b ≡ true → (a || b) ≡ true
or_right true b e = refl
or_right false b e = e

pub and_second : (a b : Bool) → (a && b) ≡ true → b ≡ true
and_second a b h = (and_parts a b h).1

pub or_either : (a b : Bool) → (a || b) ≡ true → (a ≡ true) ⊎ (b ≡ true)
or_either true b e = ◌⊎◌.inl refl
or_either false b e = ◌⊎◌.inr e

pub false_true : (b : Bool) → b ≡ false → b ≡ true → ⊥
false_true b e f = let no : false ≡ true = sym e ∙ f in cc

pub not_both : (b : Bool) → b ≡ true → b ≡ false → ⊥
not_both b live dead = let f : true ≡ false = sym live ∙ dead in cc

pub not_false_is : (b : Bool) → not b ≡ false → b ≡ true
not_false_is true h = refl
not_false_is false h = cc

pub or_second : (a b : Bool) → a ≡ false → (a || b) ≡ b
or_second true b e = cc
or_second false b e = refl

pub not_false : (b : Bool) → b ≡ false → not b ≡ true
not_false true e = cc
not_false false e = refl

pub not_true : (b : Bool) → (b ≡ true → ⊥) → b ≡ false
not_true true h = absurd (h refl)
not_true false h = refl

pub true_false : {B : Type 0} {x : Bool} → x ≡ true → x ≡ false → B
true_false e f = cc
