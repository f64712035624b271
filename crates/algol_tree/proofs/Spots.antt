-- Places of a text: the same, and before one another.
use Rattle.std.proofs.Common.{Bool, None, Option, Some, [], arith, false, refl, true, ◌∷◌, ◌≡◌}
use Rattle.algol_tree.specs.Accepted.{is_before}
use Rattle.algol_tree.specs.Blocks.{same_spot}
use Rattle.algol_tree.specs.Names.{found_place, if_so}
use Rattle.algol_tree.specs.declared.token.Spot.{Spot}

pub before_on : (a b c : Spot) → is_before a b ≡ true → is_before b c ≡ true → is_before a c ≡ true
before_on a b c h k = grind arith

pub same_spot_is : (a b : Spot) → same_spot a b ≡ true → a ≡ b
same_spot_is a b h = grind arith

pub same_spot_itself : (a : Spot) → same_spot a a ≡ true
same_spot_itself a = grind arith

pub before_apart : (a b : Spot) → is_before a b ≡ true → same_spot a b ≡ false
before_apart a b h = grind arith

pub not_so : (b : Bool) (spot : Spot) → if_so b spot ≡ [] → b ≡ false
not_so false spot h = refl
not_so true spot h = absurd (let clash : spot ∷ [] ≡ [] = h in cc)

pub not_found : (o : Option Spot) → found_place o ≡ [] → o ≡ None
not_found None h = refl
not_found (Some s) h = absurd (let clash : s ∷ [] ≡ [] = h in cc)
