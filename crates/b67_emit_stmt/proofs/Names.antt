-- The couples of names, and of intrinsics, can be spelled where they stand.
use Rattle.std.proofs.Common.{◌≡◌, ℕ, ◌+◌, ◌-◌, ◌^◌, ◌≤◌, ◌<◌, Bool, true, false, Option, Some, None, sym, ◌∙◌, refl, subst, arith, lit≤}
use Rattle.std.specs.Prelude.{if◌then◌else◌, nat_le, IsSome}
use Rattle.algol_tree.specs.declared.token.Spot.{Spot}
use Rattle.algol_tree.specs.declared.tree.Kind.{Kind}
use Rattle.algol_tree.specs.declared.tree.Named.{Named}
use Rattle.algol_tree.specs.Scopes.{Scopes}
use Rattle.b67_ops.specs.declared.Couple.{Couple}
use Rattle.b67_ops.specs.Spelling.{level_bits, index_bits, CoupleIsSeen}
use Rattle.b67_templates.specs.Cells.{IsRead, of_variable, of_formal}
use Rattle.b67_templates.specs.Fitting as fitting
use Rattle.b67_templates.specs.Fitting.{Told, PlaceFits, on_left, couple_on_left}
use Rattle.b67_emitter.specs.declared.names.Names.{Names}
use Rattle.algol_tree.specs.declared.TheConstants.{MOST_BLOCK_CELLS}
use Rattle.b67_emitter.specs.Values.{AreNear, couples, lefts, results}

either : (b : Bool) (x y : ℕ) → 512 ≤ 2 ^ (14 - x) → 512 ≤ 2 ^ (14 - y) → 512 ≤ 2 ^ (14 - (if b then x else y))
either true x y p q = p
either false x y p q = q

-- a couple has room for the cells of a block, whatever the level
index_room : (level : ℕ) → 512 ≤ 2 ^ index_bits level
unfolding level_bits
index_room level =
    either (nat_le level 1) 1 (if nat_le level 3 then 2 else (if nat_le level 7 then 3 else (if nat_le level 15 then 4 else 5))) (lit≤ tt)
    (either (nat_le level 3) 2 (if nat_le level 7 then 3 else (if nat_le level 15 then 4 else 5)) (lit≤ tt)
    (either (nat_le level 7) 3 (if nat_le level 15 then 4 else 5) (lit≤ tt) (either (nat_le level 15) 4 5 (lit≤ tt) (lit≤ tt))))

pub seen : (level : ℕ) (c : Couple) → c.level ≤ level → c.index < 512 → CoupleIsSeen level c
seen level c h k = record { level_seen = h; index_fits = omega (arith, index_room level) }

some_same : (c d : Couple) → Some c ≡ Some d → c ≡ d
some_same c d e = cc

-- what is read is known
pub read_known : (known : Option Couple) (c : Couple) → known ≡ Some c → IsSome known
read_known known c is = let S : Option Couple → Type 0 = λ o. IsSome o in subst S (sym is) refl

-- the couple that is known is that of what is read
pub read_is : (sc : Scopes) (known : Spot → Option Couple) (level : ℕ) (k : Kind) (n : Named) (c : Couple) →
    (d : Couple) × (known n.spot ≡ Some d) × IsRead sc level n k d → known n.spot ≡ Some c → IsRead sc level n k c
read_is sc known level k n c fit e =
    let V : Couple → Type 0 = λ d. IsRead sc level n k d in subst V (some_same fit.0 c (sym fit.1 ∙ e)) fit.2

-- the couple of a name on the left is that of its own cell or of a result
pub left_near : (s : Names) (n : Named) (c : Couple) → AreNear s → lefts s n.spot ≡ Some c → c.index < 512
left_near s n c near is = by (couples s n.spot) (results s n.spot) (near.own n.spot) (near.result n.spot) is
  where
    by : (own result : Option Couple) → ((d : Couple) → own ≡ Some d → d.index < 2 + MOST_BLOCK_CELLS) → ((d : Couple) → result ≡ Some d → d.index < 2 + MOST_BLOCK_CELLS) →
        couple_on_left result own ≡ Some c → c.index < 512
    by own None h k e = omega (arith, h c e)
    by own (Some d) h k e = omega (arith, k c e)

read_level : (sc : Scopes) (level : ℕ) (k : Kind) (n : Named) (c : Couple) → IsRead sc level n k c → c.level ≤ level
read_level sc level k n c (of_variable v) = omega (arith, v.level_is)
read_level sc level k n c (of_formal v) = omega (arith, v.level_is)

pub name_seen : (sc : Scopes) (known : Spot → Option Couple) (level : ℕ) (k : Kind) (n : Named) (c : Couple) →
    (d : Couple) × (known n.spot ≡ Some d) × IsRead sc level n k d → known n.spot ≡ Some c → c.index < 512 → CoupleIsSeen level c
name_seen sc known level k n c fit e near =
    seen level c (read_level sc level k n c (read_is sc known level k n c fit e)) near

-- what an assignment stores through is a variable, a result or a parameter by name
pub place_read : (sc : Scopes) (told : Told) (level : ℕ) (k : Kind) (n : Named) → PlaceFits sc told level k n → (d : Couple) × (on_left told n.spot ≡ Some d) × IsRead sc level n k d
place_read sc told level k n (fitting.own (d, is, v) unnamed) = (d, is, of_variable v)
place_read sc told level k n (fitting.resolved d is named v) = (d, is, of_formal v)
