-- Couples of names and of intrinsics can stand where they are named.
use Rattle.std.proofs.Common.{◌≡◌, ℕ, ◌+◌, ◌^◌, ◌<◌, ◌≤◌, Option, Some, refl, sym, subst, arith, lit<}
use Rattle.std.specs.Prelude.{IsSome}
use Rattle.std.proofs.Math.Pow.{pow_mono}
use Rattle.algol_tree.specs.declared.TheConstants.{MOST_BLOCK_CELLS}
use Rattle.b67_ops.specs.declared.Couple.{Couple}
use Rattle.b67_ops.specs.declared.intrinsic.Intrinsic.{Intrinsic}
use Rattle.b67_ops.specs.declared.intrinsic.Intrinsic.TheVariants.{GoTo, Select, Arrays, Event, Start, Write, Wait, Cause, Reset, Happened, Procure, Liberate, WaitAny, CauseAndReset, Available, Fix}
use Rattle.b67_ops.specs.Intrinsics.{couple_of_intrinsic}
use Rattle.b67_ops.specs.Spelling.{index_bits, CoupleIsSeen}
use Rattle.b67_ops.proofs.Couples.{level_bits_within}

pub some : {A : Type 0} (o : Option A) (x : A) → o ≡ Some x → IsSome o
some {A} o x e = let S : Option A → Type 0 = λ y. IsSome y in subst S (sym e) refl

intrinsic_near : (name : Intrinsic) → (couple_of_intrinsic name).index < 2 + MOST_BLOCK_CELLS
intrinsic_near GoTo = lit< tt
intrinsic_near Select = lit< tt
intrinsic_near Arrays = lit< tt
intrinsic_near Event = lit< tt
intrinsic_near Start = lit< tt
intrinsic_near Write = lit< tt
intrinsic_near Wait = lit< tt
intrinsic_near Cause = lit< tt
intrinsic_near Reset = lit< tt
intrinsic_near Happened = lit< tt
intrinsic_near Procure = lit< tt
intrinsic_near Liberate = lit< tt
intrinsic_near WaitAny = lit< tt
intrinsic_near CauseAndReset = lit< tt
intrinsic_near Available = lit< tt
intrinsic_near Fix = lit< tt

module _ (level : ℕ) where
  wide_index : 2 + MOST_BLOCK_CELLS ≤ 2 ^ index_bits level
  wide_index =
      let bits = level_bits_within level in
      let least : 9 ≤ index_bits level = omega arith in
      let more : 2 ^ 9 ≤ 2 ^ index_bits level = pow_mono {i = 9} {j = index_bits level} least in
      omega arith

  -- a couple of a level up from here can stand there
  pub seen_up : (c : Couple) (up : ℕ) → c.index < 2 + MOST_BLOCK_CELLS → c.level + up ≡ level → CoupleIsSeen level c
  seen_up c up close is =
      let wide = wide_index in
      record { level_seen = omega (arith, is); index_fits = omega arith }

  -- .. and so can one that can stand further out
  pub seen_further : (own : ℕ) (c : Couple) → own ≤ level → c.index < 2 + MOST_BLOCK_CELLS → CoupleIsSeen own c → CoupleIsSeen level c
  seen_further own c outer close seen =
      let wide = wide_index in
      record { level_seen = omega (arith, seen.level_seen, outer); index_fits = omega arith }

  pub intrinsic_seen : (name : Intrinsic) → CoupleIsSeen level (couple_of_intrinsic name)
  intrinsic_seen name = seen_up (couple_of_intrinsic name) level (intrinsic_near name) (omega arith)
