-- What the tests of sizes give.
use Rattle.std.proofs.Common.{◌≡◌, ◌≢◌, refl, ℤ, List, [], ◌∷◌, length}
use Rattle.b67_table.specs.declared.InterruptKind.TheVariants.{InvalidOperand}
use Rattle.b67_table.specs.Effect.{interrupts}
use Rattle.b67_table.specs.Image.{Image}
use Rattle.b67_table.specs.Program.{asked}
use Rattle.b67_table.specs.Intrinsics.{extents}
use Rattle.b67_descriptor.specs.Sizes.{numbers_of_bounds}

pub neither : (img : Image) (bounds : List (ℤ × ℤ)) → length bounds ≢ 2 → length bounds ≢ 1 → asked img (extents (numbers_of_bounds bounds)) ≡ interrupts InvalidOperand
neither img [] h k = refl
neither img (a ∷ []) h k = absurd (k refl)
neither img (a ∷ b ∷ []) h k = absurd (h refl)
neither img (a ∷ b ∷ c ∷ bounds) h k = refl
