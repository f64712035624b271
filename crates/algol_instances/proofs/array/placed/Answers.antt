use Rattle.std.proofs.Common.{arith, rules, w64, ◌≤◌, ◌<◌, ◌-ℤ◌, ◌≤ℤ◌, ◌<ℤ◌, sym, ◌∙◌, ap, Some}
use Rattle.std.specs.Prelude.{unsigned_abs}
use Rattle.std.specs.Int.RustNames.{FitsSigned}
use Rattle.std.proofs.lemmas.Int.{ints, to_z-of_z}
use Rattle.algol_instances.proofs.Placing.{placed_within, placed_below, placed_empty, placed_above}
use Rattle.algol_instances.proofs.array.placed.Goals as goal
use Rattle.algol_instances.proofs.array.placed.Goals.{else-low-subscript-via-then-low-subscript+then-b+else-abs_diff, else-low-subscript-via-then-low-subscript+else-b, else-low-subscript-via-else-low-subscript}

pub returns-then-abs_diff : goal.returns-then-abs_diff
returns-then-abs_diff c =
    let b = c.args.b.now in
    let low = c.args.low in
    let i = c.args.subscript in
    let fi = c.ranges.subscript in
    let fl = c.ranges.low in
    let fb : FitsSigned w64 b.low = search rules in
    let fh : FitsSigned w64 b.high = search rules in
    let from : low ≤ℤ i = omega (arith, ints) in
    let some : b.low ≤ℤ b.high = omega (arith, ints) in
    let d = simp to_z-of_z at c.abs_diff.ensures in
    let e = simp to_z-of_z at c.abs_diff-then-b.ensures in
    let f = simp to_z-of_z at c.abs_diff-then-abs_diff.ensures in
    let near : unsigned_abs (i -ℤ low) ≤ unsigned_abs (b.high -ℤ b.low) =
    omega (arith, c.if-abs_diff.true, d, e) in
    ap Some f ∙ sym (placed_within b.low b.high low i from some near)

pub returns-else-low-subscript : goal.returns-else-low-subscript
returns-else-low-subscript c =
    let b = c.args.b.now in
    let low = c.args.low in
    let i = c.args.subscript in
    let fi = c.ranges.subscript in
    let fl = c.ranges.low in
    elim c.else-low-subscript.branch [
      | else-low-subscript-via-then-low-subscript+then-b+else-abs_diff w ↦
          let fb : FitsSigned w64 b.low = search rules in
          let fh : FitsSigned w64 b.high = search rules in
          let from : low ≤ℤ i = omega (arith, ints) in
          let some : b.low ≤ℤ b.high = omega (arith, ints) in
          let d = simp to_z-of_z at w.abs_diff.ensures in
          let e = simp to_z-of_z at w.abs_diff-then-b.ensures in
          let far : unsigned_abs (b.high -ℤ b.low) < unsigned_abs (i -ℤ low) =
          omega (arith, w.if-abs_diff.false, d, e) in
          sym (placed_above b.low b.high low i from some far)
      | else-low-subscript-via-then-low-subscript+else-b w ↦
          let fb : FitsSigned w64 b.low = search rules in
          let fh : FitsSigned w64 b.high = search rules in
          let none : b.high <ℤ b.low = omega (arith, ints) in sym (placed_empty b.low b.high low i none)
      | else-low-subscript-via-else-low-subscript w ↦
          let before : i <ℤ low = omega (arith, ints) in sym (placed_below b.low b.high low i before)
    ]
