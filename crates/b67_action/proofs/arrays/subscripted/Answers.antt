use Rattle.std.specs.Int.{w64}
use Rattle.std.proofs.Common.{◌≡◌, sym, ap, subst, ◌∙◌, ◌-◌, ◌<◌, ◌^◌, ℤ, unsigned_abs, Some, arith}
use Rattle.std.proofs.lemmas.Int.{to_z-of_z, fits_signed_from_abs}
use Rattle.std.proofs.lemmas.Option.{slice_get-get_or}
use Rattle.b67_word.specs.Word.{Word}
use Rattle.b67_table.specs.Arrays.{index_in}
use Rattle.b67_action.proofs.ArraysOnRoom.{subscripts_on}
use Rattle.b67_action.proofs.arrays.subscripted.Goals as goal

pub returns-clause-found : goal.returns-clause-found
returns-clause-found c =
    let r = c.args.regs.now in
    let room = c.args.room.now in
    let z = c.in_ok-subscript.subscript in
    let bound : unsigned_abs z < 2 ^ 63 = omega (arith, c.in_ok-subscript.ensures.fits) in
    let there = to_z-of_z w64 z (fits_signed_from_abs w64 z bound) in
    let x = c.index-room-top-2.result in
    let y = c.index-room-top.result in
    subscripts_on r room c.requires.room c.args.mother x y (omega (arith, c.if-floor-regs.false, c.floor.ensures.value))
    (slice_get-get_or room (r.s - 1) x (omega (arith, c.if-floor-regs.false, c.floor.ensures.value, c.requires.room.within, c.requires.room.size))
    ∙ ap (λ (w : Word). Some w) (sym c.index-room-top-2.is))
    (slice_get-get_or room (r.s - 2) y (omega (arith, c.if-floor-regs.false, c.floor.ensures.value, c.requires.room.within, c.requires.room.size))
    ∙ ap (λ (w : Word). Some w) (sym c.index-room-top.is))
    z (sym c.in_ok-subscript.ensures.value) c.in_ok-array.array c.in_ok-array.ensures.found c.in_ok-at.at
    (subst (λ (i : ℤ). index_in i c.in_ok-array.array.length ≡ Some c.in_ok-at.at) there (sym c.in_ok-at.ensures.value))
