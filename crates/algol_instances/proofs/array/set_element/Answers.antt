use Rattle.std.proofs.Common.{arith, ◌≡◌, ◌<◌, ◌^◌, map, length, ap}
use Rattle.algol_meaning.specs.Arrays.{flat}
use Rattle.algol_cells.specs.SeenCell.{bounds, array}
use Rattle.algol_instances.specs.SeenArray.{capped}
use Rattle.algol_instances.proofs.Elements.{set_within}
use Rattle.algol_instances.proofs.array.set_element.Goals as goal

pub returns-then-number-len : goal.returns-then-number-len
returns-then-number-len c =
    let a = c.args.array.now in
    let n = flat 0 (map bounds a.bounds) c.args.subscripts.now in
    let is : c.flat-number.result ≡ capped n = simp (c.deref.ensures.value, c.items.ensures) at c.flat-number.ensures in
    let v = c.items_mut-elements.result.now in
    let within : c.flat-number.result < length v.items = omega (arith, c.len.ensures, c.if-number-len.true, v.ok.0) in
    let fits : length v.items < 2 ^ 64 = omega (arith, c.len.ensures, c.len.type_inv, v.ok.0) in
    rw c.items_mut-elements.ensures.shows
    (ap (λ (es : _). record (array a) { elements = es })
    (set_within a.elements n c.flat-number.result is c.args.v (rw (← c.items_mut-elements.ensures.shows) within)
    (rw (← c.items_mut-elements.ensures.shows) fits)))
