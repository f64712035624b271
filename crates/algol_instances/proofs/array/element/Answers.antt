use Rattle.std.proofs.Common.{arith, ◌≡◌, ◌≤◌, ◌<◌, ◌^◌, map, length, ap, ◌∙◌}
use Rattle.algol_meaning.specs.Value.{number}
use Rattle.algol_meaning.specs.Arrays.{flat}
use Rattle.algol_cells.specs.SeenCell.{bounds}
use Rattle.algol_instances.specs.SeenArray.{capped}
use Rattle.algol_instances.proofs.Elements.{element_within, element_past}
use Rattle.algol_instances.proofs.array.element.Goals as goal

pub returns-then-number-count : goal.returns-then-number-count
returns-then-number-count c =
    let a = c.args.array.now in
    let n = flat 0 (map bounds a.bounds) c.args.subscripts.now in
    let is : c.flat-number.result ≡ capped n = simp (c.deref.ensures.value, c.items.ensures) at c.flat-number.ensures in
    let same : c.as_slice-elements.result.now ≡ a.elements = c.as_slice-elements.ensures.value ∙ c.items-elements.ensures in
    let within : c.flat-number.result < length c.as_slice-elements.result.now =
    omega (arith, c.as_slice-elements.ensures.len, c.len-count.ensures, c.if-number-count.true) in
    let fits : length c.as_slice-elements.result.now < 2 ^ 64 =
    omega (arith, c.as_slice-elements.ensures.len, c.len-count.ensures, c.len-count.type_inv) in
    element_within a.elements n c.flat-number.result is c.index-elements-number.result (rw (← same) within) (rw (← same) fits)
    (rw (← same) c.index-elements-number.is)

pub returns-else-number-count : goal.returns-else-number-count
returns-else-number-count c =
    let a = c.args.array.now in
    let n = flat 0 (map bounds a.bounds) c.args.subscripts.now in
    let is : c.flat-number.result ≡ capped n = simp (c.deref.ensures.value, c.items.ensures) at c.flat-number.ensures in
    let same : c.as_slice-elements.result.now ≡ a.elements = c.as_slice-elements.ensures.value ∙ c.items-elements.ensures in
    let past : length c.as_slice-elements.result.now ≤ c.flat-number.result =
    omega (arith, c.as_slice-elements.ensures.len, c.len-count.ensures, c.if-number-count.false) in
    ap number c.zero.ensures ∙ element_past a.elements n c.flat-number.result is (rw (← same) past)
