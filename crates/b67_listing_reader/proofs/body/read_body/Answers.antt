use Rattle.std.proofs.Common.{◌≡◌, ◌+◌, ◌*◌, ◌<◌, ◌≤◌, refl, arith}
use Rattle.b67_segment.specs.Operators as building
use Rattle.b67_listing_reader.proofs.Bodies.{body_none, body_stops, body_read}
use Rattle.b67_listing_reader.proofs.body.read_body.Goals as goal
use Rattle.b67_listing_reader.proofs.body.read_body.Goals.{then-not-whole-via-then-not-whole, then-not-whole-via-else-not-whole+then-at-same}

pub returns-then-next-at-clause-refused : goal.returns-then-next-at-clause-refused
returns-then-next-at-clause-refused c =
    body_none c.args.lines.now c.args.at c.args.words c.in_ok-next.next _ c.read_operators.new.builder.operators c.in_ok-next.ensures c.requires.count c.if-next-at.true (omega arith)

pub returns-then-not-whole-clause-refused : goal.returns-then-not-whole-clause-refused
returns-then-not-whole-clause-refused c =
    let t = c.in_ok-next.ensures in
    let n = t.front.next_is in
    let up : c.args.at ≤ c.in_ok-next.next = omega arith in
    let short : building.size c.read_operators.new.builder.operators ≡ 6 * c.args.words → c.args.at + c.in_ok-segment.same < c.in_ok-next.next =
    elim c.then-not-whole.branch [
      | then-not-whole-via-then-not-whole w ↦ λ full. absurd (w.if-not-whole.true (omega (arith, full, c.from.ensures, c.place.ensures)))
      | then-not-whole-via-else-not-whole+then-at-same w ↦ λ full. w.if-at-same.true
    ] in
    body_stops c.args.lines.now _ c.args.at c.args.words c.in_ok-next.next (c.args.at + c.in_ok-segment.same + 1) c.read_operators.new.builder.operators c.in_ok-segment.segment c.in_ok-segment.same
    t c.in_ok-segment.ensures up refl short refl

pub returns-clause-read : goal.returns-clause-read
returns-clause-read c =
    let t = c.in_ok-next.ensures in
    let n = t.front.next_is in
    body_read c.args.lines.now _ c.args.at c.args.words c.in_ok-next.next c.read_operators.new.builder.operators c.in_ok-segment.segment c.in_ok-segment.same
    t c.in_ok-segment.ensures (omega arith) refl (omega (arith, c.from.ensures, c.place.ensures, c.if-not-whole.false)) (λ less. omega (arith, c.if-at-same.false))
