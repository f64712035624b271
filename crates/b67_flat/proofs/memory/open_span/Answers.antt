use Rattle.std.proofs.Common.{◌≡◌, ◌≤◌, length, ap, arith, rules}
use Rattle.b67_flat.specs.declared.memory.TheConstants.{MOST_WORDS}
use Rattle.b67_flat.specs.Spans.{first_fit, place_for, end_after}
use Rattle.b67_flat.proofs.Fits.{fit_within}
use Rattle.b67_flat.proofs.Opening.{opened_ascend, opened_end, place_within}
use Rattle.b67_flat.proofs.Opened.{longer}
use Rattle.b67_flat.proofs.memory.open_span.Goals as goal

pub end_before-place-requires : goal.end_before-place-requires
end_before-place-requires c =
    let at : c.first_fit-at.result ≡ first_fit 0 c.args.count c.args.spans.now = search rules in
    rw (at, c.first_fit-at.ensures.same) (fit_within 0 c.args.count c.args.spans.now)

pub overflow_add-place : goal.overflow_add-place
overflow_add-place c =
    let place : c.end_before-place.result ≡ place_for c.args.count c.args.spans.now = search rules in
    omega (arith, place, place_within c.args.count c.args.spans.now c.requires.memory.0, c.requires.memory.2, c.from-2.ensures, c.ranges.count.fits)

pub insert-requires-clause-there : goal.insert-requires-clause-there
insert-requires-clause-there c =
    let at : c.first_fit-at.result ≡ first_fit 0 c.args.count c.args.spans.now = search rules in
    rw (at, c.first_fit-at.ensures.same) (fit_within 0 c.args.count c.args.spans.now)

pub insert-requires-clause-ascending : goal.insert-requires-clause-ascending
insert-requires-clause-ascending c =
    let at : c.first_fit-at.result ≡ first_fit 0 c.args.count c.args.spans.now = search rules in
    let place : c.end_before-place.result ≡ place_for c.args.count c.args.spans.now = search rules in
    rw (at, place, c.first_fit-at.ensures.same) (opened_ascend c.args.count c.args.row c.args.spans.now c.requires.memory.0 c.requires.some)

pub insert-requires-clause-within : goal.insert-requires-clause-within
insert-requires-clause-within c =
    let at : c.first_fit-at.result ≡ first_fit 0 c.args.count c.args.spans.now = search rules in
    let place : c.end_before-place.result ≡ place_for c.args.count c.args.spans.now = search rules in
    rw (at, place, c.first_fit-at.ensures.same) (omega (arith, opened_end c.args.count MOST_WORDS c.args.row c.args.spans.now c.requires.memory.0 c.requires.some c.requires.memory.2 (omega (arith, place, c.in_ok-reach.ensures.reaches.1, c.from-2.ensures))))

pub returns-clause-memory : goal.returns-clause-memory
returns-clause-memory c =
    let at : c.first_fit-at.result ≡ first_fit 0 c.args.count c.args.spans.now = search rules in
    let place : c.end_before-place.result ≡ place_for c.args.count c.args.spans.now = search rules in
    let more = c.in_ok-reach.ensures.words in
    let low : end_after 0 c.args.spans.now ≤ length c.reach.new.words.items = omega (arith, ap length more.1, longer c.args.words.now.items more.0, c.requires.memory.1) in
    rw (c.in_ok-insert.ensures, at, place, c.first_fit-at.ensures.same) (
      opened_ascend c.args.count c.args.row c.args.spans.now c.requires.memory.0 c.requires.some,
      opened_end c.args.count (length c.reach.new.words.items) c.args.row c.args.spans.now c.requires.memory.0 c.requires.some low (omega (arith, place, c.in_ok-reach.ensures.reaches.0, c.from-2.ensures, c.reach.new.words.ok)),
      opened_end c.args.count MOST_WORDS c.args.row c.args.spans.now c.requires.memory.0 c.requires.some c.requires.memory.2 (omega (arith, place, c.in_ok-reach.ensures.reaches.1, c.from-2.ensures)),
    )
