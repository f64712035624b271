use Rattle.std.proofs.Common.{[], take, sym, subst, ◌∙◌, arith}
use Rattle.std.proofs.lemmas.Result.{err_from_is_err_and}
use Rattle.b67_listing.specs.Listings.{SegmentsText, none}
use Rattle.b67_listing_reader.proofs.Bodies.{line_at}
use Rattle.b67_listing_reader.proofs.WholeListing.{head_here, body_refused, segment_more}
use Rattle.b67_listing_reader.proofs.read_segments.Goals as goal

pub segments-init : goal.segments-init
segments-init c = record { within = omega arith; listed = subst (λ ss. SegmentsText 0 ss []) (sym c.new-segments.ensures.items) (none 0) }

pub returns-in_err-segment-clause-refused : goal.returns-in_err-segment-clause-refused
returns-in_err-segment-clause-refused c =
    let p = err_from_is_err_and c.from_residual-in_err-segment.result c.from_residual-in_err-segment.ensures.1 in
    let lines = c.args.lines.now in
    let at = c.segments.at in
    let here = head_here c.segments.segments.items lines at c.len.result c.in-Some.words c.bytes.result.now (c.len.ensures ∙ c.segments.segments.ok.0)
    (line_at lines at c.bytes.result.now c.index-lines-at.result c.segments-test.true c.bytes.ensures c.index-lines-at.is) (rw c.in-Some.is at c.in_ok-words.ensures) in
    rw (p.1, p.2) (body_refused c.in_err-segment.field-0.0 c.segments.segments.items lines at c.in-Some.words c.segments.invariant.listed c.segments-test.true here.0 here.1 c.in_err-segment.ensures.refused)

pub segments-preserved : goal.segments-preserved
segments-preserved c =
    let lines = c.args.lines.now in
    let at = c.segments.at in
    let next = c.in_ok-segment.next in
    let here = head_here c.segments.segments.items lines at c.len.result c.in-Some.words c.bytes.result.now (c.len.ensures ∙ c.segments.segments.ok.0)
    (line_at lines at c.bytes.result.now c.index-lines-at.result c.segments-test.true c.bytes.ensures c.index-lines-at.is) (rw c.in-Some.is at c.in_ok-words.ensures) in
    record {
      within = c.in_ok-segment.ensures.read.stands.within;
      listed = subst (λ ss. SegmentsText 0 ss (take next lines)) (sym c.in_ok-push.ensures.items)
          (segment_more c.segments.segments.items lines at next c.in-Some.words c.in_ok-segment.segment c.segments.invariant.listed c.segments-test.true here.1 c.in_ok-segment.ensures.read);
    }
