use Rattle.std.proofs.Common.{◌∙◌, sym, subst}
use Rattle.b67_listing.specs.Listings.{HasOperators, AreListable}
use Rattle.b67_listing.proofs.push_segments.Goals as goal
use Rattle.b67_listing.proofs.Segments.{segments_none, segments_more}

pub segments-init : goal.segments-init
segments-init c = segments_none c.deref-segment-items.result.now c.args.lines.now.items

pub push_segment-requires : goal.push_segment-requires
push_segment-requires c =
    let all : AreListable c.deref-segment-items.result.now = subst AreListable (sym (c.deref-segment-items.ensures.value ∙ c.items.ensures)) c.requires in
    subst HasOperators (sym c.segment-item.is) (all c.segments.number c.segment-item.result c.segments-test.true)

pub segments-preserved : goal.segments-preserved
segments-preserved c =
    segments_more c.deref-segment-items.result.now c.segments.number c.segment-item.result c.args.lines.now.items c.segments.lines.items c.push_segment.new.lines.items
    c.segments-test.true c.segment-item.is c.segments.invariant c.in_ok-push_segment.ensures
