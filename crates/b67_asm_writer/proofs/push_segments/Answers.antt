use Rattle.std.proofs.Common.{◌∙◌, sym, subst}
use Rattle.b67_listing.specs.Listings.{AreListable, HasOperators}
use Rattle.b67_asm_writer.proofs.Written.{segments_more, segments_none}
use Rattle.b67_asm_writer.proofs.push_segments.Goals as goal

pub segments-init : goal.segments-init
segments-init c = segments_none c.deref-segment-items.result.now c.args.text.now.items

pub push_segment-requires : goal.push_segment-requires
push_segment-requires c =
    let all : AreListable c.deref-segment-items.result.now = subst AreListable (sym (c.deref-segment-items.ensures.value ∙ c.items.ensures)) c.requires in
    subst HasOperators (sym c.segment-item.is) (all c.segments.segment-index c.segment-item.result c.segments-test.true)

pub segments-preserved : goal.segments-preserved
segments-preserved c =
    segments_more c.deref-segment-items.result.now c.segments.segment-index c.segment-item.result c.args.text.now.items c.segments.text.items c.push_segment.new.text.items
    c.segments-test.true c.segment-item.is c.segments.invariant c.in_ok-push_segment.ensures
