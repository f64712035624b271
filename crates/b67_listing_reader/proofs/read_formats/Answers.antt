use Rattle.std.proofs.Common.{◌+◌, sym, subst, ◌∙◌}
use Rattle.b67_listing_reader.proofs.Bodies.{line_at}
use Rattle.b67_listing_reader.proofs.FormatLines.{FormatsSoFar, formats_none, formats_end, formats_more, formats_stop}
use Rattle.b67_listing_reader.proofs.read_formats.Goals as goal

pub formats-init : goal.formats-init
formats-init c = formats_none c.args.lines.now c.args.at c.new-formats.result.items c.requires.place c.new-formats.ensures.items

pub returns-clause-read : goal.returns-clause-read
returns-clause-read c = formats_end c.args.lines.now c.args.at c.formats.next c.formats.formats.items c.formats.invariant c.formats-test.false

pub returns-in-None-clause-refused : goal.returns-in-None-clause-refused
returns-in-None-clause-refused c =
    let lines = c.args.lines.now in
    let next = c.formats.next in
    formats_stop lines c.args.at next c.len.result c.formats.formats.items c.bytes.result.now c.formats.invariant (c.len.ensures ∙ c.formats.formats.ok.0)
    (line_at lines next c.bytes.result.now c.index-lines-next.result c.formats-test.true c.bytes.ensures c.index-lines-next.is) (rw c.in-None.is at c.in_ok-format.ensures)

pub formats-preserved : goal.formats-preserved
formats-preserved c =
    let lines = c.args.lines.now in
    let next = c.formats.next in
    subst (λ fs. FormatsSoFar lines c.args.at (next + 1) fs) (sym c.in_ok-push-in-Some.ensures.items)
    (formats_more lines c.args.at next c.len.result c.formats.formats.items c.bytes.result.now c.in-Some.format c.formats.invariant (c.len.ensures ∙ c.formats.formats.ok.0) c.formats-test.true
    (line_at lines next c.bytes.result.now c.index-lines-next.result c.formats-test.true c.bytes.ensures c.index-lines-next.is) (rw c.in-Some.is at c.in_ok-format.ensures))
