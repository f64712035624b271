use Rattle.std.proofs.Common.{◌∙◌, sym, arith}
use Rattle.b67_listing_reader.proofs.Firsts.{alike_more, lines_differ, lines_same, lines_other}
use Rattle.b67_listing_reader.proofs.body.first_other.Goals as goal

pub returns-then-ne : goal.returns-then-ne
returns-then-ne c =
    lines_differ c.args.lines.now c.args.others.now c.lines.same c.index-lines-same.result c.index-others-same.result c.lines.invariant.alike c.lines-test.true c.if-same-others.true
    c.index-lines-same.is c.index-others-same.is
    (λ e. lines_other c.bytes.result.now c.bytes-in-lines.result.now c.ne.result c.ne.ensures c.if-ne.true (c.bytes.ensures ∙ e ∙ sym c.bytes-in-lines.ensures))

pub lines-preserved : goal.lines-preserved
lines-preserved c = record {
  alike = alike_more c.args.lines.now c.args.others.now c.lines.same c.index-lines-same.result c.index-others-same.result c.lines.invariant.alike c.lines-test.true c.if-same-others.true
      c.index-lines-same.is c.index-others-same.is
      (sym c.bytes.ensures ∙ lines_same c.bytes.result.now c.bytes-in-lines.result.now c.ne.result c.ne.ensures c.if-ne.false ∙ c.bytes-in-lines.ensures);
  within = omega (arith, c.lines-test.true);
  inside = omega (arith, c.if-same-others.true);
}
