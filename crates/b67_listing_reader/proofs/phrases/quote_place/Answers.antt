use Rattle.std.proofs.Common.{get_or, arith}
use Rattle.b67_listing_reader.proofs.Quoted.{byte_here, quoted_more, quoted_stops, quoted_ends}
use Rattle.b67_listing_reader.proofs.phrases.quote_place.Goals as goal

pub returns-then-not-is_text_byte : goal.returns-then-not-is_text_byte
returns-then-not-is_text_byte c =
    let text = c.args.text.now in
    quoted_stops text c.args.at c.text.end (get_or text c.text.end 0) c.text.invariant (byte_here text c.text.end 0 c.text-test.true)
    (λ is. let wrong = c.is_text_byte.ensures.1 is in cc) (λ is. omega (arith, is, c.if-byte-eq34.false))

pub text-preserved : goal.text-preserved
text-preserved c =
    let text = c.args.text.now in
    quoted_more text c.args.at c.text.end (get_or text c.text.end 0) c.text.invariant (byte_here text c.text.end 0 c.text-test.true) (c.is_text_byte.ensures.0 c.if-not-is_text_byte.false)

pub returns : goal.returns
returns c = quoted_ends c.args.text.now c.args.at c.text.end c.text.invariant (omega (arith, c.text-test.false))
