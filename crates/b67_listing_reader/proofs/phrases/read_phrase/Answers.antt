use Rattle.std.proofs.Common.{◌<◌, ◌∙◌, subst, sym, length, ltb-true}
use Rattle.b67_text.specs.Texts.{HasByte}
use Rattle.b67_listing_reader.proofs.Quoted.{byte_here, quoted_phrase}
use Rattle.b67_listing_reader.proofs.phrases.read_phrase.Goals as goal

pub returns-in-Some-eq34 : goal.returns-in-Some-eq34
returns-in-Some-eq34 c =
    let text = c.args.text.now in
    let inside : c.args.at < length text = ltb-true c.args.at (length text) (sym c.in-Some-eq34.ensures.lookup.0) in
    quoted_phrase text c.args.at c.read_text.result
    (subst (λ b. HasByte b text c.args.at) (sym c.in-Some-eq34.ensures.lookup.1 ∙ c.in-Some-eq34.field-0-test) (byte_here text c.args.at c.in-Some-eq34.field-0.now inside)) c.read_text.ensures
