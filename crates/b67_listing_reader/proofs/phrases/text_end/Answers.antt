use Rattle.b67_listing_reader.proofs.Quoted.{text_not_ended}
use Rattle.b67_listing_reader.proofs.phrases.text_end.Goals as goal

pub returns-else-ends_phrase : goal.returns-else-ends_phrase
returns-else-ends_phrase c =
    text_not_ended c.args.text.now c.args.at c.in_ok-end.ensures.0 c.in_ok-end.end c.in_ok-end.ensures.1 (λ e. let wrong = c.ends_phrase.ensures.1 e in cc)
