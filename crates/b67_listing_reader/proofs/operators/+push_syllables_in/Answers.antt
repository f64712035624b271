use Rattle.std.proofs.Common.{◌≡◌, ◌-◌, ◌++◌, length, take, drop, ap, arith, ◌∙◌}
use Rattle.std.proofs.lemmas.List.{take_all, length-drop}
use Rattle.b67_listing_reader.specs.Reading.{syllables_in}
use Rattle.b67_listing_reader.proofs.Lines.{syllable_more}
use Rattle.b67_listing_reader.proofs.operators.+push_syllables_in.Goals as goal

pub returns-in_ok-push_syllables_in-in-len2-up : goal.returns-in_ok-push_syllables_in-in-len2-up
returns-in_ok-push_syllables_in-in-len2-up t c =
    let text = c.args.text.now in
    let rest : take (length text - 2) (drop 2 text) ≡ drop 2 text = take_all (length text - 2) (drop 2 text) (omega (arith, length-drop 2 text)) in
    syllable_more c.args.most text c.in-Some.high c.in-Some-hex_value.low c.args.syllables.now.items c.push.new.self.items c.push_syllables_in.new.syllables.items
    c.if-most-eq0.false c.in-len2-up.len_at_least c.in-Some.ensures.value c.in-Some-hex_value.ensures.value c.in_ok-push-in-len2-up.ensures.items
    (c.in_ok-push_syllables_in-in-len2-up.ensures ∙ ap (λ r. c.push.new.self.items ++ syllables_in (c.args.most - 1) r) rest)
