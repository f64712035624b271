use Rattle.std.proofs.Common.{◌≡◌, ◌∙◌, Ok, Err, take, drop, ap, sym, arith}
use Rattle.std.proofs.lemmas.List.{take_rest}
use Rattle.b67_segment.specs.Syllables.{syllables}
use Rattle.b67_segment.proofs.Fetches.{decoded_words, decoded_past_words}
use Rattle.b67_segment.proofs.fetching.fetch_from.Goals as goal
use Rattle.b67_segment.proofs.fetching.fetch_from.Goals.{After-decode}

-- the two words that are looked at
window_is : (c : After-decode) → take c.window-length.result.1 c.window-length.result.0
    ≡ take 12 (syllables (drop c.from-first.result c.args.words.now))
window_is c = c.window-length.ensures.syllables ∙ ap (λ ws. take 12 (syllables ws)) (take_rest c.args.words.now c.from-first.result)

pub returns-then-first-words : goal.returns-then-first-words
returns-then-first-words c = sym (decoded_past_words c.args.words.now c.args.place c.args.level (omega arith))

pub returns-in-Ok : goal.returns-in-Ok
returns-in-Ok c =
    let window = take c.window-length.result.1 c.window-length.result.0 in
    decoded_words c.args.words.now window c.args.place c.from-first.result c.from.result c.args.level
    (Ok (c.in-Ok.operator, c.in-Ok.next)) c.from-first.ensures c.from.ensures (window_is (goal.at.returns-in-Ok c).After-decode) (sym c.in-Ok.is ∙ c.decode.ensures.value)

pub returns-in-Err : goal.returns-in-Err
returns-in-Err c =
    let window = take c.window-length.result.1 c.window-length.result.0 in
    decoded_words c.args.words.now window c.args.place c.from-first.result c.from.result c.args.level
    (Err c.in-Err.bad) c.from-first.ensures c.from.ensures (window_is (goal.at.returns-in-Err c).After-decode) (sym c.in-Err.is ∙ c.decode.ensures.value)
