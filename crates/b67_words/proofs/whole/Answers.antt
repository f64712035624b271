use Rattle.std.proofs.Common.{◌≡◌, map, length, Global, refl, arith}
use Rattle.std.proofs.lemmas.List.{length-map}
use Rattle.std.specs.String.{string_bytes}
use Rattle.b67_words.proofs.whole.Goals as goal
use Rattle.b67_words.proofs.Reading.{extra, exact}

pub returns-then-words-count : goal.returns-then-words-count
returns-then-words-count c =
    extra (map (string_bytes {Z = Global}) c.args.words.now) c.args.count c.args.command c.requires.whole.whole (rw length-map (omega arith))

pub returns : goal.returns
returns c =
    let words = map (string_bytes {Z = Global}) c.args.words.now in
    let short : length words ≡ length c.args.words.now = rw length-map refl in
    let given = c.requires.whole.given in
    exact words c.args.count c.args.command c.requires.whole.whole (omega arith)
