use Rattle.std.proofs.Common.{◌+◌, sym, subst, refl, arith, take, get_or}
use Rattle.std.proofs.lemmas.List.{take_more}
use Rattle.b67_text.specs.Texts.{PartStands}
use Rattle.b67_text.proofs.Fronts.{word_stops, stands_more}
use Rattle.b67_text.proofs.word.read_word.Goals as goal

pub returns-then-not-stands_at-clause-refused : goal.returns-then-not-stands_at-clause-refused
returns-then-not-stands_at-clause-refused c =
    word_stops c.args.word.now c.args.bytes.now c.args.at c.word.next c.word.wanted-index (omega arith) c.word.invariant
    (λ e. let wrong = c.if-not-stands_at.ensures.1 e in cc)

pub word-preserved : goal.word-preserved
word-preserved c =
    let word = c.args.word.now in
    let st = stands_more (take c.word.wanted-index word) c.args.bytes.now c.args.at c.word.next (get_or word c.word.wanted-index 0) c.word.invariant (c.if-not-stands_at.ensures.0 refl) in
    subst (λ w. PartStands w c.args.bytes.now c.args.at (c.word.next + 1)) (sym (take_more word c.word.wanted-index 0 (omega arith))) st
