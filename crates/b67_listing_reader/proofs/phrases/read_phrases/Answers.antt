use Rattle.std.proofs.Common.{◌+◌, ◌∷◌, get_or, drop, sym, ap, subst, arith, ◌∙◌}
use Rattle.std.proofs.lemmas.List.{drop_more}
use Rattle.b67_text.specs.Texts.{HasByte}
use Rattle.b67_listing_reader.proofs.Quoted.{byte_here}
use Rattle.b67_listing_reader.proofs.PhraseReading.{PhrasesSoFar, phrases_start, phrases_past, phrases_early, some_phrases, begins_by, begins_within, phrases_stuck, phrases_none, phrases_more}
use Rattle.b67_listing_reader.proofs.phrases.read_phrases.Goals as goal

pub phrases-init : goal.phrases-init
phrases-init c = phrases_start c.args.text.now c.args.at c.new-phrases.result.items c.requires c.new-phrases.ensures.items

pub returns-then-next-text : goal.returns-then-next-text
returns-then-next-text c =
    let text = c.args.text.now in
    let next = c.phrases.next in
    phrases_early text c.args.at next c.phrases.phrases.items c.phrases.invariant (drop_more text next 0 c.phrases-test.true ∙ ap (λ b. b ∷ drop (next + 1) text) c.if-text-next-eq62.true)
    c.if-next-text.true

pub returns-in_default : goal.returns-in_default
returns-in_default c =
    let text = c.args.text.now in
    let next = c.phrases.next in
    let done = c.phrases.phrases.items in
    let some = some_phrases done _ c.phrases.phrases.ok.0 (sym c.is_empty.ensures ∙ c.in_default.ensures.0) in
    phrases_stuck text c.args.at next (get_or text next 0) done some.0 some.1 c.phrases.invariant some.2 (drop_more text next 0 c.phrases-test.true)
    (λ comma. c.in_default.ensures.1 (subst (λ b. HasByte b text next) comma (byte_here text next 0 c.phrases-test.true))) c.if-text-next-eq62.false

pub returns-in_default-2 : goal.returns-in_default-2
returns-in_default-2 c =
    let text = c.args.text.now in
    let next = c.phrases.next in
    let done = c.phrases.phrases.items in
    let begin = c.in-Some.begin in
    phrases_none text c.args.at next begin (get_or text next 0) done c.phrases.invariant
    (begins_by text next begin done _ c.is_empty.result c.phrases.phrases.ok.0 c.is_empty.ensures c.in-Some.ensures) (begins_within text next begin c.is_empty.result c.phrases-test.true c.in-Some.ensures)
    (drop_more text next 0 c.phrases-test.true) c.if-text-next-eq62.false (rw c.in_default-2.is at c.in_ok-phrase.ensures)

pub phrases-preserved : goal.phrases-preserved
phrases-preserved c =
    let text = c.args.text.now in
    let next = c.phrases.next in
    let done = c.phrases.phrases.items in
    let begin = c.in-Some.begin in
    subst (λ ps. PhrasesSoFar text c.args.at c.in-Some-2.end ps) (sym c.in_ok-push.ensures.items)
    (phrases_more text c.args.at next begin (get_or text next 0) c.in-Some-2.end done c.in-Some-2.phrase c.phrases.invariant
    (begins_by text next begin done _ c.is_empty.result c.phrases.phrases.ok.0 c.is_empty.ensures c.in-Some.ensures)
    (drop_more text next 0 c.phrases-test.true) c.if-text-next-eq62.false (rw c.in-Some-2.is at c.in_ok-phrase.ensures))

pub returns : goal.returns
returns c = phrases_past c.args.text.now c.args.at c.phrases.next c.phrases.phrases.items c.phrases.invariant (omega (arith, c.phrases-test.false))
