use Rattle.std.proofs.Common.{◌≡◌, ◌≢◌, ℕ, suc, ◌+◌, ◌<◌, ◌≤◌, List, ◌∷◌, length, drop, get_or, drop-cons, None, refl, sym, ap, ◌∙◌, arith}
use Rattle.std.proofs.lemmas.List.{drop_all}
use Rattle.b67_segment.specs.declared.code.Phrase.{Phrase}
use Rattle.b67_asm_text.specs.declared.phrase.Stand.{Stand}
use Rattle.b67_asm_text.specs.declared.phrase.Stand.TheVariants.{Before, Due, Quoted, Sized, After, Closed, Wrong}
use Rattle.b67_asm_text.specs.Phrases.{Read, next, phrases_at, read_from, phrases_seen}
use Rattle.b67_asm_text.proofs.phrase.read_phrases.Goals as goal

-- one more byte was read
after_byte : (bytes : List ℕ) (i : ℕ) (r s all : Read) → i < length bytes → s ≡ next r (get_or bytes i 0) → read_from r (drop i bytes) ≡ all → read_from s (drop (i + 1) bytes) ≡ all
after_byte bytes i r s all h n inv =
    let on : suc i ≡ i + 1 = omega arith in
    ap (λ (z : Read). read_from z (drop (i + 1) bytes)) n
    ∙ sym (ap (read_from r) (drop-cons bytes i 0 h ∙ ap (λ k. get_or bytes i 0 ∷ drop k bytes) on))
    ∙ inv

-- all bytes were read
after_all : (bytes : List ℕ) (i : ℕ) (r all : Read) → length bytes ≤ i → read_from r (drop i bytes) ≡ all → phrases_at r.stand r.phrases ≡ phrases_at all.stand all.phrases
after_all bytes i r all h inv =
    ap (λ (z : Read). phrases_at z.stand z.phrases) (sym (ap (read_from r) (drop_all i bytes h)) ∙ inv)

-- the phrases have not ended
not_closed : (stand : Stand) (phrases : List Phrase) → stand ≢ Closed → phrases_at stand phrases ≡ None
not_closed Before phrases h = refl
not_closed Due phrases h = refl
not_closed Quoted phrases h = refl
not_closed (Sized blanks width) phrases h = refl
not_closed After phrases h = refl
not_closed Closed phrases h = absurd (h refl)
not_closed Wrong phrases h = refl

pub bytes-preserved : goal.bytes-preserved
bytes-preserved c =
    after_byte c.args.text.now c.bytes.byte-index (phrases_seen c.bytes.reader) _ _ c.bytes-test.true c.in_ok-next.ensures c.bytes.invariant

pub returns-in-Closed : goal.returns-in-Closed
returns-in-Closed c =
    sym (ap (λ s. phrases_at s c.bytes.reader.phrases.items) c.in-Closed.is)
    ∙ after_all c.args.text.now c.bytes.byte-index (phrases_seen c.bytes.reader) _ c.bytes-test.false c.bytes.invariant

pub returns : goal.returns
returns c =
    sym (not_closed c.bytes.reader.stand c.bytes.reader.phrases.items c.in_default.not-Closed)
    ∙ after_all c.args.text.now c.bytes.byte-index (phrases_seen c.bytes.reader) _ c.bytes-test.false c.bytes.invariant
