-- Digits and numbered lists, one more.
use Rattle.std.proofs.Common.{◌≡◌, ℕ, zero, suc, ◌+◌, ◌-◌, ◌/◌, ◌%◌, ◌<◌, true, List, [], ◌∷◌, ◌++◌, length, get_or, take, map, refl, sym, ap, arith, ◌∙◌, append_assoc}
use Rattle.std.specs.Fmt.{digit_glyph}
use Rattle.std.specs.List.{enumerate_from}
use Rattle.std.proofs.lemmas.List.{take_more, length-take-le, map-append}
use Rattle.b67_segment.specs.declared.code.Format.{Format}
use Rattle.b67_listing.specs.Digits.{last_digits}
use Rattle.b67_listing.specs.Formats.{format_line}

-- the digits before the last one, and that
pub digits_more : (base count number digit : ℕ) (old middle new : List ℕ) → (count ≡ 0 → ⊥) → middle ≡ old ++ last_digits base (count - 1) (number / base) →
    digit ≡ digit_glyph true (number % base) → new ≡ middle ++ digit ∷ [] → new ≡ old ++ last_digits base count number
digits_more base zero number digit old middle new some before last all = absurd (some refl)
digits_more base (suc count) number digit old middle new some before last all =
    let less : suc count - 1 ≡ count = omega arith in
    all ∙ rw (before, less, last) (append_assoc old (last_digits base count (number / base)) (digit_glyph true (number % base) ∷ []))

enumerate_from_push : {X : Type 0} (n : ℕ) (xs : List X) (x : X) → enumerate_from n (xs ++ x ∷ []) ≡ enumerate_from n xs ++ (n + length xs, x) ∷ []
enumerate_from_push n [] x = ap (λ k. (k, x) ∷ []) (omega arith)
enumerate_from_push n (y ∷ ys) x =
    let rest = enumerate_from_push (n + 1) ys x in
    let same : n + 1 + length ys ≡ n + length (y ∷ ys) = omega arith in
    ap (λ es. (n, y) ∷ es) (rest ∙ ap (λ k. enumerate_from (n + 1) ys ++ (k, x) ∷ []) same)

-- the lines of the formats so far, and of the next one
pub formats_more : (lines : List (List ℕ)) (formats : List Format) (i : ℕ) (d : Format) → i < length formats →
    (lines ++ map format_line (enumerate_from 0 (take i formats))) ++ format_line (i, get_or formats i d) ∷ []
    ≡ lines ++ map format_line (enumerate_from 0 (take (i + 1) formats))
formats_more lines formats i d inside =
    let format = get_or formats i d in
    let before = enumerate_from 0 (take i formats) in
    let long : 0 + length (take i formats) ≡ i = omega (arith, length-take-le i formats) in
    let listed : enumerate_from 0 (take (i + 1) formats) ≡ before ++ (i, format) ∷ [] =
    ap (enumerate_from 0) (take_more formats i d inside) ∙ enumerate_from_push 0 (take i formats) format ∙ ap (λ k. before ++ (k, format) ∷ []) long in
    append_assoc lines (map format_line before) (format_line (i, format) ∷ [])
    ∙ ap (λ t. lines ++ t) (sym (ap (map format_line) listed ∙ map-append format_line before ((i, format) ∷ [])))
