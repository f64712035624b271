-- Code that is filled up to a whole word.
use Rattle.std.proofs.Common.{◌≡◌, ℕ, zero, suc, ◌+◌, ◌-◌, ◌*◌, ◌^◌, ◌<◌, ◌≤◌, eqb, Some, None, List, [], ◌∷◌, ◌++◌, length, take, drop, replicate, refl, sym, ap, ◌∙◌, subst, arith, length-append}
use Rattle.std.specs.Prelude.{unwrap_or}
use Rattle.std.specs.Int.{w64, from_be_bytes, bytes_high_first}
use Rattle.std.specs.Prelude.{All}
use Rattle.std.proofs.Math.Seq.{take-add}
use Rattle.std.proofs.lemmas.Grind.{flat_map-append}
use Rattle.std.proofs.lemmas.Bool.{eq-eqb, cond-true}
use Rattle.std.proofs.lemmas.List.{append-nil, length-replicate, take-replicate}
use Rattle.b67_ops.specs.declared.TheConstants.{OUTER_LEVEL, MOST_LEVEL}
use Rattle.b67_ops.specs.declared.Operator.TheVariants.{Plain}
use Rattle.b67_ops.specs.declared.PlainKind.TheVariants.{Noop}
use Rattle.b67_ops.proofs.Reading.{word_bytes}
use Rattle.b67_segment.specs.declared.code.Mark.{Mark}
use Rattle.b67_segment.specs.declared.code.Segment.{Segment}
use Rattle.b67_segment.specs.Operators.{Placed, text, size, marks_after, marks_of, AreFit, last_level, missing, filler, filled}
use Rattle.b67_segment.specs.Building.{Builds}
use Rattle.b67_segment.specs.Syllables.{syllables, Spells}
use Rattle.b67_segment.proofs.Fetches.{length_syllables}
use Rattle.b67_segment.proofs.Texts.{text_append, marks_after_append, AreFit_append}

-- the first of five NOOPs
pub noops : (count : ℕ) → count ≤ 5 → take {A = ℕ} count (filler ∷ filler ∷ filler ∷ filler ∷ filler ∷ []) ≡ replicate count filler
noops count h = take-replicate {X = ℕ} count 5 filler h

-- six bytes are those of their word
pub word_of : (a b c d e f : ℕ) → a < 256 → b < 256 → c < 256 → d < 256 → e < 256 → f < 256
    → bytes_high_first 6 (from_be_bytes w64 (0 ∷ 0 ∷ a ∷ b ∷ c ∷ d ∷ e ∷ f ∷ [])) ≡ a ∷ b ∷ c ∷ d ∷ e ∷ f ∷ []
word_of a b c d e f pa pb pc pd pe pf = sym (word_bytes a b c d e f [] pa pb pc pd pe pf)

-- a NOOP at a level
abbrev pub noop : ℕ → Placed
noop level = record { level = level; operator = Plain Noop }

text_noops : (at level count : ℕ) → text at (replicate count (noop level)) ≡ replicate count filler
text_noops at level zero = refl
text_noops at level (suc count) = ap (λ xs. filler ∷ xs) (text_noops (at + 1) level count)

marks_noops : (at level count : ℕ) → marks_after at (Some level) (replicate count (noop level)) ≡ []
marks_noops at level zero = refl
marks_noops at level (suc count) =
    cond-true (eqb level level) _ _ (eq-eqb level level refl) ∙ marks_noops (at + 1) level count

AreFit_noops : (level count : ℕ) → OUTER_LEVEL ≤ level → level ≤ MOST_LEVEL → AreFit (replicate count (noop level))
AreFit_noops level zero outer known = tt
AreFit_noops level (suc count) outer known = (record { outer = outer; known = known; fits = tt }, AreFit_noops level count outer known)

-- the last operator has a level, which is known
last_some : (level : ℕ) (ps : List Placed) → OUTER_LEVEL ≤ level → level ≤ MOST_LEVEL → AreFit ps →
    (last : ℕ) × (last_level (Some level) ps ≡ Some last) × (OUTER_LEVEL ≤ last) × (last ≤ MOST_LEVEL)
last_some level [] outer known fit = (level, refl, outer, known)
last_some level (p ∷ ps) outer known fit = last_some p.level ps fit.0.outer fit.0.known fit.1

-- the NOOPs that fill a segment stand at the last operator's level, so they have no mark
pub filled_text : (ps : List Placed) → AreFit ps
    → (text 0 (filled ps) ≡ text 0 ps ++ replicate (missing (size ps)) filler) × (marks_of (filled ps) ≡ marks_of ps) × AreFit (filled ps)
filled_text [] fit = (refl, refl, tt)
filled_text (p ∷ ps) fit =
    let all = p ∷ ps in
    let last = last_some p.level ps fit.0.outer fit.0.known fit.1 in
    let count = missing (size all) in
    let level : unwrap_or (last_level None all) 0 ≡ last.0 = ap (λ k. unwrap_or k 0) last.1 in
    let fills : filled all ≡ all ++ replicate count (noop last.0) = ap (λ k. all ++ replicate count (noop k)) level in
    let at = 0 + length (text 0 all) in
    let told : marks_after at (last_level None all) (replicate count (noop last.0)) ≡ [] =
    ap (λ k. marks_after at k (replicate count (noop last.0))) last.1 ∙ marks_noops at last.0 count in (
      ap (text 0) fills ∙ text_append 0 all (replicate count (noop last.0)) ∙ ap (λ xs. text 0 all ++ xs) (text_noops at last.0 count),
      ap marks_of fills ∙ marks_after_append 0 None all (replicate count (noop last.0)) ∙ ap (λ xs. marks_of all ++ xs) told ∙ append-nil (marks_of all),
      subst AreFit (sym fills) (AreFit_append all (replicate count (noop last.0)) fit (AreFit_noops last.0 count last.2 last.3)),
    )

-- the words of a segment have the syllables of its operators, and at most five more
pub words_few : (ps : List Placed) (segment : Segment) → Spells (filled ps) segment → 6 * length segment.words ≤ size ps + 5
words_few ps segment s =
    let level = unwrap_or (last_level None ps) 0 in
    let count = missing (size ps) in
    let noops = replicate count (noop level) in
    let wide : size (filled ps) ≡ size ps + length (text (0 + size ps) noops) = ap length (text_append 0 ps noops) ∙ length-append (text 0 ps) (text (0 + size ps) noops) in
    let narrow : length (text (0 + size ps) noops) ≡ count = ap length (text_noops (0 + size ps) level count) ∙ length-replicate {A = ℕ} count filler in
    omega (arith, sym (length_syllables segment.words) ∙ ap length s.code, wide, narrow)

-- one more word is six more syllables
pub words_more : (words : List ℕ) (word index : ℕ) (code : List ℕ) → syllables words ≡ take (6 * index) code
    → bytes_high_first 6 word ≡ take (6 * index + 6 - 6 * index) (drop (6 * index) code)
    → syllables (words ++ word ∷ []) ≡ take (6 * (index + 1)) code
words_more words word index code h k =
    let six : 6 * index + 6 - 6 * index ≡ 6 = omega arith in
    let next : 6 * index + 6 ≡ 6 * (index + 1) = omega arith in
    flat_map-append (bytes_high_first 6) words (word ∷ [])
    ∙ ap (λ xs. xs ++ bytes_high_first 6 word) h
    ∙ ap (λ xs. take (6 * index) code ++ xs) (k ∙ ap (λ n. take n (drop (6 * index) code)) six)
    ∙ sym (take-add (6 * index) 6 code)
    ∙ ap (λ n. take n code) next

-- a segment of filled code is that of the operators that were built, and NOOPs
pub Spells_filled : {ps : List Placed} {bytes : List ℕ} {ms : List Mark} → Builds ps bytes ms → (words : List ℕ) (marks : List Mark)
    → syllables words ≡ bytes ++ replicate (missing (length bytes)) filler → All (λ word. word < 2 ^ 48) words → marks ≡ ms
    → Spells (filled ps) (record { words = words; marks = marks })
Spells_filled {ps} {bytes} {ms} b words marks code small same =
    let fills = filled_text ps b.fit in
    record {
      code = code ∙ ap (λ xs. xs ++ replicate (missing (length xs)) filler) b.code ∙ sym fills.0;
      small = small;
      marks = same ∙ b.marks ∙ sym fills.1;
      fit = fills.2;
    }
