-- What is fetched from the words of a segment.
use Rattle.std.proofs.Common.{◌≡◌, ℕ, zero, suc, ◌+◌, ◌*◌, ◌/◌, ◌%◌, ◌<◌, ◌≤◌, Option, Some, None, Result, Ok, Err, List, [], ◌∷◌, ◌++◌, length, take, drop, get_or, refl, sym, ap, ◌∙◌, subst, arith}
use Rattle.std.specs.Prelude.{◌↔◌, MatchOption, slice_get}
use Rattle.std.proofs.lemmas.List.{drop_all}
use Rattle.std.specs.Int.{bytes_high_first}
use Rattle.b67_ops.specs.declared.TheConstants.{MOST_LEVEL}
use Rattle.b67_ops.specs.declared.Operator.{Operator}
use Rattle.b67_ops.specs.declared.BadCode.{BadCode}
use Rattle.b67_ops.specs.declared.BadCode.TheVariants.{CutShort, BadLevel, Unknown}
use Rattle.b67_ops.specs.Spelling.{OperatorStands}
use Rattle.b67_ops.specs.Decoding.{decoded}
use Rattle.b67_ops.specs.Refusals.{IsCutShort, NamesLevelAbove, IsUnknown}
use Rattle.b67_ops.proofs.Laws.{decoded_ok, decoded_past, decoded_cut_short, decoded_above, decoded_unknown}
use Rattle.b67_ops.proofs.Reading.{IsBytes}
use Rattle.b67_ops.proofs.Windows.{decoded_window, moved}
use Rattle.b67_segment.specs.declared.code.Segment.{Segment}
use Rattle.b67_segment.specs.declared.code.Code.{Code}
use Rattle.b67_segment.specs.declared.code.Pointer.{Pointer}
use Rattle.b67_segment.specs.Syllables.{syllables}
use Rattle.b67_segment.specs.Fetching.{fetched_from, fetched, StandsIn, IsPast, IsCutShortIn, NamesLevelAboveIn, IsUnknownIn}

-- the syllables of one word, and the first of two or more
pub one_word : (words : List ℕ) → 1 ≤ length words → length words < 2 → take 12 (syllables words) ≡ bytes_high_first 6 (get_or words 0 0)
one_word [] h k = absurd (omega arith)
one_word (w ∷ []) h k = refl
one_word (w ∷ v ∷ ws) h k = absurd (omega arith)

pub two_words : (words : List ℕ) → 2 ≤ length words
    → take 12 (syllables words) ≡ bytes_high_first 6 (get_or words 0 0) ++ bytes_high_first 6 (get_or words 1 0)
two_words [] h = absurd (omega arith)
two_words (w ∷ []) h = absurd (omega arith)
two_words (w ∷ v ∷ ws) h = refl

pub length_syllables : (words : List ℕ) → length (syllables words) ≡ 6 * length words
length_syllables [] = refl
length_syllables (w ∷ ws) = omega (arith, length_syllables ws)

-- from a word on, syllables are those of the words from there on
pub drop_syllables : (count : ℕ) (words : List ℕ) → drop (6 * count) (syllables words) ≡ syllables (drop count words)
drop_syllables zero words = refl
drop_syllables (suc count) [] = drop_all (6 * suc count) [] (omega arith)
drop_syllables (suc count) (w ∷ ws) =
    let six : 6 * suc count ≡ suc (suc (suc (suc (suc (suc (6 * count)))))) = omega arith in
    ap (λ n. drop n (syllables (w ∷ ws))) six ∙ drop_syllables count ws

-- syllables are bytes
pub syllables_bytes : (words : List ℕ) → IsBytes (syllables words)
syllables_bytes [] i = omega arith
syllables_bytes (w ∷ ws) zero = omega arith
syllables_bytes (w ∷ ws) (suc zero) = omega arith
syllables_bytes (w ∷ ws) (suc (suc zero)) = omega arith
syllables_bytes (w ∷ ws) (suc (suc (suc zero))) = omega arith
syllables_bytes (w ∷ ws) (suc (suc (suc (suc zero)))) = omega arith
syllables_bytes (w ∷ ws) (suc (suc (suc (suc (suc zero))))) = omega arith
syllables_bytes (w ∷ ws) (suc (suc (suc (suc (suc (suc i)))))) = syllables_bytes ws i

-- what is decoded in the word of a place and the one after it is decoded in the segment
pub decoded_words : (words window : List ℕ) (place first at level : ℕ) (r : Result (Operator × ℕ) BadCode) → first ≡ place / 6 → at ≡ place % 6
    → window ≡ take 12 (syllables (drop first words)) → r ≡ decoded window at level → moved (6 * first) r ≡ decoded (syllables words) place level
decoded_words words window place first at level r p q w h =
    let bytes = syllables words in
    let base = 6 * first in
    let here : base + at ≡ place = omega arith in
    let whole : base % 6 ≡ 0 = omega arith in
    let shown : window ≡ take 12 (drop base bytes) = w ∙ ap (take 12) (sym (drop_syllables first words)) in
    ap (moved base) (h ∙ ap (λ xs. decoded xs at level) shown)
    ∙ sym (decoded_window bytes base at level (syllables_bytes words) whole (omega arith))
    ∙ ap (λ n. decoded bytes n level) here

-- past the words nothing is decoded
pub decoded_past_words : (words : List ℕ) (place level : ℕ) → length words ≤ place / 6 → decoded (syllables words) place level ≡ Err CutShort
decoded_past_words words place level h = decoded_past (syllables words) place level (omega (arith, length_syllables words))

-- an operator is fetched exactly where it stands in its segment
fetched_some : (code : Code) (at : Pointer) (level : ℕ) (s : Option Segment) → slice_get code.segments at.segment ≡ s → level ≤ MOST_LEVEL → (op : Operator) (next : ℕ)
    → (fetched_from s at.place level ≡ Ok (op, next)) ↔ StandsIn code at level op next
fetched_some code at level None there most op next = (λ h. cc, λ s. let wrong : None ≡ Some s.segment = sym there ∙ s.there in cc)
fetched_some code at level (Some segment) there most op next =
    let found = decoded_ok (syllables segment.words) at.place level most (syllables_bytes segment.words) op next in (
      λ h. record { segment = segment; there = there; stands = found.0 h },
      λ s. let same : s.segment ≡ segment = some-same s.segment segment (sym s.there ∙ there) in
          found.1 (subst (λ g. OperatorStands (syllables g.words) at.place level op next) same s.stands),
    )
  where
    some-same : (a b : Segment) → Some a ≡ Some b → a ≡ b
    some-same a b h = cc

pub fetched_ok : (code : Code) (at : Pointer) (level : ℕ) → level ≤ MOST_LEVEL → (op : Operator) (next : ℕ)
    → (fetched code at level ≡ Ok (op, next)) ↔ StandsIn code at level op next
fetched_ok code at level most op next = fetched_some code at level (slice_get code.segments at.segment) refl most op next

past_some : (s : Option Segment) (place level : ℕ) → MatchOption s (Unit {0}) (λ segment. 6 * length segment.words ≤ place) → fetched_from s place level ≡ Err CutShort
past_some None place level h = refl
past_some (Some segment) place level h = decoded_past (syllables segment.words) place level (omega (arith, length_syllables segment.words))

-- nothing is fetched past a segment, or from none
pub fetched_past : (code : Code) (at : Pointer) (level : ℕ) → IsPast code at → fetched code at level ≡ Err CutShort
fetched_past code at level h = past_some (slice_get code.segments at.segment) at.place level h

-- each refusal comes exactly where it has its cause
cut_short_some : (s : Option Segment) (place level : ℕ) → level ≤ MOST_LEVEL
    → (fetched_from s place level ≡ Err CutShort) ↔ MatchOption s (Unit {0}) (λ segment. IsCutShort (syllables segment.words) place level)
cut_short_some None place level most = (λ h. tt, λ h. refl)
cut_short_some (Some segment) place level most = decoded_cut_short (syllables segment.words) place level most (syllables_bytes segment.words)

above_some : (s : Option Segment) (place level : ℕ) → level ≤ MOST_LEVEL
    → (fetched_from s place level ≡ Err BadLevel) ↔ MatchOption s ⊥ (λ segment. NamesLevelAbove (syllables segment.words) place level)
above_some None place level most = (λ h. cc, λ h. absurd h)
above_some (Some segment) place level most = decoded_above (syllables segment.words) place level most (syllables_bytes segment.words)

unknown_some : (s : Option Segment) (place level : ℕ) → level ≤ MOST_LEVEL
    → (fetched_from s place level ≡ Err Unknown) ↔ MatchOption s ⊥ (λ segment. IsUnknown (syllables segment.words) place level)
unknown_some None place level most = (λ h. cc, λ h. absurd h)
unknown_some (Some segment) place level most = decoded_unknown (syllables segment.words) place level most (syllables_bytes segment.words)

pub fetched_cut_short : (code : Code) (at : Pointer) (level : ℕ) → level ≤ MOST_LEVEL → (fetched code at level ≡ Err CutShort) ↔ IsCutShortIn code at level
fetched_cut_short code at level most = cut_short_some (slice_get code.segments at.segment) at.place level most

pub fetched_above : (code : Code) (at : Pointer) (level : ℕ) → level ≤ MOST_LEVEL → (fetched code at level ≡ Err BadLevel) ↔ NamesLevelAboveIn code at level
fetched_above code at level most = above_some (slice_get code.segments at.segment) at.place level most

pub fetched_unknown : (code : Code) (at : Pointer) (level : ℕ) → level ≤ MOST_LEVEL → (fetched code at level ≡ Err Unknown) ↔ IsUnknownIn code at level
fetched_unknown code at level most = unknown_some (slice_get code.segments at.segment) at.place level most
