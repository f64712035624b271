-- A text has one code.
use Rattle.std.proofs.Common.{◌≡◌, ℕ, ◌^◌, ◌<◌, List, [], ◌∷◌, length, take, drop, Some, None, refl, sym, ap, arith, ◌∙◌}
use Rattle.std.specs.Int.{w64, from_be_bytes, bytes_high_first}
use Rattle.std.specs.List.{All}
use Rattle.std.proofs.lemmas.List.Elements.{All-tail}
use Rattle.b67_segment.specs.declared.code.Segment.{Segment as Made}
use Rattle.b67_segment.specs.declared.code.Code.{Code}
use Rattle.b67_segment.specs.declared.code.Mark.{Mark}
use Rattle.b67_segment.specs.declared.code.Format.{Format as Form}
use Rattle.b67_segment.specs.Operators.{Placed, filled}
use Rattle.b67_segment.specs.Syllables.{Spells, syllables}
use Rattle.b67_asm_text.specs.Items.{readings}
use Rattle.b67_asm.specs.declared.refusal.Refusal.{Refusal}
use Rattle.b67_asm.specs.Assembling.{AreCode, Assembles, IsRefusedText, segments_from}

abbrev IsSmall : ℕ → Type 0
IsSmall word = word < 2 ^ 48

abbrev word_in : List ℕ → ℕ
word_in bytes = from_be_bytes w64 (0 ∷ 0 ∷ bytes)

word_back : (word : ℕ) → word < 2 ^ 48 → word_in (bytes_high_first 6 word) ≡ word
word_back word small = omega arith

one_words : (ws vs : List ℕ) → All IsSmall ws → All IsSmall vs → syllables ws ≡ syllables vs → ws ≡ vs
one_words [] [] a b e = refl
one_words [] (v ∷ vs) a b e = absurd (omega (arith, ap length e))
one_words (w ∷ ws) [] a b e = absurd (omega (arith, ap length e))
one_words (w ∷ ws) (v ∷ vs) a b e =
    let p : w < 2 ^ 48 = a 0 w (omega arith) in
    let q : v < 2 ^ 48 = b 0 v (omega arith) in
    let heads : bytes_high_first 6 w ≡ bytes_high_first 6 v = ap (λ (xs : List ℕ). take 6 xs) e in
    let tails : syllables ws ≡ syllables vs = ap (λ (xs : List ℕ). drop 6 xs) e in
    let first : w ≡ v = sym (word_back w p) ∙ ap word_in heads ∙ word_back v q in
    let rest = one_words ws vs (All-tail IsSmall w ws a) (All-tail IsSmall v vs b) tails in
    cc

one_segment : (ps : List Placed) (segment other : Made) → Spells ps segment → Spells ps other → segment ≡ other
one_segment ps segment other a b =
    let words : segment.words ≡ other.words = one_words segment.words other.words a.small b.small (a.code ∙ sym b.code) in
    let marks : segment.marks ≡ other.marks = a.marks ∙ sym b.marks in
    ap (λ (ws : List ℕ). let s : Made = record { words = ws; marks = segment.marks } in s) words
    ∙ ap (λ (ms : List Mark). let s : Made = record { words = other.words; marks = ms } in s) marks

one_segments : (operators : List (List Placed)) (segments others : List Made) → AreCode operators segments → AreCode operators others → segments ≡ others
one_segments [] [] [] a b = refl
one_segments [] (x ∷ xs) others a b = absurd a
one_segments [] [] (y ∷ ys) a b = absurd b
one_segments (o ∷ os) [] others a b = absurd a
one_segments (o ∷ os) (x ∷ xs) [] a b = absurd b
one_segments (o ∷ os) (x ∷ xs) (y ∷ ys) a b =
    let first : x ≡ y = one_segment (filled o) x y a.0 b.0 in
    let rest : xs ≡ ys = one_segments os xs ys a.1 b.1 in
    cc

pub one_code : (bytes : List ℕ) (code other : Code) → Assembles bytes code → Assembles bytes other → code ≡ other
one_code bytes code other a b =
    let segments : code.segments ≡ other.segments = one_segments (segments_from 1 (readings bytes)) code.segments other.segments a.segments b.segments in
    let formats : code.formats ≡ other.formats = a.formats ∙ sym b.formats in
    ap (λ (ss : List Made). let c : Code = record { segments = ss; formats = code.formats } in c) segments
    ∙ ap (λ (fs : List Form). let c : Code = record { segments = other.segments; formats = fs } in c) formats

pub not_both : (bytes : List ℕ) (code : Code) (refusal : Refusal) → Assembles bytes code → IsRefusedText bytes refusal → ⊥
not_both bytes code refusal a b = let clash : None ≡ Some refusal = sym a.whole ∙ b in cc

pub one_refusal : (bytes : List ℕ) (refusal other : Refusal) → IsRefusedText bytes refusal → IsRefusedText bytes other → refusal ≡ other
one_refusal bytes refusal other a b = let same : Some refusal ≡ Some other = sym a ∙ b in cc
