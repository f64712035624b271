-- Formats have own lines.
use Rattle.std.proofs.Common.{◌≡◌, ℕ, ◌^◌, ◌<◌, ⊎_elim, inl, inr, Some, List, [], ◌∷◌, ◌++◌, drop, codes, refl, sym, ap, subst, arith, ◌∙◌, append_assoc}
use Rattle.std.specs.Fmt.{decimal}
use Rattle.std.specs.List.{All, flat_map}
use Rattle.std.proofs.lemmas.List.{append_cancel_left}
use Rattle.std.proofs.lemmas.List.Elements.{All-head, All-tail}
use Rattle.b67_text.specs.Numerals.{IsDigit}
use Rattle.b67_text.proofs.Decimals.{digits, AtEnd, GoesOn, ahead}
use Rattle.b67_text.proofs.Beginnings.{wide}
use Rattle.b67_segment.specs.declared.code.Phrase.{Phrase}
use Rattle.b67_segment.specs.declared.code.Phrase.TheVariants.{Text, Number, Blanks}
use Rattle.b67_segment.specs.declared.code.Format.{Format}
use Rattle.b67_listing.specs.Formats.{phrase_text, phrases_text, format_line}
use Rattle.b67_listing.specs.Listings.{IsPhrase}
use Rattle.b67_list.proofs.Lists.{same_head}
use Rattle.b67_listing_reader.specs.Reading.{IsFormat, IsTextByte, EndsPhrase, IsEnded}
use Rattle.b67_listing_reader.proofs.Widths.{ends_no_digit}

-- of two numbers that are ended alike, both are the same, and so is what ends them
pub record WidthsAlike (n m : ℕ) (a b : List ℕ) : Type 0 where
  pub widths : n ≡ m
  pub rests : a ≡ b

pub widths_alike : (n m : ℕ) (a b : List ℕ) → n < 2 ^ 32 → m < 2 ^ 32 → IsEnded a → IsEnded b → decimal n ++ a ≡ decimal m ++ b → WidthsAlike n m a b
widths_alike n m a b p q x y e =
    let joined : decimal n ++ x.byte ∷ x.more ≡ decimal m ++ (y.byte ∷ y.more) = ap (λ t. decimal n ++ t) (sym x.rest_is) ∙ e ∙ ap (λ t. decimal m ++ t) y.rest_is in
    let wn : n < 10 ^ 64 = wide n (omega arith) in
    let wm : m < 10 ^ 64 = wide m (omega arith) in
    ⊎_elim (λ (h : AtEnd n (Some m) x.byte x.more (y.byte ∷ y.more)).
    let all = h.all in
    let same : n ≡ m = cc in
    record { widths = same; rests = x.rest_is ∙ sym h.rest ∙ sym y.rest_is })
    (λ (h : GoesOn n (Some m) (y.byte ∷ y.more)).
    let next = h.next in
    let first : y.byte ≡ h.digit = cc in
    absurd (ends_no_digit y.byte y.ends (subst IsDigit (sym first) (digits n (decimal m) h.more h.digit wn h.spelled_is))))
    (ahead n (Some m) x.byte x.more (y.byte ∷ y.more) wn (λ v is. let same : m ≡ v = cc in subst (λ k. k < 10 ^ 64) same wm) (ends_no_digit x.byte x.ends) joined)

-- of two texts before a quote, the same
pub record TextsAlike (s t a b : List ℕ) : Type 0 where
  pub texts : s ≡ t
  pub rests : a ≡ b

pub texts_alike : (s t a b : List ℕ) → All IsTextByte s → All IsTextByte t → s ++ 34 ∷ a ≡ t ++ 34 ∷ b → TextsAlike s t a b
texts_alike [] [] a b p q e = record { texts = refl; rests = (cc) }
texts_alike [] (y ∷ t) a b p q e =
    let first : 34 ≡ y = cc in
    let is = All-head IsTextByte y t q in
    absurd (is.2 (sym first))
texts_alike (x ∷ s) [] a b p q e =
    let first : x ≡ 34 = cc in
    let is = All-head IsTextByte x s p in
    absurd (is.2 first)
texts_alike (x ∷ s) (y ∷ t) a b p q e =
    let first : x ≡ y = cc in
    let tails : s ++ 34 ∷ a ≡ t ++ 34 ∷ b = cc in
    let rest = texts_alike s t a b (All-tail IsTextByte x s p) (All-tail IsTextByte y t q) tails in
    let texts = rest.texts in
    record { texts = (cc); rests = rest.rests }

-- of two phrases that are ended, the same
pub record PhrasesAlike (p q : Phrase) (a b : List ℕ) : Type 0 where
  pub phrases : p ≡ q
  pub rests : a ≡ b

pub phrases_alike : (p q : Phrase) (a b : List ℕ) → IsPhrase p → IsPhrase q → IsEnded a → IsEnded b → phrase_text p ++ a ≡ phrase_text q ++ b → PhrasesAlike p q a b
phrases_alike (Text s) (Text t) a b p q x y e =
    let tails : (s ++ 34 ∷ []) ++ a ≡ (t ++ 34 ∷ []) ++ b = ap (λ (xs : List ℕ). drop 1 xs) e in
    let joined : s ++ 34 ∷ a ≡ t ++ 34 ∷ b = sym (append_assoc s (34 ∷ []) a) ∙ tails ∙ append_assoc t (34 ∷ []) b in
    let alike = texts_alike s t a b p q joined in
    record { phrases = ap Text alike.texts; rests = alike.rests }
phrases_alike (Number n) (Number m) a b p q x y e =
    let tails : decimal n ++ a ≡ decimal m ++ b = append_cancel_left (codes "I") (decimal n ++ a) (decimal m ++ b) e in
    let alike = widths_alike n m a b p q x y tails in
    record { phrases = ap Number alike.widths; rests = alike.rests }
phrases_alike (Blanks n) (Blanks m) a b p q x y e =
    let tails : decimal n ++ a ≡ decimal m ++ b = append_cancel_left (codes "X") (decimal n ++ a) (decimal m ++ b) e in
    let alike = widths_alike n m a b p q x y tails in
    record { phrases = ap Blanks alike.widths; rests = alike.rests }
phrases_alike (Text s) (Number m) a b p q x y e = let f : ◌≡◌ {A = ℕ} 34 73 = same_head 34 73 _ _ e in absurd (omega arith)
phrases_alike (Text s) (Blanks m) a b p q x y e = let f : ◌≡◌ {A = ℕ} 34 88 = same_head 34 88 _ _ e in absurd (omega arith)
phrases_alike (Number n) (Text t) a b p q x y e = let f : ◌≡◌ {A = ℕ} 73 34 = same_head 73 34 _ _ e in absurd (omega arith)
phrases_alike (Number n) (Blanks m) a b p q x y e = let f : ◌≡◌ {A = ℕ} 73 88 = same_head 73 88 _ _ e in absurd (omega arith)
phrases_alike (Blanks n) (Text t) a b p q x y e = let f : ◌≡◌ {A = ℕ} 88 34 = same_head 88 34 _ _ e in absurd (omega arith)
phrases_alike (Blanks n) (Number m) a b p q x y e = let f : ◌≡◌ {A = ℕ} 88 73 = same_head 88 73 _ _ e in absurd (omega arith)

-- no phrase begins with the bracket that ends phrases, nor with a comma
pub phrase_first : (p : Phrase) (a b : List ℕ) (byte : ℕ) → EndsPhrase byte → phrase_text p ++ a ≡ byte ∷ b → ⊥
phrase_first (Text s) a b byte ends e = let f : 34 ≡ byte = same_head 34 byte _ _ e in ⊎_elim (λ (h : byte ≡ 44). omega arith) (λ (h : byte ≡ 62). omega arith) ends
phrase_first (Number n) a b byte ends e = let f : 73 ≡ byte = same_head 73 byte _ _ e in ⊎_elim (λ (h : byte ≡ 44). omega arith) (λ (h : byte ≡ 62). omega arith) ends
phrase_first (Blanks n) a b byte ends e = let f : 88 ≡ byte = same_head 88 byte _ _ e in ⊎_elim (λ (h : byte ≡ 44). omega arith) (λ (h : byte ≡ 62). omega arith) ends

-- phrases, each after a comma
abbrev pub further : List Phrase → List ℕ
further ps = flat_map (λ phrase. codes "," ++ phrase_text phrase) ps

-- and the bracket after them
abbrev pub closed : List Phrase → List ℕ
closed ps = further ps ++ codes ">"

pub closed_ended : (ps : List Phrase) → IsEnded (closed ps)
closed_ended [] = record { byte = 62; more = []; ends = inr refl; rest_is = refl }
closed_ended (p ∷ ps) = record { byte = 44; more = (phrase_text p ++ further ps) ++ codes ">"; ends = inl refl; rest_is = refl }

pub closed_same : (ps qs : List Phrase) → All IsPhrase ps → All IsPhrase qs → closed ps ≡ closed qs → ps ≡ qs
closed_same [] [] a b e = refl
closed_same [] (q ∷ qs) a b e = let f : ◌≡◌ {A = ℕ} 62 44 = same_head 62 44 _ _ e in absurd (omega arith)
closed_same (p ∷ ps) [] a b e = let f : ◌≡◌ {A = ℕ} 44 62 = same_head 44 62 _ _ e in absurd (omega arith)
closed_same (p ∷ ps) (q ∷ qs) a b e =
    let tails : (phrase_text p ++ further ps) ++ codes ">" ≡ (phrase_text q ++ further qs) ++ codes ">" =
    append_cancel_left (codes ",") ((phrase_text p ++ further ps) ++ codes ">") ((phrase_text q ++ further qs) ++ codes ">") e in
    let joined : phrase_text p ++ closed ps ≡ phrase_text q ++ closed qs =
    sym (append_assoc (phrase_text p) (further ps) (codes ">")) ∙ tails ∙ append_assoc (phrase_text q) (further qs) (codes ">") in
    let alike = phrases_alike p q (closed ps) (closed qs) (All-head IsPhrase p ps a) (All-head IsPhrase q qs b) (closed_ended ps) (closed_ended qs) joined in
    ap (λ r. r ∷ ps) alike.phrases ∙ ap (λ rs. q ∷ rs) (closed_same ps qs (All-tail IsPhrase p ps a) (All-tail IsPhrase q qs b) alike.rests)

pub opened : (p : Phrase) (ps : List Phrase) → phrases_text (p ∷ ps) ++ codes ">" ≡ phrase_text p ++ closed ps
opened p ps = append_assoc (phrase_text p) (further ps) (codes ">")

pub phrases_same : (ps qs : List Phrase) → All IsPhrase ps → All IsPhrase qs → phrases_text ps ++ codes ">" ≡ phrases_text qs ++ codes ">" → ps ≡ qs
phrases_same [] [] a b e = refl
phrases_same [] (q ∷ qs) a b e = absurd (phrase_first q (closed qs) [] 62 (inr refl) (sym (opened q qs) ∙ sym e))
phrases_same (p ∷ ps) [] a b e = absurd (phrase_first p (closed ps) [] 62 (inr refl) (sym (opened p ps) ∙ e))
phrases_same (p ∷ ps) (q ∷ qs) a b e =
    let joined : phrase_text p ++ closed ps ≡ phrase_text q ++ closed qs = sym (opened p ps) ∙ e ∙ opened q qs in
    let alike = phrases_alike p q (closed ps) (closed qs) (All-head IsPhrase p ps a) (All-head IsPhrase q qs b) (closed_ended ps) (closed_ended qs) joined in
    ap (λ r. r ∷ ps) alike.phrases ∙ ap (λ rs. q ∷ rs) (closed_same ps qs (All-tail IsPhrase p ps a) (All-tail IsPhrase q qs b) alike.rests)

-- the head of a format's line
abbrev pub format_head : ℕ → List ℕ
format_head n = codes "FORMAT " ++ decimal n ++ codes " <"

pub headed : (n : ℕ) (f : Format) → format_line (n, f) ≡ format_head n ++ (phrases_text f.phrases ++ codes ">")
headed n f = append_assoc (format_head n) (phrases_text f.phrases) (codes ">")

pub one_format : (n : ℕ) (f g : Format) → IsFormat f → IsFormat g → format_line (n, f) ≡ format_line (n, g) → f ≡ g
one_format n f g p q e =
    let tails : phrases_text f.phrases ++ codes ">" ≡ phrases_text g.phrases ++ codes ">" =
    append_cancel_left (format_head n) (phrases_text f.phrases ++ codes ">") (phrases_text g.phrases ++ codes ">") (sym (headed n f) ∙ e ∙ headed n g) in
    ap (λ ps. let r : Format = record { phrases = ps } in r) (phrases_same f.phrases g.phrases p q tails)
