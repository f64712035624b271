-- The phrases of a format, as far as they are read.
use Rattle.std.proofs.Common.{◌≡◌, ℕ, suc, ◌+◌, ◌<◌, ◌≤◌, ◌⊎◌, ⊎_elim, inr, Bool, true, false, ◌==◌, List, [], ◌∷◌, ◌++◌, length, get_or, drop, codes, refl, sym, ap, subst, arith, ◌∙◌, append_assoc, length-append, length-drop}
use Rattle.std.specs.List.{All}
use Rattle.std.proofs.lemmas.Bool.{ne_eqb}
use Rattle.std.proofs.lemmas.Grind.{flat_map-append}
use Rattle.std.proofs.lemmas.List.{append-nil, drop-drop, drop_at, drop_all}
use Rattle.std.proofs.lemmas.List.Elements.{All-nil, All-push, All-head, All-tail}
use Rattle.b67_text.specs.Texts.{PartStands, HasByte}
use Rattle.b67_segment.specs.declared.code.Phrase.{Phrase}
use Rattle.b67_listing.specs.Formats.{phrase_text, phrases_text}
use Rattle.b67_listing.specs.Listings.{IsPhrase}
use Rattle.b67_list.proofs.Lists.{drop_next}
use Rattle.b67_list.proofs.Truths.{not_both}
use Rattle.b67_listing_reader.specs.Reading.{IsEnded, ReadsPhrase}
use Rattle.b67_listing_reader.proofs.OneFormat.{further, closed, closed_ended, opened, phrase_first, phrases_alike}

-- what is left of phrases after others
abbrev pub left_text : List Phrase → List Phrase → List ℕ
left_text [] ps = phrases_text ps ++ codes ">"
left_text (q ∷ qs) ps = closed ps

-- what other phrases with this text have after those that are read
pub record Left (done ps : List Phrase) (tail : List ℕ) : Type 0 where
  pub later : List Phrase
  pub are : ps ≡ done ++ later
  pub each : All IsPhrase later
  pub tail_is : tail ≡ left_text done later

-- these phrases are read
pub record PhrasesSoFar (text : List ℕ) (at next : ℕ) (done : List Phrase) : Type 0 where
  pub within : next ≤ length text
  pub each : All IsPhrase done
  pub read : drop at text ≡ phrases_text done ++ drop next text
  pub others : (ps : List Phrase) → All IsPhrase ps → drop at text ≡ phrases_text ps ++ codes ">" → Left done ps (drop next text)

pub phrases_start : (text : List ℕ) (at : ℕ) (done : List Phrase) → at ≤ length text → done ≡ [] → PhrasesSoFar text at at done
phrases_start text at done inside is = subst (λ ds. PhrasesSoFar text at at ds) (sym is) record {
  within = inside;
  each = All-nil IsPhrase;
  read = refl;
  others = λ ps each e. record { later = ps; are = refl; each = each; tail_is = e };
}

-- what stands at a place when a list begins so there
pub record StandsFrom (part items tail : List ℕ) (at : ℕ) : Type 0 where
  pub stands : PartStands part items at (at + length part)
  pub tail_is : drop (at + length part) items ≡ tail

pub stands_from : (part items tail : List ℕ) (at : ℕ) → at ≤ length items → drop at items ≡ part ++ tail → StandsFrom part items tail at
stands_from part items tail at inside e =
    let after : drop (at + length part) items ≡ tail = sym (drop-drop (length part) at items) ∙ ap (drop (length part)) e ∙ drop_at part tail (length part) refl in
    record {
      stands = record {
        within = omega (arith, ap length e, length-append part tail, length-drop at items);
        next_is = refl;
        part_is = e ∙ ap (λ t. part ++ t) (sym after);
      };
      tail_is = after;
    }

-- a phrase that is ended stands where a text begins with it
pub reads_from : (phrase : Phrase) (text tail : List ℕ) (at : ℕ) → at ≤ length text → IsPhrase phrase → IsEnded tail → drop at text ≡ phrase_text phrase ++ tail →
    ReadsPhrase text at phrase (at + length (phrase_text phrase))
reads_from phrase text tail at inside is ended e =
    let s = stands_from (phrase_text phrase) text tail at inside e in
    record { is_phrase = is; stands = s.stands; ended = subst IsEnded (sym s.tail_is) ended }

left_some : (done ps : List Phrase) → left_text done ps ≡ [] → ⊥
left_some [] [] e = let f : codes ">" ≡ [] = e in cc
left_some [] (p ∷ ps) e = omega (arith, ap length e, length-append (phrases_text (p ∷ ps)) (codes ">"))
left_some (d ∷ ds) ps e = let ended = closed_ended ps in let f : ended.byte ∷ ended.more ≡ [] = sym ended.rest_is ∙ e in cc

-- where the text ends, and no bracket came
pub phrases_past : (text : List ℕ) (at next : ℕ) (done : List Phrase) → PhrasesSoFar text at next done → length text ≤ next → (ps : List Phrase) → All IsPhrase ps →
    drop at text ≡ phrases_text ps ++ codes ">" → ⊥
phrases_past text at next done s past ps each e =
    let left = s.others ps each e in
    left_some done left.later (sym left.tail_is ∙ drop_all next text past)

bracket_last : (done ps : List Phrase) (rest : List ℕ) → 62 ∷ rest ≡ left_text done ps → rest ≡ []
bracket_last [] [] rest e = let f : 62 ∷ rest ≡ 62 ∷ [] = e in cc
bracket_last [] (p ∷ ps) rest e = absurd (phrase_first p (closed ps) rest 62 (inr refl) (sym (opened p ps) ∙ sym e))
bracket_last (d ∷ ds) [] rest e = let f : 62 ∷ rest ≡ 62 ∷ [] = e in cc
bracket_last (d ∷ ds) (p ∷ ps) rest e = let f : ◌≡◌ {A = ℕ} 62 44 = ap (λ (xs : List ℕ). get_or xs 0 0) e in absurd (omega arith)

-- the bracket is not the last byte
pub phrases_early : (text : List ℕ) (at next : ℕ) (done : List Phrase) → PhrasesSoFar text at next done → drop next text ≡ 62 ∷ drop (next + 1) text → next + 1 < length text →
    (ps : List Phrase) → All IsPhrase ps → drop at text ≡ phrases_text ps ++ codes ">" → ⊥
phrases_early text at next done s here early ps each e =
    let left = s.others ps each e in
    let last = bracket_last done left.later (drop (next + 1) text) (sym here ∙ left.tail_is) in
    omega (arith, ap length last, length-drop (next + 1) text)

-- where a phrase begins: the first one at a place, another after a comma there
pub data BeginsPhrase (text : List ℕ) (next : ℕ) (begin : ℕ) : List Phrase → Type 0 where
  first : begin ≡ next → BeginsPhrase text next begin []
  behind_comma : (d : Phrase) (ds : List Phrase) → drop next text ≡ 44 ∷ drop begin text → BeginsPhrase text next begin (d ∷ ds)

-- phrases that are some have a first one
pub some_phrases : (done : List Phrase) (count : ℕ) → count ≡ length done → (count == 0) ≡ false → (d : Phrase) × (ds : List Phrase) × (done ≡ d ∷ ds)
some_phrases [] count long some = let both : true ≡ false = ap (λ n. n == 0) (sym long) ∙ some in absurd (cc)
some_phrases (d ∷ ds) count long some = (d, ds, refl)

-- how a phrase begins, by whether it is the first
abbrev pub BeginsBy : List ℕ → ℕ → Bool → ℕ → Type 0
BeginsBy text next b begin = ((b ≡ true) × (begin ≡ next)) ⊎ ((b ≡ false) × HasByte 44 text next × (begin ≡ next + 1))

pub begins_by : (text : List ℕ) (next begin : ℕ) (done : List Phrase) (count : ℕ) (b : Bool) → count ≡ length done → b ≡ (count == 0) → BeginsBy text next b begin → BeginsPhrase text next begin done
begins_by text next begin [] count b long is h =
    ⊎_elim (λ (g : (b ≡ true) × (begin ≡ next)). first g.1)
    (λ (g : (b ≡ false) × HasByte 44 text next × (begin ≡ next + 1)). absurd (not_both b (is ∙ ap (λ n. n == 0) long) g.0)) h
begins_by text next begin (d ∷ ds) count b long is h =
    ⊎_elim (λ (g : (b ≡ true) × (begin ≡ next)). absurd (not_both b g.0 (is ∙ ap (λ n. n == 0) long ∙ ne_eqb (length (d ∷ ds)) 0 (λ e. omega (arith, e)))))
    (λ (g : (b ≡ false) × HasByte 44 text next × (begin ≡ next + 1)).
    let behind : suc next ≡ begin = omega (arith, g.2) in
    behind_comma d ds (drop_next text next 44 g.1 ∙ ap (λ k. 44 ∷ drop k text) behind)) h

pub begins_within : (text : List ℕ) (next begin : ℕ) (b : Bool) → next < length text → BeginsBy text next b begin → begin ≤ length text
begins_within text next begin b inside h =
    ⊎_elim (λ (g : (b ≡ true) × (begin ≡ next)). omega (arith, g.1)) (λ (g : (b ≡ false) × HasByte 44 text next × (begin ≡ next + 1)). omega (arith, g.2)) h

-- where none begins
comma_or_bracket : (done : List Phrase) (d : Phrase) (ds ps : List Phrase) (byte : ℕ) (rest : List ℕ) → done ≡ d ∷ ds → byte ∷ rest ≡ left_text done ps → (byte ≡ 44) ⊎ (byte ≡ 62)
comma_or_bracket done d ds ps byte rest is e =
    let ended = closed_ended ps in
    let all : byte ∷ rest ≡ ended.byte ∷ ended.more = e ∙ ap (λ q. left_text q ps) is ∙ ended.rest_is in
    let same : ended.byte ≡ byte = cc in
    subst (λ b. (b ≡ 44) ⊎ (b ≡ 62)) same ended.ends

pub phrases_stuck : (text : List ℕ) (at next byte : ℕ) (done : List Phrase) (d : Phrase) (ds : List Phrase) → PhrasesSoFar text at next done → done ≡ d ∷ ds →
    drop next text ≡ byte ∷ drop (next + 1) text → (byte ≡ 44 → ⊥) → (byte ≡ 62 → ⊥) → (ps : List Phrase) → All IsPhrase ps → drop at text ≡ phrases_text ps ++ codes ">" → ⊥
phrases_stuck text at next byte done d ds s some here no_comma no_bracket ps each e =
    let left = s.others ps each e in
    ⊎_elim (λ (h : byte ≡ 44). no_comma h) (λ (h : byte ≡ 62). no_bracket h)
    (comma_or_bracket done d ds left.later byte (drop (next + 1) text) some (sym here ∙ left.tail_is))

-- where a phrase begins, what is left begins with one
pub record OnePhrase (text : List ℕ) (begin : ℕ) (later : List Phrase) : Type 0 where
  pub phrase : Phrase
  pub more : List Phrase
  pub later_is : later ≡ phrase ∷ more
  pub text_is : drop begin text ≡ phrase_text phrase ++ closed more

one_phrase : (text : List ℕ) (next begin byte : ℕ) (done later : List Phrase) → BeginsPhrase text next begin done → drop next text ≡ byte ∷ drop (next + 1) text → (byte ≡ 62 → ⊥) →
    drop next text ≡ left_text done later → OnePhrase text begin later
one_phrase text next begin byte _ [] (first same) here never e =
    let f : byte ∷ drop (next + 1) text ≡ 62 ∷ [] = sym here ∙ e in
    let b : byte ≡ 62 = cc in
    absurd (never b)
one_phrase text next begin byte _ (p ∷ ps) (first same) here never e =
    record { phrase = p; more = ps; later_is = refl; text_is = ap (λ k. drop k text) same ∙ e ∙ opened p ps }
one_phrase text next begin byte _ [] (behind_comma d ds comma) here never e =
    let f : 44 ∷ drop begin text ≡ 62 ∷ [] = sym comma ∙ e in
    let g : ◌≡◌ {A = ℕ} 44 62 = ap (λ (xs : List ℕ). get_or xs 0 0) f in
    absurd (omega arith)
one_phrase text next begin byte _ (p ∷ ps) (behind_comma d ds comma) here never e =
    let f : 44 ∷ drop begin text ≡ 44 ∷ ((phrase_text p ++ further ps) ++ codes ">") = sym comma ∙ e in
    let tails : drop begin text ≡ (phrase_text p ++ further ps) ++ codes ">" = cc in
    record { phrase = p; more = ps; later_is = refl; text_is = tails ∙ append_assoc (phrase_text p) (further ps) (codes ">") }

-- no phrase stands where one begins
pub phrases_none : (text : List ℕ) (at next begin byte : ℕ) (done : List Phrase) → PhrasesSoFar text at next done → BeginsPhrase text next begin done → begin ≤ length text →
    drop next text ≡ byte ∷ drop (next + 1) text → (byte ≡ 62 → ⊥) → ((phrase : Phrase) (end : ℕ) → ReadsPhrase text begin phrase end → ⊥) →
    (ps : List Phrase) → All IsPhrase ps → drop at text ≡ phrases_text ps ++ codes ">" → ⊥
phrases_none text at next begin byte done s begins inside here never none ps each e =
    let left = s.others ps each e in
    let one = one_phrase text next begin byte done left.later begins here never (left.tail_is) in
    let each_left = subst (All IsPhrase) one.later_is left.each in
    none one.phrase (begin + length (phrase_text one.phrase))
    (reads_from one.phrase text (closed one.more) begin inside (All-head IsPhrase one.phrase one.more each_left) (closed_ended one.more) one.text_is)

closed_push : (done : List Phrase) (phrase : Phrase) (ps : List Phrase) → left_text (done ++ phrase ∷ []) ps ≡ closed ps
closed_push [] phrase ps = refl
closed_push (d ∷ ds) phrase ps = refl

read_push : (text : List ℕ) (next begin : ℕ) (done : List Phrase) (phrase : Phrase) (tail : List ℕ) → BeginsPhrase text next begin done → drop begin text ≡ phrase_text phrase ++ tail →
    phrases_text done ++ drop next text ≡ phrases_text (done ++ phrase ∷ []) ++ tail
read_push text next begin _ phrase tail (first same) e =
    ap (λ k. drop k text) (sym same) ∙ e ∙ ap (λ t. t ++ tail) (sym (append-nil (phrase_text phrase)))
read_push text next begin _ phrase tail (behind_comma d ds comma) e =
    let more : further (ds ++ phrase ∷ []) ≡ further ds ++ (44 ∷ phrase_text phrase) =
    flat_map-append (λ p. codes "," ++ phrase_text p) ds (phrase ∷ []) ∙ ap (λ t. further ds ++ t) (append-nil (44 ∷ phrase_text phrase)) in
    ap (λ t. (phrase_text d ++ further ds) ++ t) (comma ∙ ap (λ t. 44 ∷ t) e)
    ∙ sym (append_assoc (phrase_text d ++ further ds) (44 ∷ phrase_text phrase) tail)
    ∙ ap (λ t. t ++ tail) (append_assoc (phrase_text d) (further ds) (44 ∷ phrase_text phrase) ∙ ap (λ t. phrase_text d ++ t) (sym more))

-- one more phrase
pub phrases_more : (text : List ℕ) (at next begin byte end : ℕ) (done : List Phrase) (phrase : Phrase) → PhrasesSoFar text at next done → BeginsPhrase text next begin done →
    drop next text ≡ byte ∷ drop (next + 1) text → (byte ≡ 62 → ⊥) → ReadsPhrase text begin phrase end → PhrasesSoFar text at end (done ++ phrase ∷ [])
phrases_more text at next begin byte end done phrase s begins here never r = record {
  within = r.stands.within;
  each = All-push IsPhrase done phrase s.each r.is_phrase;
  read = s.read ∙ read_push text next begin done phrase (drop end text) begins r.stands.part_is;
  others = λ ps each e.
      let left = s.others ps each e in
      let one = one_phrase text next begin byte done left.later begins here never left.tail_is in
      let each_left = subst (All IsPhrase) one.later_is left.each in
      let alike = phrases_alike phrase one.phrase (drop end text) (closed one.more) r.is_phrase (All-head IsPhrase one.phrase one.more each_left) r.ended (closed_ended one.more)
      (sym r.stands.part_is ∙ one.text_is) in
      record {
        later = one.more;
        are = left.are ∙ ap (λ ls. done ++ ls) (one.later_is ∙ ap (λ q. q ∷ one.more) (sym alike.phrases)) ∙ sym (append_assoc done (phrase ∷ []) one.more);
        each = All-tail IsPhrase one.phrase one.more each_left;
        tail_is = alike.rests ∙ sym (closed_push done phrase one.more);
      };
}
