-- Texts between quotes, as far as they are read, and as phrases.
use Rattle.std.proofs.Common.{◌≡◌, ℕ, suc, ◌+◌, ◌-◌, ◌<◌, ◌≤◌, Option, Some, None, Result, Ok, Err, IfOk, MatchOption, List, [], ◌∷◌, ◌++◌, length, get_or, drop, sym, ap, subst, arith, ◌∙◌, append_assoc, length-append}
use Rattle.std.specs.List.{All}
use Rattle.std.proofs.lemmas.Option.{slice_get_within}
use Rattle.std.proofs.lemmas.List.{append-nil, drop_all, drop_more}
use Rattle.std.proofs.lemmas.List.Elements.{All-push, All-head, All-tail}
use Rattle.b67_text.specs.Texts.{PartStands, HasByte}
use Rattle.b67_text.proofs.Fronts.{byte_at, stands_more}
use Rattle.b67_segment.specs.declared.code.Phrase.{Phrase}
use Rattle.b67_segment.specs.declared.code.Phrase.TheVariants.{Text, Number, Blanks}
use Rattle.b67_listing.specs.Formats.{phrase_text}
use Rattle.b67_list.proofs.Lists.{drop_next}
use Rattle.b67_listing_reader.specs.Reading.{IsTextByte, IsEnded, ReadsPhrase, ReadsQuoted, ReadsText}
use Rattle.b67_listing_reader.proofs.OneFormat.{texts_alike}
use Rattle.b67_listing_reader.proofs.PhraseReading.{stands_from}

-- the byte that stands at a place
pub byte_here : (text : List ℕ) (at other : ℕ) → at < length text → HasByte (get_or text at other) text at
byte_here text at other inside = byte_at text at (get_or text at other) (drop (at + 1) text) (drop_more text at other inside)

-- these bytes of a text are read
pub record QuotedSoFar (text : List ℕ) (at end : ℕ) : Type 0 where
  pub quoted : List ℕ
  pub bytes : All IsTextByte quoted
  pub stands : PartStands quoted text at end

pub quoted_more : (text : List ℕ) (at end byte : ℕ) → QuotedSoFar text at end → HasByte byte text end → IsTextByte byte → QuotedSoFar text at (end + 1)
quoted_more text at end byte q here is = record {
  quoted = q.quoted ++ byte ∷ [];
  bytes = All-push IsTextByte q.quoted byte q.bytes is;
  stands = stands_more q.quoted text at end byte q.stands here;
}

-- a byte that is none of a text ends it, and is no quote
no_quote : (qs rs : List ℕ) (byte : ℕ) (a b : List ℕ) → All IsTextByte qs → All IsTextByte rs → (IsTextByte byte → ⊥) → (byte ≡ 34 → ⊥) → qs ++ byte ∷ a ≡ rs ++ 34 ∷ b → ⊥
no_quote [] [] byte a b p q bad other e =
    let f : byte ∷ a ≡ 34 ∷ b = e in
    let same : byte ≡ 34 = cc in
    other same
no_quote [] (r ∷ rs) byte a b p q bad other e =
    let f : byte ∷ a ≡ r ∷ (rs ++ 34 ∷ b) = e in
    let same : r ≡ byte = cc in
    bad (subst IsTextByte same (All-head IsTextByte r rs q))
no_quote (x ∷ qs) [] byte a b p q bad other e =
    let f : x ∷ (qs ++ byte ∷ a) ≡ 34 ∷ b = e in
    let same : x ≡ 34 = cc in
    (All-head IsTextByte x qs p).2 same
no_quote (x ∷ qs) (r ∷ rs) byte a b p q bad other e =
    let f : x ∷ (qs ++ byte ∷ a) ≡ r ∷ (rs ++ 34 ∷ b) = e in
    let tails : qs ++ byte ∷ a ≡ rs ++ 34 ∷ b = cc in
    no_quote qs rs byte a b (All-tail IsTextByte x qs p) (All-tail IsTextByte r rs q) bad other tails

no_end : (qs rs b : List ℕ) → All IsTextByte qs → qs ≡ rs ++ 34 ∷ b → ⊥
no_end [] [] b p e = let f : [] ≡ 34 ∷ b = e in cc
no_end [] (r ∷ rs) b p e = let f : [] ≡ r ∷ (rs ++ 34 ∷ b) = e in cc
no_end (x ∷ qs) [] b p e =
    let f : x ∷ qs ≡ 34 ∷ b = e in
    let same : x ≡ 34 = cc in
    (All-head IsTextByte x qs p).2 same
no_end (x ∷ qs) (r ∷ rs) b p e =
    let f : x ∷ qs ≡ r ∷ (rs ++ 34 ∷ b) = e in
    let tails : qs ≡ rs ++ 34 ∷ b = cc in
    no_end qs rs b (All-tail IsTextByte x qs p) tails

-- where another byte stands, or none, no text is read
pub quoted_stops : (text : List ℕ) (at end byte : ℕ) → QuotedSoFar text at end → HasByte byte text end → (IsTextByte byte → ⊥) → (byte ≡ 34 → ⊥) → (quoted : List ℕ) (next : ℕ) → ReadsQuoted text at quoted next → ⊥
quoted_stops text at end byte q here bad other quoted next r =
    no_quote q.quoted quoted byte (drop (suc end) text) (drop (suc next) text) q.bytes r.bytes bad other
    (ap (λ t. q.quoted ++ t) (sym (drop_next text end byte here)) ∙ sym q.stands.part_is ∙ r.stands.part_is ∙ ap (λ t. quoted ++ t) (drop_next text next 34 r.quote))

pub quoted_ends : (text : List ℕ) (at end : ℕ) → QuotedSoFar text at end → length text ≤ end → (quoted : List ℕ) (next : ℕ) → ReadsQuoted text at quoted next → ⊥
quoted_ends text at end q past quoted next r =
    no_end q.quoted quoted (drop (suc next) text) q.bytes
    (sym (append-nil q.quoted) ∙ ap (λ t. q.quoted ++ t) (sym (drop_all end text past)) ∙ sym q.stands.part_is ∙ r.stands.part_is ∙ ap (λ t. quoted ++ t) (drop_next text next 34 r.quote))

-- the byte at a place is the first of the rest
first_byte : (text : List ℕ) (at byte : ℕ) → HasByte byte text at → drop at text ≡ byte ∷ drop (at + 1) text
first_byte text at byte here =
    let next : suc at ≡ at + 1 = omega arith in
    drop_next text at byte here ∙ ap (λ k. byte ∷ drop k text) next

-- texts that are read at one place end at one place
quoted_once : (text : List ℕ) (at : ℕ) (quoted : List ℕ) (end : ℕ) (other : List ℕ) (last : ℕ) → ReadsQuoted text at quoted end → ReadsQuoted text at other last → end ≡ last
quoted_once text at quoted end other last a b =
    let alike = texts_alike quoted other (drop (suc end) text) (drop (suc last) text) a.bytes b.bytes
    (ap (λ t. quoted ++ t) (sym (drop_next text end 34 a.quote)) ∙ sym a.stands.part_is ∙ b.stands.part_is ∙ ap (λ t. other ++ t) (drop_next text last 34 b.quote)) in
    omega (arith, ap length alike.texts, a.stands.next_is, b.stands.next_is)

-- a text that nothing ends is none of a phrase
pub text_not_ended : (text : List ℕ) (at : ℕ) (quoted : List ℕ) (end : ℕ) → ReadsQuoted text at quoted end → (IsEnded (drop (end + 1) text) → ⊥) →
    (other : List ℕ) (last : ℕ) → ReadsText text at other last → ⊥
text_not_ended text at quoted end a never other last r =
    never (subst (λ k. IsEnded (drop (k + 1) text)) (sym (quoted_once text at quoted end other last a r.0)) r.1)

-- a text after a quote is a phrase
text_phrase : (text : List ℕ) (at : ℕ) (quoted : List ℕ) (end : ℕ) → HasByte 34 text at → ReadsText text (at + 1) quoted end → ReadsPhrase text at (Text quoted) (end + 1)
text_phrase text at quoted end here r =
    let inside = slice_get_within text end 34 r.0.quote in
    let first : drop at text ≡ 34 ∷ drop (at + 1) text = first_byte text at 34 here in
    let last : drop end text ≡ 34 ∷ drop (end + 1) text = first_byte text end 34 r.0.quote in
    record {
      is_phrase = r.0.bytes;
      stands = record {
        within = omega arith;
        next_is = omega (arith, r.0.stands.next_is, length-append quoted (34 ∷ []));
        part_is = first ∙ ap (λ t. 34 ∷ t) (r.0.stands.part_is ∙ ap (λ t. quoted ++ t) last ∙ sym (append_assoc quoted (34 ∷ []) (drop (end + 1) text)));
      };
      ended = r.1;
    }

-- and each phrase after a quote is a text
phrase_text_read : (text : List ℕ) (at : ℕ) (phrase : Phrase) (next : ℕ) → HasByte 34 text at → ReadsPhrase text at phrase next →
    (quoted : List ℕ) × (end : ℕ) × ReadsText text (at + 1) quoted end
phrase_text_read text at (Text quoted) next here r =
    let first : drop at text ≡ 34 ∷ drop (at + 1) text = first_byte text at 34 here in
    let long : length (phrase_text (Text quoted)) ≡ 2 + length quoted = omega (arith, length-append quoted (34 ∷ [])) in
    let place : at + 1 + length quoted ≡ next - 1 = omega (arith, long, r.stands.next_is) in
    let behind : next - 1 + 1 ≡ next = omega (arith, place) in
    let whole : 34 ∷ drop (at + 1) text ≡ 34 ∷ ((quoted ++ 34 ∷ []) ++ drop next text) = sym first ∙ r.stands.part_is in
    let part : drop (at + 1) text ≡ quoted ++ 34 ∷ drop next text = ap (drop 1) whole ∙ append_assoc quoted (34 ∷ []) (drop next text) in
    let s = stands_from quoted text (34 ∷ drop next text) (at + 1) (omega (arith, slice_get_within text at 34 here)) part in
    let tail : drop (next - 1) text ≡ 34 ∷ drop next text = ap (λ k. drop k text) (sym place) ∙ s.tail_is in (
      quoted,
      next - 1,
      (
        record { bytes = r.is_phrase; stands = subst (λ k. PartStands quoted text (at + 1) k) place s.stands; quote = byte_at text (next - 1) 34 (drop next text) tail },
        subst (λ k. IsEnded (drop k text)) (sym behind) r.ended,
      ),
    )
phrase_text_read text at (Number width) next here r =
    let f : ◌≡◌ {A = ℕ} 34 73 = ap (λ (xs : List ℕ). get_or xs 0 0) (sym (drop_next text at 34 here) ∙ r.stands.part_is) in
    absurd (omega arith)
phrase_text_read text at (Blanks width) next here r =
    let f : ◌≡◌ {A = ℕ} 34 88 = ap (λ (xs : List ℕ). get_or xs 0 0) (sym (drop_next text at 34 here) ∙ r.stands.part_is) in
    absurd (omega arith)

-- what is read after a quote is what is read at it
pub quoted_phrase : {E : Type 0} (text : List ℕ) (at : ℕ) (result : Result (Option (Phrase × ℕ)) E) → HasByte 34 text at →
    IfOk result (λ found. MatchOption found ((quoted : List ℕ) (end : ℕ) → ReadsText text (at + 1) quoted end → ⊥)
    (λ found. (quoted : List ℕ) × (end : ℕ) × ReadsText text (at + 1) quoted end × (found.0 ≡ Text quoted) × (found.1 ≡ end + 1))) →
    IfOk result (λ found. MatchOption found ((phrase : Phrase) (next : ℕ) → ReadsPhrase text at phrase next → ⊥) (λ found. ReadsPhrase text at found.0 found.1))
quoted_phrase text at (Err e) here h = tt
quoted_phrase text at (Ok None) here h = λ phrase next r.
    let t = phrase_text_read text at phrase next here r in
    h t.0 t.1 t.2
quoted_phrase text at (Ok (Some found)) here h =
    subst (λ p. ReadsPhrase text at p found.1) (sym h.3) (subst (λ k. ReadsPhrase text at (Text h.0) k) (sym h.4) (text_phrase text at h.0 h.1 here h.2))
