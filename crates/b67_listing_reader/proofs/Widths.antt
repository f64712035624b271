-- Numbers of 32 bits in phrases.
use Rattle.std.proofs.Common.{◌≡◌, ℕ, suc, ◌^◌, ◌<◌, ⊎_elim, inr, Option, Some, None, MatchOption, List, [], ◌∷◌, ◌++◌, drop, refl, sym, ap, arith, ◌∙◌, append_assoc}
use Rattle.std.specs.Fmt.{decimal}
use Rattle.b67_text.specs.Texts.{StopsAt}
use Rattle.b67_text.specs.declared.number.Numbers.{Numbers}
use Rattle.b67_text.specs.Numerals.{IsDigit, NumberIsIn, IsField}
use Rattle.b67_list.proofs.Lists.{drop_next}
use Rattle.b67_listing_reader.specs.Reading.{EndsPhrase, ReadsWidth, HasNoWidth, HasWidthBefore}

-- the numbers of 32 bits
abbrev pub widths : Numbers
widths = record { least = 0; most = 0xffffffff; except = None }

pub is_width : (width : ℕ) → width < 2 ^ 32 → NumberIsIn widths width
is_width width small = record { fits = omega arith; least = omega arith; most = omega arith; other = λ e. cc }

-- what ends a phrase is no digit
pub ends_no_digit : (end : ℕ) → EndsPhrase end → IsDigit end → ⊥
ends_no_digit end ends is = ⊎_elim (λ (e : end ≡ 44). omega (arith, is.0)) (λ (e : end ≡ 62). omega (arith, is.1)) ends

pub no_width : (text : List ℕ) (at end stop : ℕ) → StopsAt (IsField widths end) text at stop → HasNoWidth text at end
no_width text at end stop s width rest small e =
    s.none.none (decimal width ++ end ∷ []) rest (record { number = width; is_in = is_width width small; text_is = refl }) (append_assoc (decimal width) (end ∷ []) rest ∙ sym e)

pub reads_width : (text : List ℕ) (at end width next : ℕ) → EndsPhrase end → HasWidthBefore text at end width next → ReadsWidth text at width next
reads_width text at end width next ends h = record { fits = h.fits; stands = h.stands; ended = record { byte = end; more = drop (suc next) text; ends = ends; rest_is = drop_next text next end h.ended } }

pub reads_none : (text : List ℕ) (at : ℕ) → HasNoWidth text at 44 → HasNoWidth text at 62 → (width next : ℕ) → ReadsWidth text at width next → ⊥
reads_none text at comma bracket width next r =
    let e = r.ended in
    let whole : drop at text ≡ decimal width ++ e.byte ∷ e.more = r.stands.part_is ∙ ap (λ t. decimal width ++ t) e.rest_is in
    ⊎_elim (λ (h : e.byte ≡ 44). comma width e.more r.fits (whole ∙ ap (λ b. decimal width ++ b ∷ e.more) h))
    (λ (h : e.byte ≡ 62). bracket width e.more r.fits (whole ∙ ap (λ b. decimal width ++ b ∷ e.more) h)) e.ends

-- where no comma ends a number, the bracket does, or nothing
pub width_or_none : (text : List ℕ) (at : ℕ) (found : Option (ℕ × ℕ)) → HasNoWidth text at 44 →
    MatchOption found (HasNoWidth text at 62) (λ found. HasWidthBefore text at 62 found.0 found.1) →
    MatchOption found ((width next : ℕ) → ReadsWidth text at width next → ⊥) (λ found. ReadsWidth text at found.0 found.1)
width_or_none text at None comma h = reads_none text at comma h
width_or_none text at (Some found) comma h = reads_width text at 62 found.0 found.1 (inr refl) h
