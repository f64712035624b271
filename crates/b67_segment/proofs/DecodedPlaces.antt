-- The operators of a segment, decoded place by place.
use Rattle.std.proofs.Common.{◌≡◌, refl, sym, ap, ◌∙◌, ℕ, zero, suc, ◌*◌, ◌<◌, ◌≤◌, List, [], ◌∷◌, ◌++◌, length, Option, Some, None, length-append, ⊎_elim, arith}
use Rattle.std.specs.Prelude.{slice_get, MatchOption}
use Rattle.std.proofs.Math.Nat.{eq-or-lt_of_le}
use Rattle.std.proofs.lemmas.Bool.{cases_lt}
use Rattle.b67_ops.specs.declared.Operator.{Operator}
use Rattle.b67_segment.specs.declared.code.Segment.{Segment}
use Rattle.b67_segment.specs.declared.code.Code.{Code}
use Rattle.b67_segment.specs.Fetching.{IsPast}
use Rattle.b67_segment.specs.Decoded.{if_good, found, at_place, AreDecoded}
use Rattle.b67_segment.proofs.Fetches.{fetched_past}

abbrev pub Places : Type 0
Places = List (Option (Operator × ℕ))

-- so far
abbrev pub AreBegun : Code → ℕ → ℕ → Places → Type 0
AreBegun code segment level places = (place : ℕ) → place < length places → at_place places place ≡ found code segment level place

pub at_front : (places more : Places) (place : ℕ) → place < length places → at_place (places ++ more) place ≡ at_place places place
at_front [] more place h = absurd (omega (arith, h))
at_front (p ∷ places) more zero h = refl
at_front (p ∷ places) more (suc place) h = at_front places more place (omega (arith, h))

pub at_seam : (places : Places) (p : Option (Operator × ℕ)) → at_place (places ++ p ∷ []) (length places) ≡ p
at_seam [] None = refl
at_seam [] (Some p) = refl
at_seam (q ∷ places) p = at_seam places p

pub at_past : (places : Places) (place : ℕ) → length places ≤ place → at_place places place ≡ None
at_past [] place h = refl
at_past (p ∷ places) zero h = absurd (omega (arith, h))
at_past (p ∷ places) (suc place) h = at_past places place (omega (arith, h))

pub begun_more : (code : Code) (segment level : ℕ) (places : Places) (p : Option (Operator × ℕ)) → AreBegun code segment level places
    → p ≡ found code segment level (length places) → AreBegun code segment level (places ++ p ∷ [])
begun_more code segment level places p are e place h =
    let within : place ≤ length places = omega (arith, h, length-append places (p ∷ [])) in
    ⊎_elim last (λ (l : place < length places). at_front places (p ∷ []) place l ∙ are place l) (eq-or-lt_of_le within)
  where
    last : place ≡ length places → at_place (places ++ p ∷ []) place ≡ found code segment level place
    last i =
        ap (λ n. at_place (places ++ p ∷ []) n) i ∙ at_seam places p ∙ e ∙ ap (λ n. found code segment level n) (sym i)

past_further : (n place : ℕ) (s : Option Segment) → MatchOption s (Unit {0}) (λ t. 6 * length t.words ≤ n)
    → n ≤ place → MatchOption s (Unit {0}) (λ t. 6 * length t.words ≤ place)
past_further n place None h l = tt
past_further n place (Some t) h l = omega (arith, h, l)

pub begun_whole : (code : Code) (segment level : ℕ) (places : Places) → AreBegun code segment level places
    → IsPast code (record { segment = segment; place = length places }) → AreDecoded code segment level places
begun_whole code segment level places are past place =
    ⊎_elim (λ (l : place < length places). are place l)
    (λ (l : length places ≤ place). at_past places place l ∙ sym (ap if_good (fetched_past code (record { segment = segment; place = place }) level
    (past_further (length places) place (slice_get code.segments segment) past l))))
    (cases_lt place (length places))
