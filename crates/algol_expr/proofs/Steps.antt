-- Steps over what is due of an expression, where none is being read that stands in no other.
use Rattle.std.proofs.Common.{◌≡◌, ◌≤◌, ◌+◌, ℕ, nat_le, nat_lt, Bool, true, false, ◌&&◌, List, [], ◌∷◌, ◌++◌, length, refl, subst, ap, ◌∙◌, inl, inr, arith}
use Rattle.std.proofs.lemmas.Bool.Decides.{nat_tests}
use Rattle.algol_tree.specs.declared.TheConstants.{MOST_NESTING}
use Rattle.algol_tree.specs.declared.token.Spot.{Spot}
use Rattle.algol_tree.specs.declared.token.Token.{Token}
use Rattle.algol_tree.specs.declared.token.TokenKind.{TokenKind}
use Rattle.algol_tree.specs.declared.refusal.Code.{Code}
use Rattle.algol_tree.specs.declared.refusal.Code.TheVariants as codes
use Rattle.algol_tree.specs.Expressions.{TokenOpens}
use Rattle.algol_tree.specs.Due.{Value, Due, plain, nests, Turn, takes, makes, skips, closes, refuses}
use Rattle.algol_tree.specs.Reading.{reading_turn, Count, outside, Judged, ReadingStep, goes, over, stops, unless, stepped, step, judged}
use Rattle.algol_expr.proofs.Inner.{Inners, inners_append, Stays, inner_stays}

-- all limits are kept
abbrev pub strict : Judged
strict = record { here = true; before = true }

pub judged_strict : (free : ℕ) (t : Token) (ts : List Token) → free ≤ length ts → judged free (t ∷ ts) ≡ strict
judged_strict free t ts le =
    let here : nat_lt free (length (t ∷ ts)) ≡ true = grind (arith, nat_tests) in
    let before : nat_lt free (length (t ∷ ts) + 1) ≡ true = grind (arith, nat_tests) in
    rw (here, before) refl

pub to_opens : (free d : ℕ) (ts : List Token) → (nat_le MOST_NESTING d && (judged free ts).here) ≡ false → TokenOpens free d ts
to_opens free d ts e = by_test (nat_le MOST_NESTING d) (nat_lt free (length ts)) refl refl e
  where
    by_test : (a b : Bool) → nat_le MOST_NESTING d ≡ a → nat_lt free (length ts) ≡ b → (a && b) ≡ false → TokenOpens free d ts
    by_test true true p q e = cc
    by_test true false p q e = inr (grind (arith, nat_tests))
    by_test false b p q e = inl (grind (arith, nat_tests))

pub unless_goes : (b : Bool) (spot : Spot) (x : ReadingStep) (c : Count) (ds : List Due) (us : List Value) → unless b spot x ≡ goes c ds us → (b ≡ false) × (x ≡ goes c ds us)
unless_goes true spot x c ds us e = cc
unless_goes false spot x c ds us e = (refl, e)

pub unless_over : (b : Bool) (spot : Spot) (a c : Count) (ds : List Due) (us vs : List Value) → unless b spot (goes a ds us) ≡ over c vs → ⊥
unless_over true spot a c ds us vs e = cc
unless_over false spot a c ds us vs e = cc

pub goes_is : (a c : Count) (ds es : List Due) (us vs : List Value) → goes a ds us ≡ goes c es vs → (a ≡ c) × (ds ≡ es) × (us ≡ vs)
goes_is a c ds es us vs e = (cc, cc, cc)

-- what follows an inner step is inner, and nothing is counted
pub inner_goes : (j : Judged) (due : List Due) (spot : Spot) (k : TokenKind) (vs : List Value) (c : Count) (ds : List Due) (us : List Value) → Inners due →
    step j due spot k outside vs ≡ goes c ds us → (outside ≡ c) × Inners ds
inner_goes j [] spot k vs c ds us i e = cc
inner_goes j (s ∷ due) spot k vs c ds us i e = by_turn (reading_turn s spot k) (inner_stays s spot k i.0) e (λ vs e. inner_goes j due spot k vs c ds us i.1 e)
  where
    by_turn : (x : Turn) → Stays x → stepped j outside spot x due vs (step j due spot k) ≡ goes c ds us →
        ((vs : List Value) → step j due spot k outside vs ≡ goes c ds us → (outside ≡ c) × Inners ds) → (outside ≡ c) × Inners ds
    by_turn (takes plain es) st e again = let p = goes_is outside c (es ++ due) ds vs us e in (p.0, subst Inners p.1 (inners_append es due st i.1))
    by_turn (takes (nests d) es) st e again =
        let q = unless_goes (nat_le MOST_NESTING d && j.here) spot (goes outside (es ++ due) vs) c ds us e in
        let p = goes_is outside c (es ++ due) ds vs us q.1 in (p.0, subst Inners p.1 (inners_append es due st i.1))
    by_turn (takes l es) st e again = absurd st
    by_turn (makes m) st e again = again (m vs) e
    by_turn skips st e again = again vs e
    by_turn closes st e again = absurd st
    by_turn refuses st e again = cc

pub inner_over : (j : Judged) (due : List Due) (spot : Spot) (k : TokenKind) (vs : List Value) (c : Count) (us : List Value) → Inners due →
    step j due spot k outside vs ≡ over c us → outside ≡ c
inner_over j [] spot k vs c us i e = cc
inner_over j (s ∷ due) spot k vs c us i e = by_turn (reading_turn s spot k) (inner_stays s spot k i.0) e (λ vs e. inner_over j due spot k vs c us i.1 e)
  where
    by_turn : (x : Turn) → Stays x → stepped j outside spot x due vs (step j due spot k) ≡ over c us →
        ((vs : List Value) → step j due spot k outside vs ≡ over c us → outside ≡ c) → outside ≡ c
    by_turn (takes plain es) st e again = cc
    by_turn (takes (nests d) es) st e again = absurd (unless_over (nat_le MOST_NESTING d && j.here) spot outside c (es ++ due) vs us e)
    by_turn (takes l es) st e again = absurd st
    by_turn (makes m) st e again = again (m vs) e
    by_turn skips st e again = again vs e
    by_turn closes st e again = absurd st
    by_turn refuses st e again = cc

-- where all limits are kept, any are

unless_any : (a b : Bool) (spot : Spot) (x : ReadingStep) (c : Count) (ds : List Due) (us : List Value) → unless (a && true) spot x ≡ goes c ds us → unless (a && b) spot x ≡ goes c ds us
unless_any true b spot x c ds us e = cc
unless_any false b spot x c ds us e = e

pub step_any : (j : Judged) (due : List Due) (spot : Spot) (k : TokenKind) (vs : List Value) (c : Count) (ds : List Due) (us : List Value) → Inners due →
    step strict due spot k outside vs ≡ goes c ds us → step j due spot k outside vs ≡ goes c ds us
step_any j [] spot k vs c ds us i e = cc
step_any j (s ∷ due) spot k vs c ds us i e = by_turn (reading_turn s spot k) (inner_stays s spot k i.0) e (λ vs e. step_any j due spot k vs c ds us i.1 e)
  where
    by_turn : (x : Turn) → Stays x → stepped strict outside spot x due vs (step strict due spot k) ≡ goes c ds us →
        ((vs : List Value) → step strict due spot k outside vs ≡ goes c ds us → step j due spot k outside vs ≡ goes c ds us) →
        stepped j outside spot x due vs (step j due spot k) ≡ goes c ds us
    by_turn (takes plain es) st e again = e
    by_turn (takes (nests d) es) st e again = unless_any (nat_le MOST_NESTING d) j.here spot (goes outside (es ++ due) vs) c ds us e
    by_turn (takes l es) st e again = absurd st
    by_turn (makes m) st e again = again (m vs) e
    by_turn skips st e again = again vs e
    by_turn closes st e again = absurd st
    by_turn refuses st e again = cc

unless_stop : (a b : Bool) (here spot : Spot) (c : Count) (ds : List Due) (us : List Value) →
    unless (a && true) here (goes c ds us) ≡ stops spot codes.Unexpected → unless (a && b) here (goes c ds us) ≡ stops spot codes.Unexpected
unless_stop true b here spot c ds us e = cc
unless_stop false b here spot c ds us e = cc

-- and what nothing goes through is so whatever the limits
pub stop_any : (j : Judged) (due : List Due) (here : Spot) (k : TokenKind) (vs : List Value) (spot : Spot) → Inners due →
    step strict due here k outside vs ≡ stops spot codes.Unexpected → step j due here k outside vs ≡ stops spot codes.Unexpected
stop_any j [] here k vs spot i e = cc
stop_any j (s ∷ due) here k vs spot i e = by_turn (reading_turn s here k) (inner_stays s here k i.0) e (λ vs e. stop_any j due here k vs spot i.1 e)
  where
    by_turn : (x : Turn) → Stays x → stepped strict outside here x due vs (step strict due here k) ≡ stops spot codes.Unexpected →
        ((vs : List Value) → step strict due here k outside vs ≡ stops spot codes.Unexpected → step j due here k outside vs ≡ stops spot codes.Unexpected) →
        stepped j outside here x due vs (step j due here k) ≡ stops spot codes.Unexpected
    by_turn (takes plain es) st e again = cc
    by_turn (takes (nests d) es) st e again = unless_stop (nat_le MOST_NESTING d) j.here here spot outside (es ++ due) vs e
    by_turn (takes l es) st e again = absurd st
    by_turn (makes m) st e again = again (m vs) e
    by_turn skips st e again = again vs e
    by_turn closes st e again = absurd st
    by_turn refuses st e again = e

unless_no_over : (a b : Bool) (here : Spot) (c n : Count) (ds : List Due) (us vs : List Value) →
    unless (a && true) here (goes c ds us) ≡ over n vs → unless (a && b) here (goes c ds us) ≡ over n vs
unless_no_over true b here c n ds us vs e = cc
unless_no_over false b here c n ds us vs e = cc

pub over_any : (j : Judged) (due : List Due) (here : Spot) (k : TokenKind) (vs : List Value) (c : Count) (ws : List Value) → Inners due →
    step strict due here k outside vs ≡ over c ws → step j due here k outside vs ≡ over c ws
over_any j [] here k vs c ws i e = e
over_any j (s ∷ due) here k vs c ws i e = by_turn (reading_turn s here k) (inner_stays s here k i.0) e (λ vs e. over_any j due here k vs c ws i.1 e)
  where
    by_turn : (x : Turn) → Stays x → stepped strict outside here x due vs (step strict due here k) ≡ over c ws →
        ((vs : List Value) → step strict due here k outside vs ≡ over c ws → step j due here k outside vs ≡ over c ws) →
        stepped j outside here x due vs (step j due here k) ≡ over c ws
    by_turn (takes plain es) st e again = cc
    by_turn (takes (nests d) es) st e again = unless_no_over (nat_le MOST_NESTING d) j.here here outside c (es ++ due) vs ws e
    by_turn (takes l es) st e again = absurd st
    by_turn (makes m) st e again = again (m vs) e
    by_turn skips st e again = again vs e
    by_turn closes st e again = absurd st
    by_turn refuses st e again = cc

-- a token that opens a level too much would be gone over but for the limit
pub record WouldGo (due : List Due) (spot : Spot) (k : TokenKind) (vs : List Value) : Type 0 where
  pub ds : List Due
  pub us : List Value
  pub so : (j : Judged) → j.here ≡ false → step j due spot k outside vs ≡ goes outside ds us

unless_would : (a b : Bool) (here spot : Spot) (x : ReadingStep) → b ≡ false → unless (a && true) here x ≡ stops spot codes.TooDeep → unless (a && b) here x ≡ x
unless_would true true here spot x f e = cc
unless_would true false here spot x f e = refl
unless_would false b here spot x f e = refl

pub would_go : (due : List Due) (here : Spot) (k : TokenKind) (vs : List Value) (spot : Spot) → Inners due →
    step strict due here k outside vs ≡ stops spot codes.TooDeep → WouldGo due here k vs
would_go [] here k vs spot i e = cc
would_go (s ∷ due) here k vs spot i e = by_turn (reading_turn s here k) refl (inner_stays s here k i.0) e (λ vs e. would_go due here k vs spot i.1 e)
  where
    by_turn : (x : Turn) → reading_turn s here k ≡ x → Stays x → stepped strict outside here x due vs (step strict due here k) ≡ stops spot codes.TooDeep →
        ((vs : List Value) → step strict due here k outside vs ≡ stops spot codes.TooDeep → WouldGo due here k vs) → WouldGo (s ∷ due) here k vs
    by_turn (takes plain es) is st e again = cc
    by_turn (takes (nests d) es) is st e again = record {
      ds = es ++ due;
      us = vs;
      so = λ j f. ap (λ x. stepped j outside here x due vs (step j due here k)) is
          ∙ unless_would (nat_le MOST_NESTING d) j.here here spot (goes outside (es ++ due) vs) f e;
    }
    by_turn (takes l es) is st e again = absurd st
    by_turn (makes m) is st e again =
        let r = again (m vs) e in record { ds = r.ds; us = r.us; so = λ j f. ap (λ x. stepped j outside here x due vs (step j due here k)) is ∙ r.so j f }
    by_turn skips is st e again =
        let r = again vs e in record { ds = r.ds; us = r.us; so = λ j f. ap (λ x. stepped j outside here x due vs (step j due here k)) is ∙ r.so j f }
    by_turn closes is st e again = absurd st
    by_turn refuses is st e again = cc

-- a step stops at its own token with one of two codes
pub data IsCode : Code → Type 0 where
  unexpected : IsCode codes.Unexpected
  too_deep : IsCode codes.TooDeep

unless_code : (a : Bool) (here spot : Spot) (c : Count) (ds : List Due) (us : List Value) (code : Code) → unless a here (goes c ds us) ≡ stops spot code →
    (here ≡ spot) × IsCode code
unless_code true here spot c ds us code e = let p : (here ≡ spot) × (codes.TooDeep ≡ code) = (cc, cc) in (p.0, subst IsCode p.1 too_deep)
unless_code false here spot c ds us code e = cc

pub step_code : (j : Judged) (due : List Due) (here : Spot) (k : TokenKind) (vs : List Value) (spot : Spot) (code : Code) → Inners due →
    step j due here k outside vs ≡ stops spot code → (here ≡ spot) × IsCode code
step_code j [] here k vs spot code i e = cc
step_code j (s ∷ due) here k vs spot code i e = by_turn (reading_turn s here k) (inner_stays s here k i.0) e (λ vs e. step_code j due here k vs spot code i.1 e)
  where
    by_turn : (x : Turn) → Stays x → stepped j outside here x due vs (step j due here k) ≡ stops spot code →
        ((vs : List Value) → step j due here k outside vs ≡ stops spot code → (here ≡ spot) × IsCode code) → (here ≡ spot) × IsCode code
    by_turn (takes plain es) st e again = cc
    by_turn (takes (nests d) es) st e again = unless_code (nat_le MOST_NESTING d && j.here) here spot outside (es ++ due) vs code e
    by_turn (takes l es) st e again = absurd st
    by_turn (makes m) st e again = again (m vs) e
    by_turn skips st e again = again vs e
    by_turn closes st e again = absurd st
    by_turn refuses st e again = let p : (here ≡ spot) × (codes.Unexpected ≡ code) = (cc, cc) in (p.0, subst IsCode p.1 unexpected)
