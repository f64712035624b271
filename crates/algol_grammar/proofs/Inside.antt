-- A step within an expression that stands in no other, by the same step outside of one.
use Rattle.std.proofs.Common.{◌≡◌, ◌+◌, ℕ, nat_le, Bool, true, false, ◌&&◌, List, [], ◌∷◌, ◌++◌, refl}
use Rattle.algol_tree.specs.declared.TheConstants.{MOST_NESTING}
use Rattle.algol_tree.specs.declared.token.Spot.{Spot}
use Rattle.algol_tree.specs.declared.token.TokenKind.{TokenKind}
use Rattle.algol_tree.specs.Due.{Value, Due, plain, nests, Turn, takes, makes, skips, closes, refuses}
use Rattle.algol_tree.specs.Reading.{reading_turn, outside, inside, full, Judged, ReadingStep, goes, over, stops, unless, stepped, step}
use Rattle.algol_expr.proofs.Inner.{Inners, Stays, inner_stays}

-- one token more is counted, where there is room for it
abbrev pub counting : Judged → ℕ → Spot → ReadingStep → ReadingStep
counting j c here (goes n ds us) = unless (full (inside c) && j.here) here (goes (inside (c + 1)) ds us)
counting j c here (over n us) = over (inside c) us
counting j c here (stops spot code) = stops spot code

unless_counting : (f b : Bool) (j : Judged) (c : ℕ) (here : Spot) (ds : List Due) (us : List Value) → (full (inside c) && j.here) ≡ f →
    unless f here (unless b here (goes (inside (c + 1)) ds us)) ≡ counting j c here (unless b here (goes outside ds us))
unless_counting true true j c here ds us e = refl
unless_counting false true j c here ds us e = refl
unless_counting true false j c here ds us e = rw e refl
unless_counting false false j c here ds us e = rw e refl

pub step_inside : (j : Judged) (c : ℕ) (due : List Due) (here : Spot) (k : TokenKind) (vs : List Value) → Inners due →
    step j due here k (inside c) vs ≡ counting j c here (step j due here k outside vs)
step_inside j c [] here k vs i = refl
step_inside j c (s ∷ due) here k vs i = by_turn (reading_turn s here k) (inner_stays s here k i.0) (λ vs. step_inside j c due here k vs i.1)
  where
    by_turn : (x : Turn) → Stays x → ((vs : List Value) → step j due here k (inside c) vs ≡ counting j c here (step j due here k outside vs)) →
        stepped j (inside c) here x due vs (step j due here k) ≡ counting j c here (stepped j outside here x due vs (step j due here k))
    by_turn (takes plain es) st again = refl
    by_turn (takes (nests d) es) st again = unless_counting (full (inside c) && j.here) (nat_le MOST_NESTING d && j.here) j c here (es ++ due) vs refl
    by_turn (takes l es) st again = absurd st
    by_turn (makes m) st again = again (m vs)
    by_turn skips st again = again vs
    by_turn closes st again = absurd st
    by_turn refuses st again = refl
