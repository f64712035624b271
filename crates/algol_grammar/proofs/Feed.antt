-- Tokens that are gone over, and where a text is refused.
use Rattle.std.proofs.Common.{◌≡◌, ◌≤◌, ℕ, Bool, true, false, ◌&&◌, List, [], ◌∷◌, ◌++◌, length, length-append, refl, sym, subst, ap, ◌∙◌, arith}
use Rattle.algol_tree.specs.declared.token.Spot.{Spot}
use Rattle.algol_tree.specs.declared.token.Token.{Token}
use Rattle.algol_tree.specs.declared.token.TokenKind.{TokenKind}
use Rattle.algol_tree.specs.declared.token.TokenKind.TheVariants as kinds
use Rattle.algol_tree.specs.declared.refusal.Code.{Code}
use Rattle.algol_tree.specs.declared.refusal.Code.TheVariants as codes
use Rattle.algol_tree.specs.Due.{Value, Due, Limit, plain, nests, label, begun, Turn, takes, makes, skips, closes, refuses}
use Rattle.algol_tree.specs.Reading.{reading_turn, Count, outside, full, limit_counted, Judged, limit_broken, broken_at, ReadingStep, goes, over, stops, unless, stepped, step, refused, read_on, read_end, judged, unjudged, nowhere, reading}
use Rattle.algol_expr.proofs.Steps.{strict, judged_strict, unless_goes}
use Rattle.algol_grammar.proofs.Places.{Place, count, stack, Placed, Fits, IsFrom, Next}
use Rattle.algol_grammar.proofs.Sound.{place_next}

-- what keeps all limits keeps any

looser : (a b : Bool) → (a && true) ≡ false → (a && b) ≡ false
looser true b e = cc
looser false b e = refl

broken_any : (l : Limit) (j : Judged) → limit_broken l strict ≡ false → limit_broken l j ≡ false
broken_any plain j e = refl
broken_any (nests d) j e = looser _ j.here e
broken_any (label d spot) j e = looser _ j.before e
broken_any (begun l) j e = broken_any l j e

pub step_any : (j : Judged) (due : List Due) (spot : Spot) (k : TokenKind) (c : Count) (vs : List Value) (n : Count) (ds : List Due) (us : List Value) →
    step strict due spot k c vs ≡ goes n ds us → step j due spot k c vs ≡ goes n ds us
step_any j [] spot k c vs n ds us e = cc
step_any j (s ∷ due) spot k c vs n ds us e = by_turn (reading_turn s spot k) e (λ c vs e. step_any j due spot k c vs n ds us e)
  where
    by_turn : (x : Turn) → stepped strict c spot x due vs (step strict due spot k) ≡ goes n ds us →
        ((c : Count) (vs : List Value) → step strict due spot k c vs ≡ goes n ds us → step j due spot k c vs ≡ goes n ds us) →
        stepped j c spot x due vs (step j due spot k) ≡ goes n ds us
    by_turn (takes l es) e again =
        let p = unless_goes (full c && true) spot (unless (limit_broken l strict) (broken_at l spot) (goes (limit_counted l c) (es ++ due) vs)) n ds us e in
        let q = unless_goes (limit_broken l strict) (broken_at l spot) (goes (limit_counted l c) (es ++ due) vs) n ds us p.1 in
        rw (looser (full c) j.here p.0, broken_any l j q.0) q.1
    by_turn (makes m) e again = again c (m vs) e
    by_turn skips e again = again c vs e
    by_turn closes e again = again outside vs e
    by_turn refuses e again = cc

pub unless_not : (a b : Bool) (here at spot : Spot) (n : Count) (ds : List Due) (us : List Value) → unless a here (unless b at (goes n ds us)) ≡ stops spot codes.Unexpected → ⊥
unless_not true b here at spot n ds us e = cc
unless_not false true here at spot n ds us e = cc
unless_not false false here at spot n ds us e = cc

pub stop_any : (j : Judged) (due : List Due) (here : Spot) (k : TokenKind) (c : Count) (vs : List Value) (spot : Spot) →
    step strict due here k c vs ≡ stops spot codes.Unexpected → step j due here k c vs ≡ stops spot codes.Unexpected
stop_any j [] here k c vs spot e = cc
stop_any j (s ∷ due) here k c vs spot e = by_turn (reading_turn s here k) e (λ c vs e. stop_any j due here k c vs spot e)
  where
    by_turn : (x : Turn) → stepped strict c here x due vs (step strict due here k) ≡ stops spot codes.Unexpected →
        ((c : Count) (vs : List Value) → step strict due here k c vs ≡ stops spot codes.Unexpected → step j due here k c vs ≡ stops spot codes.Unexpected) →
        stepped j c here x due vs (step j due here k) ≡ stops spot codes.Unexpected
    by_turn (takes l es) e again = absurd (unless_not (full c && true) (limit_broken l strict) here (broken_at l here) spot (limit_counted l c) (es ++ due) vs e)
    by_turn (makes m) e again = again c (m vs) e
    by_turn skips e again = again c vs e
    by_turn closes e again = again outside vs e
    by_turn refuses e again = e

-- it stops so at its own token
pub stops_here : (j : Judged) (due : List Due) (here : Spot) (k : TokenKind) (c : Count) (vs : List Value) (spot : Spot) →
    step j due here k c vs ≡ stops spot codes.Unexpected → spot ≡ here
stops_here j [] here k c vs spot e = cc
stops_here j (s ∷ due) here k c vs spot e = by_turn (reading_turn s here k) e (λ c vs e. stops_here j due here k c vs spot e)
  where
    by_turn : (x : Turn) → stepped j c here x due vs (step j due here k) ≡ stops spot codes.Unexpected →
        ((c : Count) (vs : List Value) → step j due here k c vs ≡ stops spot codes.Unexpected → spot ≡ here) → spot ≡ here
    by_turn (takes l es) e again = absurd (unless_not (full c && j.here) (limit_broken l j) here (broken_at l here) spot (limit_counted l c) (es ++ due) vs e)
    by_turn (makes m) e again = again c (m vs) e
    by_turn skips e again = again c vs e
    by_turn closes e again = again outside vs e
    by_turn refuses e again = cc

-- tokens that are gone over, all limits being kept by all of them
pub data Fed : Place → List Value → List Token → Place → List Value → Type 0 where
  nothing_fed : (p : Place) (vs : List Value) → Fed p vs [] p vs
  fed : (p : Place) (t : Token) (vs xs us : List Value) (c : Count) (ds : List Due) (front : List Token) (q : Place) (n : Next strict p t vs c ds xs) →
      step strict (stack p) t.spot t.kind (count p) vs ≡ goes c ds xs → Fed n.q xs front q us → Fed p vs (t ∷ front) q us

pub fed_placed : (p q : Place) (vs us : List Value) (front : List Token) → Placed p → Fed p vs front q us → Placed q
fed_placed _ _ _ _ _ i (nothing_fed p vs) = i
fed_placed _ _ _ _ _ i (fed p t vs xs us c ds front q n e f) = fed_placed n.q q xs us front n.placed f

-- reading goes on from there with any limit, whatever follows
pub fed_any : (free : ℕ) (p q : Place) (vs us : List Value) (front rest : List Token) → Fed p vs front q us →
    reading free (front ++ rest) (count p) (stack p) vs ≡ reading free rest (count q) (stack q) us
unfolding reading
fed_any free _ _ _ _ _ rest (nothing_fed p vs) = refl
fed_any free _ _ _ _ _ rest (fed p t vs xs us c ds front q n e f) =
    ap (λ x. read_on x t (front ++ rest) (reading free (front ++ rest))) (step_any (judged free (t ∷ (front ++ rest))) (stack p) t.spot t.kind (count p) vs c ds xs e)
    ∙ ap (λ c. reading free (front ++ rest) c ds xs) n.count_is ∙ ap (λ ds. reading free (front ++ rest) (count n.q) ds xs) n.stack_is
    ∙ fed_any free n.q q xs us front rest f

-- and backwards
pub fed_back : (free : ℕ) (p q : Place) (vs us : List Value) (front more : List Token) → Fed p vs front q us → free ≤ length more → Fits free p (front ++ more) →
    Fits free q more × ((ws : List Value) (rest : List Token) → IsFrom free q us more ws rest → IsFrom free p vs (front ++ more) ws rest)
fed_back free _ _ _ _ _ more (nothing_fed p vs) le k = (k, λ ws rest x. x)
fed_back free _ _ _ _ _ more (fed p t vs xs us c ds front q n e f) le k =
    let longer : free ≤ length (front ++ more) = grind (arith, length-append) in
    let j = judged_strict free t (front ++ more) longer in
    let r = fed_back free n.q q xs us front more f le (n.fits free (front ++ more) j k) in
    (r.0, λ ws rest x. n.back free (front ++ more) j k ws rest (r.1 ws rest x))

-- where a text is refused
pub record RefusedAt (p : Place) (vs : List Value) (ts : List Token) (left : ℕ) (spot : Spot) (code : Code) : Type 0 where
  pub front : List Token
  pub t : Token
  pub rest : List Token
  pub q : Place
  pub us : List Value
  pub is : ts ≡ front ++ t ∷ rest
  pub at_left : left ≡ length (t ∷ rest)
  pub fed_so : Fed p vs front q us
  pub stops_so : step strict (stack q) t.spot t.kind (count q) us ≡ stops spot code

pub refused_at : (ts : List Token) (p : Place) (vs : List Value) (left : ℕ) (spot : Spot) (code : Code) → Placed p → reading 0 ts (count p) (stack p) vs ≡ refused left spot code →
    RefusedAt p vs ts left spot code
unfolding reading
refused_at [] p vs left spot code i e = at_end (step unjudged (stack p) nowhere kinds.End (count p) vs) e
  where
    at_end : (x : ReadingStep) → read_end x ≡ refused left spot code → RefusedAt p vs [] left spot code
    at_end (goes c ds us) e = cc
    at_end (over c us) e = cc
    at_end (stops place c) e = cc
refused_at (t ∷ ts) p vs left spot code i e = at_token (step strict (stack p) t.spot t.kind (count p) vs) refl
    (subst (λ j. read_on (step j (stack p) t.spot t.kind (count p) vs) t ts (reading 0 ts) ≡ refused left spot code) (judged_strict 0 t ts (omega arith)) e)
    (λ q us i e. refused_at ts q us left spot code i e)
  where
    at_token : (x : ReadingStep) → step strict (stack p) t.spot t.kind (count p) vs ≡ x → read_on x t ts (reading 0 ts) ≡ refused left spot code →
        ((q : Place) (us : List Value) → Placed q → reading 0 ts (count q) (stack q) us ≡ refused left spot code → RefusedAt q us ts left spot code) →
        RefusedAt p vs (t ∷ ts) left spot code
    at_token (goes c ds us) is e more =
        let n = place_next strict p t vs c ds us i is in
        let r = more n.q us n.placed (subst (λ ds. reading 0 ts (count n.q) ds us ≡ refused left spot code) n.stack_is
        (subst (λ c. reading 0 ts c ds us ≡ refused left spot code) n.count_is e)) in
        record {
          front = t ∷ r.front;
          t = r.t;
          rest = r.rest;
          q = r.q;
          us = r.us;
          is = ap (λ x. t ∷ x) {y = r.front ++ r.t ∷ r.rest} r.is;
          at_left = r.at_left;
          fed_so = fed p t vs us r.us c ds r.front r.q n is r.fed_so;
          stops_so = r.stops_so;
        }
    at_token (over c us) is e more = cc
    at_token (stops place c) is e more =
        let q : (length (t ∷ ts) ≡ left) × (place ≡ spot) × (c ≡ code) = (cc, cc, cc) in
        record {
          front = [];
          t = t;
          rest = ts;
          q = p;
          us = vs;
          is = refl;
          at_left = sym q.0;
          fed_so = nothing_fed p vs;
          stops_so = is ∙ ap (λ x. stops x c) q.1 ∙ ap (stops spot) q.2;
        }
