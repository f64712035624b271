-- An expression that stands in no other is read as one is, and its tokens are counted.
use Rattle.std.proofs.Common.{◌≡◌, ◌⊎◌, ◌≤◌, ◌<◌, ◌+◌, ℕ, nat_le, Bool, true, false, ◌&&◌, List, [], ◌∷◌, ◌++◌, length, length-append, refl, sym, subst, ap, ◌∙◌, inl, inr, append_assoc, arith}
use Rattle.std.proofs.lemmas.Bool.Decides.{nat_tests}
use Rattle.algol_tree.specs.declared.TheConstants.{MOST_NESTING, MOST_EXPRESSION_TOKENS}
use Rattle.algol_tree.specs.declared.token.Spot.{Spot}
use Rattle.algol_tree.specs.declared.token.Token.{Token}
use Rattle.algol_tree.specs.declared.token.TokenKind.{TokenKind}
use Rattle.algol_tree.specs.declared.token.TokenKind.TheVariants as kinds
use Rattle.algol_tree.specs.declared.refusal.Code.{Code}
use Rattle.algol_tree.specs.declared.refusal.Code.TheVariants as codes
use Rattle.std.proofs.lemmas.List.{append-nil}
use Rattle.algol_tree.specs.Operators.{expr}
use Rattle.algol_tree.specs.Expressions.{IsShortExpression}
use Rattle.algol_tree.specs.Due.{Value, Due, part, whole, whole_ends, plain, nests, label, begun, Turn, takes, makes, skips, closes, refuses, followed, begins}
use Rattle.algol_tree.specs.DueExpr.{turn_expr}
use Rattle.algol_tree.specs.Reading.{reading_turn, Count, outside, inside, full, Judged, ReadingStep, goes, over, stops, unless, stepped, step, to, refused, read_on, read_end, judged, unjudged, nowhere, reading, read}
use Rattle.algol_expr.proofs.Reading.{Takes, taken, refused_, joined, step_append}
use Rattle.algol_expr.proofs.Sound.{part_takes}
use Rattle.algol_expr.proofs.Exact.{IsLater}
use Rattle.algol_expr.proofs.Inner.{Inners, Stays, inner_stays}
use Rattle.algol_expr.proofs.Steps.{goes_is, inner_goes}

-- A step that goes on outside, goes on inside where the count is not full, and one more is counted.
unless_in : (b : Bool) (here : Spot) (c : ℕ) (a n : Count) (es ds : List Due) (vs us : List Value) → unless b here (goes a es vs) ≡ goes n ds us →
    unless b here (goes (inside c) es vs) ≡ goes (inside c) ds us
unless_in true here c a n es ds vs us e = cc
unless_in false here c a n es ds vs us e = let p = goes_is a n es ds vs us e in cc

goes_inside : (j : Judged) (c : ℕ) (due : List Due) (here : Spot) (k : TokenKind) (vs : List Value) (n : Count) (ds : List Due) (us : List Value) → Inners due →
    (full (inside c) && j.here) ≡ false → step j due here k outside vs ≡ goes n ds us → step j due here k (inside c) vs ≡ goes (inside (c + 1)) ds us
goes_inside j c [] here k vs n ds us i room e = cc
goes_inside j c (s ∷ due) here k vs n ds us i room e = by_turn (reading_turn s here k) (inner_stays s here k i.0) e (λ vs e. goes_inside j c due here k vs n ds us i.1 room e)
  where
    by_turn : (x : Turn) → Stays x → stepped j outside here x due vs (step j due here k) ≡ goes n ds us →
        ((vs : List Value) → step j due here k outside vs ≡ goes n ds us → step j due here k (inside c) vs ≡ goes (inside (c + 1)) ds us) →
        stepped j (inside c) here x due vs (step j due here k) ≡ goes (inside (c + 1)) ds us
    by_turn (takes plain es) st e again = let p = goes_is outside n (es ++ due) ds vs us e in
        ap (λ b. unless b here (goes (inside (c + 1)) (es ++ due) vs)) room ∙ cc
    by_turn (takes (nests d) es) st e again =
        ap (λ b. unless b here (unless (nat_le MOST_NESTING d && j.here) here (goes (inside (c + 1)) (es ++ due) vs))) room
        ∙ unless_in (nat_le MOST_NESTING d && j.here) here (c + 1) outside n (es ++ due) ds vs us e
    by_turn (takes l es) st e again = absurd st
    by_turn (makes m) st e again = again (m vs) e
    by_turn skips st e again = again vs e
    by_turn closes st e again = absurd st
    by_turn refuses st e again = cc

-- where it is full, the token is too much
full_inside : (j : Judged) (c : ℕ) (due : List Due) (here : Spot) (k : TokenKind) (vs : List Value) (n : Count) (ds : List Due) (us : List Value) → Inners due →
    (full (inside c) && j.here) ≡ true → step j due here k outside vs ≡ goes n ds us → step j due here k (inside c) vs ≡ stops here codes.TooDeep
full_inside j c [] here k vs n ds us i room e = cc
full_inside j c (s ∷ due) here k vs n ds us i room e = by_turn (reading_turn s here k) (inner_stays s here k i.0) e (λ vs e. full_inside j c due here k vs n ds us i.1 room e)
  where
    by_turn : (x : Turn) → Stays x → stepped j outside here x due vs (step j due here k) ≡ goes n ds us →
        ((vs : List Value) → step j due here k outside vs ≡ goes n ds us → step j due here k (inside c) vs ≡ stops here codes.TooDeep) →
        stepped j (inside c) here x due vs (step j due here k) ≡ stops here codes.TooDeep
    by_turn (takes plain es) st e again = ap (λ b. unless b here (goes (inside (c + 1)) (es ++ due) vs)) room
    by_turn (takes (nests d) es) st e again =
        ap (λ b. unless b here (unless (nat_le MOST_NESTING d && j.here) here (goes (inside (c + 1)) (es ++ due) vs))) room
    by_turn (takes l es) st e again = absurd st
    by_turn (makes m) st e again = again (m vs) e
    by_turn skips st e again = again vs e
    by_turn closes st e again = absurd st
    by_turn refuses st e again = cc

over_inside : (j : Judged) (c : ℕ) (due : List Due) (here : Spot) (k : TokenKind) (vs : List Value) (n : Count) (us : List Value) → Inners due →
    step j due here k outside vs ≡ over n us → step j due here k (inside c) vs ≡ over (inside c) us
over_inside j c [] here k vs n us i e = let same : vs ≡ us = cc in ap (over (inside c)) same
over_inside j c (s ∷ due) here k vs n us i e = by_turn (reading_turn s here k) (inner_stays s here k i.0) e (λ vs e. over_inside j c due here k vs n us i.1 e)
  where
    by_turn : (x : Turn) → Stays x → stepped j outside here x due vs (step j due here k) ≡ over n us →
        ((vs : List Value) → step j due here k outside vs ≡ over n us → step j due here k (inside c) vs ≡ over (inside c) us) →
        stepped j (inside c) here x due vs (step j due here k) ≡ over (inside c) us
    by_turn (takes plain es) st e again = cc
    by_turn (takes (nests d) es) st e again = no (nat_le MOST_NESTING d && j.here) e
      where
        no : (b : Bool) → unless b here (goes outside (es ++ due) vs) ≡ over n us → stepped j (inside c) here (takes (nests d) es) due vs (step j due here k) ≡ over (inside c) us
        no true e = cc
        no false e = cc
    by_turn (takes l es) st e again = absurd st
    by_turn (makes m) st e again = again (m vs) e
    by_turn skips st e again = again vs e
    by_turn closes st e again = absurd st
    by_turn refuses st e again = cc

stop_inside : (j : Judged) (c : ℕ) (due : List Due) (here : Spot) (k : TokenKind) (vs : List Value) (spot : Spot) (code : Code) → Inners due →
    step j due here k outside vs ≡ stops spot code → step j due here k (inside c) vs ≡ stops spot code
stop_inside j c [] here k vs spot code i e = cc
stop_inside j c (s ∷ due) here k vs spot code i e = by_turn (reading_turn s here k) (inner_stays s here k i.0) e (λ vs e. stop_inside j c due here k vs spot code i.1 e)
  where
    by_turn : (x : Turn) → Stays x → stepped j outside here x due vs (step j due here k) ≡ stops spot code →
        ((vs : List Value) → step j due here k outside vs ≡ stops spot code → step j due here k (inside c) vs ≡ stops spot code) →
        stepped j (inside c) here x due vs (step j due here k) ≡ stops spot code
    by_turn (takes plain es) st e again = cc
    by_turn (takes (nests d) es) st e again = deep (nat_le MOST_NESTING d && j.here) (full (inside c) && j.here) e
      where
        deep : (b f : Bool) → unless b here (goes outside (es ++ due) vs) ≡ stops spot code → unless f here (unless b here (goes (inside (c + 1)) (es ++ due) vs)) ≡ stops spot code
        deep true true e = e
        deep true false e = e
        deep false f e = cc
    by_turn (takes l es) st e again = absurd st
    by_turn (makes m) st e again = again (m vs) e
    by_turn skips st e again = again vs e
    by_turn closes st e again = absurd st
    by_turn refuses st e again = e

-- the tokens up to the last `after` ones are counted, and there is room for them but for the last `free` ones
abbrev pub HasRoom : ℕ → ℕ → List Token → ℕ → Type 0
HasRoom free c ts after = (c + length ts ≤ after + MOST_EXPRESSION_TOKENS) ⊎ (c + length ts ≤ free + MOST_EXPRESSION_TOKENS)

room_here : (free c : ℕ) (t : Token) (ts : List Token) (after : ℕ) → after < length (t ∷ ts) → HasRoom free c (t ∷ ts) after → (full (inside c) && (judged free (t ∷ ts)).here) ≡ false
room_here free c t ts after le (inl room) = grind (arith, nat_tests)
room_here free c t ts after le (inr room) = grind (arith, nat_tests)

room_next : (free c : ℕ) (t : Token) (ts : List Token) (after : ℕ) → HasRoom free c (t ∷ ts) after → HasRoom free (c + 1) ts after
room_next free c t ts after (inl room) = inl (omega (arith, room))
room_next free c t ts after (inr room) = inr (omega (arith, room))

-- what is read is no longer
to_shorter : (free : ℕ) (ts : List Token) (c : Count) (due : List Due) (vs : List Value) (rest : List Token) (ws : List Value) → reading free ts c due vs ≡ to rest ws → length rest ≤ length ts
unfolding reading
to_shorter free [] c due vs rest ws e = at_end (step unjudged due nowhere kinds.End c vs) e
  where
    at_end : (x : ReadingStep) → read_end x ≡ to rest ws → length rest ≤ 0
    at_end (goes n ds us) e = cc
    at_end (over n us) e = let same : [] ≡ rest = cc in omega (arith, ap length same)
    at_end (stops spot code) e = cc
to_shorter free (t ∷ ts) c due vs rest ws e = at_token (step (judged free (t ∷ ts)) due t.spot t.kind c vs) e (λ n ds us e. to_shorter free ts n ds us rest ws e)
  where
    at_token : (x : ReadingStep) → read_on x t ts (reading free ts) ≡ to rest ws →
        ((n : Count) (ds : List Due) (us : List Value) → reading free ts n ds us ≡ to rest ws → length rest ≤ length ts) → length rest ≤ length (t ∷ ts)
    at_token (goes n ds us) e more = omega (arith, more n ds us e)
    at_token (over n us) e more = let same : t ∷ ts ≡ rest = cc in omega (arith, ap length same)
    at_token (stops spot code) e more = cc

refused_shorter : (free : ℕ) (ts : List Token) (c : Count) (due : List Due) (vs : List Value) (left : ℕ) (spot : Spot) (code : Code) → reading free ts c due vs ≡ refused left spot code →
    left ≤ length ts
unfolding reading
refused_shorter free [] c due vs left spot code e = at_end (step unjudged due nowhere kinds.End c vs) e
  where
    at_end : (x : ReadingStep) → read_end x ≡ refused left spot code → left ≤ 0
    at_end (goes n ds us) e = cc
    at_end (over n us) e = cc
    at_end (stops place c) e = cc
refused_shorter free (t ∷ ts) c due vs left spot code e = at_token (step (judged free (t ∷ ts)) due t.spot t.kind c vs) e (λ n ds us e. refused_shorter free ts n ds us left spot code e)
  where
    at_token : (x : ReadingStep) → read_on x t ts (reading free ts) ≡ refused left spot code →
        ((n : Count) (ds : List Due) (us : List Value) → reading free ts n ds us ≡ refused left spot code → left ≤ length ts) → left ≤ length (t ∷ ts)
    at_token (goes n ds us) e more = omega (arith, more n ds us e)
    at_token (over n us) e more = cc
    at_token (stops place c) e more = let same : length (t ∷ ts) ≡ left = cc in omega (arith, same)

-- what is due of an expression, with the end of it and more after
module _ (free : ℕ) (due : List Due) where
  -- it is read, and nothing is counted after it
  found_inside : (ts : List Token) (c : ℕ) (a : List Due) (vs : List Value) (rest : List Token) (ws : List Value) → Inners a → HasRoom free c ts (length rest) →
      read free ts a vs ≡ to rest ws → reading free ts (inside c) (a ++ whole_ends ∷ due) vs ≡ read free rest due ws
  unfolding reading
  found_inside [] c a vs rest ws i room e = at_end (step unjudged a nowhere kinds.End outside vs) refl e
    where
      at_end : (x : ReadingStep) → step unjudged a nowhere kinds.End outside vs ≡ x → read_end x ≡ to rest ws →
          reading free [] (inside c) (a ++ whole_ends ∷ due) vs ≡ read free rest due ws
      at_end (goes n ds us) is e = cc
      at_end (over n us) is e =
          let p : (us ≡ ws) × ([] ≡ rest) = (cc, cc) in
          let o = over_inside unjudged c a nowhere kinds.End vs n us i is in
          ap read_end (step_append unjudged a (whole_ends ∷ due) nowhere kinds.End (inside c) vs
          ∙ ap (λ x. joined x (whole_ends ∷ due) (step unjudged (whole_ends ∷ due) nowhere kinds.End)) o)
          ∙ ap (λ x. read free [] due x) p.0 ∙ ap (λ x. read free x due ws) p.1
      at_end (stops spot code) is e = cc
  found_inside (t ∷ ts) c a vs rest ws i room e = at_token (step (judged free (t ∷ ts)) a t.spot t.kind outside vs) refl e
      (λ ds us i room e. found_inside ts (c + 1) ds us rest ws i room e)
    where
      at_token : (x : ReadingStep) → step (judged free (t ∷ ts)) a t.spot t.kind outside vs ≡ x → read_on x t ts (reading free ts) ≡ to rest ws →
          ((ds : List Due) (us : List Value) → Inners ds → HasRoom free (c + 1) ts (length rest) → read free ts ds us ≡ to rest ws →
          reading free ts (inside (c + 1)) (ds ++ whole_ends ∷ due) us ≡ read free rest due ws) →
          reading free (t ∷ ts) (inside c) (a ++ whole_ends ∷ due) vs ≡ read free rest due ws
      at_token (goes n ds us) is e more =
          let g = inner_goes (judged free (t ∷ ts)) a t.spot t.kind vs n ds us i is in
          let e2 : read free ts ds us ≡ to rest ws = subst (λ n. reading free ts n ds us ≡ to rest ws) (sym g.0) e in
          let le = to_shorter free ts outside ds us rest ws e2 in
          let h = goes_inside (judged free (t ∷ ts)) c a t.spot t.kind vs n ds us i (room_here free c t ts (length rest) (omega (arith, le)) room) is in
          ap (λ x. read_on x t ts (reading free ts)) (step_append (judged free (t ∷ ts)) a (whole_ends ∷ due) t.spot t.kind (inside c) vs
          ∙ ap (λ x. joined x (whole_ends ∷ due) (step (judged free (t ∷ ts)) (whole_ends ∷ due) t.spot t.kind)) h)
          ∙ more ds us g.1 (room_next free c t ts (length rest) room) e2
      at_token (over n us) is e more =
          let p : (us ≡ ws) × (t ∷ ts ≡ rest) = (cc, cc) in
          let o = over_inside (judged free (t ∷ ts)) c a t.spot t.kind vs n us i is in
          ap (λ x. read_on x t ts (reading free ts)) (step_append (judged free (t ∷ ts)) a (whole_ends ∷ due) t.spot t.kind (inside c) vs
          ∙ ap (λ x. joined x (whole_ends ∷ due) (step (judged free (t ∷ ts)) (whole_ends ∷ due) t.spot t.kind)) o)
          ∙ ap (λ x. read free (t ∷ ts) due x) p.0 ∙ ap (λ x. read free x due ws) p.1
      at_token (stops spot code) is e more = cc

  -- it is refused within the count
  refused_inside : (ts : List Token) (c : ℕ) (a : List Due) (vs : List Value) (left : ℕ) (spot : Spot) (code : Code) → Inners a → HasRoom free c ts left →
      read free ts a vs ≡ refused left spot code → reading free ts (inside c) (a ++ whole_ends ∷ due) vs ≡ refused left spot code
  unfolding reading
  refused_inside [] c a vs left spot code i room e = at_end (step unjudged a nowhere kinds.End outside vs) e
    where
      at_end : (x : ReadingStep) → read_end x ≡ refused left spot code → reading free [] (inside c) (a ++ whole_ends ∷ due) vs ≡ refused left spot code
      at_end (goes n ds us) e = cc
      at_end (over n us) e = cc
      at_end (stops place k) e = cc
  refused_inside (t ∷ ts) c a vs left spot code i room e = at_token (step (judged free (t ∷ ts)) a t.spot t.kind outside vs) refl e
      (λ ds us i room e. refused_inside ts (c + 1) ds us left spot code i room e)
    where
      at_token : (x : ReadingStep) → step (judged free (t ∷ ts)) a t.spot t.kind outside vs ≡ x → read_on x t ts (reading free ts) ≡ refused left spot code →
          ((ds : List Due) (us : List Value) → Inners ds → HasRoom free (c + 1) ts left → read free ts ds us ≡ refused left spot code →
          reading free ts (inside (c + 1)) (ds ++ whole_ends ∷ due) us ≡ refused left spot code) →
          reading free (t ∷ ts) (inside c) (a ++ whole_ends ∷ due) vs ≡ refused left spot code
      at_token (goes n ds us) is e more =
          let g = inner_goes (judged free (t ∷ ts)) a t.spot t.kind vs n ds us i is in
          let e2 : read free ts ds us ≡ refused left spot code = subst (λ n. reading free ts n ds us ≡ refused left spot code) (sym g.0) e in
          let le = refused_shorter free ts outside ds us left spot code e2 in
          let h = goes_inside (judged free (t ∷ ts)) c a t.spot t.kind vs n ds us i (room_here free c t ts left (omega (arith, le)) room) is in
          ap (λ x. read_on x t ts (reading free ts)) (step_append (judged free (t ∷ ts)) a (whole_ends ∷ due) t.spot t.kind (inside c) vs
          ∙ ap (λ x. joined x (whole_ends ∷ due) (step (judged free (t ∷ ts)) (whole_ends ∷ due) t.spot t.kind)) h)
          ∙ more ds us g.1 (room_next free c t ts left room) e2
      at_token (over n us) is e more = cc
      at_token (stops place k) is e more =
          let h = stop_inside (judged free (t ∷ ts)) c a t.spot t.kind vs place k i is in
          ap (λ x. read_on x t ts (reading free ts)) (step_append (judged free (t ∷ ts)) a (whole_ends ∷ due) t.spot t.kind (inside c) vs
          ∙ ap (λ x. joined x (whole_ends ∷ due) (step (judged free (t ∷ ts)) (whole_ends ∷ due) t.spot t.kind)) h)
          ∙ e

-- a token after as many as an expression may have is refused, where reading it without the count goes over it
long_inside : (due : List Due) (front : List Token) (t : Token) (rest : List Token) (c : ℕ) (a : List Due) (vs : List Value) → Inners a →
    c + length front ≡ MOST_EXPRESSION_TOKENS → IsLater (read 0 (front ++ t ∷ rest) a vs) (length (t ∷ rest)) →
    reading 0 (front ++ t ∷ rest) (inside c) (a ++ whole_ends ∷ due) vs ≡ refused (length (t ∷ rest)) t.spot codes.TooDeep
unfolding reading
long_inside due [] t rest c a vs i at later = at_token (step (judged 0 (t ∷ rest)) a t.spot t.kind outside vs) refl later
  where
    at_token : (x : ReadingStep) → step (judged 0 (t ∷ rest)) a t.spot t.kind outside vs ≡ x → IsLater (read_on x t rest (reading 0 rest)) (length (t ∷ rest)) →
        reading 0 (t ∷ rest) (inside c) (a ++ whole_ends ∷ due) vs ≡ refused (length (t ∷ rest)) t.spot codes.TooDeep
    at_token (goes n ds us) is later =
        let f : (full (inside c) && (judged 0 (t ∷ rest)).here) ≡ true = grind (arith, nat_tests) in
        ap (λ x. read_on x t rest (reading 0 rest)) (step_append (judged 0 (t ∷ rest)) a (whole_ends ∷ due) t.spot t.kind (inside c) vs
        ∙ ap (λ x. joined x (whole_ends ∷ due) (step (judged 0 (t ∷ rest)) (whole_ends ∷ due) t.spot t.kind))
        (full_inside (judged 0 (t ∷ rest)) c a t.spot t.kind vs n ds us i f is))
    at_token (over n us) is later = absurd (omega arith)
    at_token (stops place k) is later = absurd (omega arith)
long_inside due (u ∷ front) t rest c a vs i at later = at_token (step (judged 0 (u ∷ (front ++ t ∷ rest))) a u.spot u.kind outside vs) refl later
    (λ ds us i later. long_inside due front t rest (c + 1) ds us i (omega (arith, at)) later)
  where
    at_token : (x : ReadingStep) → step (judged 0 (u ∷ (front ++ t ∷ rest))) a u.spot u.kind outside vs ≡ x →
        IsLater (read_on x u (front ++ t ∷ rest) (reading 0 (front ++ t ∷ rest))) (length (t ∷ rest)) →
        ((ds : List Due) (us : List Value) → Inners ds → IsLater (read 0 (front ++ t ∷ rest) ds us) (length (t ∷ rest)) →
        reading 0 (front ++ t ∷ rest) (inside (c + 1)) (ds ++ whole_ends ∷ due) us ≡ refused (length (t ∷ rest)) t.spot codes.TooDeep) →
        reading 0 (u ∷ (front ++ t ∷ rest)) (inside c) (a ++ whole_ends ∷ due) vs ≡ refused (length (t ∷ rest)) t.spot codes.TooDeep
    at_token (goes n ds us) is later more =
        let g = inner_goes (judged 0 (u ∷ (front ++ t ∷ rest))) a u.spot u.kind vs n ds us i is in
        let f : (full (inside c) && (judged 0 (u ∷ (front ++ t ∷ rest))).here) ≡ false = grind (arith, nat_tests, at) in
        ap (λ x. read_on x u (front ++ t ∷ rest) (reading 0 (front ++ t ∷ rest))) (step_append (judged 0 (u ∷ (front ++ t ∷ rest))) a (whole_ends ∷ due) u.spot u.kind (inside c) vs
        ∙ ap (λ x. joined x (whole_ends ∷ due) (step (judged 0 (u ∷ (front ++ t ∷ rest))) (whole_ends ∷ due) u.spot u.kind))
        (goes_inside (judged 0 (u ∷ (front ++ t ∷ rest))) c a u.spot u.kind vs n ds us i f is))
        ∙ more ds us g.1 (subst (λ n. IsLater (reading 0 (front ++ t ∷ rest) n ds us) (length (t ∷ rest))) (sym g.0) later)
    at_token (over n us) is later more = absurd (grind (arith, length-append))
    at_token (stops place k) is later more = absurd (grind (arith, length-append))

-- the first token of an expression that stands in no other is that of one

pub record Begun (free d : ℕ) (t : Token) (ts : List Token) (due : List Due) (vs : List Value) : Type 0 where
  pub es : List Due
  pub inner : Inners es
  pub whole_is : read free (t ∷ ts) (whole d ∷ due) vs ≡ reading free ts (inside 1) (es ++ whole_ends ∷ due) vs
  pub part_is : read free (t ∷ ts) (part expr d ∷ []) vs ≡ read free ts es vs

pub record Stopped (free d : ℕ) (t : Token) (ts : List Token) (due : List Due) (vs : List Value) : Type 0 where
  pub code : Code
  pub whole_is : read free (t ∷ ts) (whole d ∷ due) vs ≡ refused (length (t ∷ ts)) t.spot code
  pub part_is : read free (t ∷ ts) (part expr d ∷ []) vs ≡ refused (length (t ∷ ts)) t.spot code

pub first_token : (free d : ℕ) (t : Token) (ts : List Token) (due : List Due) (vs : List Value) → Begun free d t ts due vs ⊎ Stopped free d t ts due vs
unfolding reading
first_token free d t ts due vs = by_turn (turn_expr d t.spot t.kind) refl (part_takes expr d t.spot t.kind) (inner_stays (part expr d) t.spot t.kind tt)
  where
    whole_by : (x : Turn) → turn_expr d t.spot t.kind ≡ x → read free (t ∷ ts) (whole d ∷ due) vs
        ≡ read_on (stepped (judged free (t ∷ ts)) outside t.spot (begins (followed x (whole_ends ∷ []))) due vs (step (judged free (t ∷ ts)) due t.spot t.kind)) t ts (reading free ts)
    whole_by x is = ap (λ x. read_on (stepped (judged free (t ∷ ts)) outside t.spot (begins (followed x (whole_ends ∷ []))) due vs (step (judged free (t ∷ ts)) due t.spot t.kind)) t ts (reading free ts)) is

    part_by : (x : Turn) → turn_expr d t.spot t.kind ≡ x → read free (t ∷ ts) (part expr d ∷ []) vs
        ≡ read_on (stepped (judged free (t ∷ ts)) outside t.spot x [] vs (step (judged free (t ∷ ts)) [] t.spot t.kind)) t ts (reading free ts)
    part_by x is = ap (λ x. read_on (stepped (judged free (t ∷ ts)) outside t.spot x [] vs (step (judged free (t ∷ ts)) [] t.spot t.kind)) t ts (reading free ts)) is

    nesting : (b : Bool) (n : ℕ) (es : List Due) → (nat_le MOST_NESTING n && (judged free (t ∷ ts)).here) ≡ b → turn_expr d t.spot t.kind ≡ takes (nests n) es → Inners es →
        Begun free d t ts due vs ⊎ Stopped free d t ts due vs
    nesting true n es q is st = inr (record {
      code = codes.TooDeep;
      whole_is = whole_by (takes (nests n) es) is ∙ ap (λ b. read_on (unless b t.spot (goes (inside 1) ((es ++ whole_ends ∷ []) ++ due) vs)) t ts (reading free ts)) q;
      part_is = part_by (takes (nests n) es) is ∙ ap (λ b. read_on (unless b t.spot (goes outside (es ++ []) vs)) t ts (reading free ts)) q;
    })
    nesting false n es q is st = inl (record {
      es = es;
      inner = st;
      whole_is = whole_by (takes (nests n) es) is ∙ ap (λ b. read_on (unless b t.spot (goes (inside 1) ((es ++ whole_ends ∷ []) ++ due) vs)) t ts (reading free ts)) q
          ∙ ap (λ x. reading free ts (inside 1) x vs) (append_assoc es (whole_ends ∷ []) due);
      part_is = part_by (takes (nests n) es) is ∙ ap (λ b. read_on (unless b t.spot (goes outside (es ++ []) vs)) t ts (reading free ts)) q
          ∙ ap (λ x. read free ts x vs) (append-nil es);
    })

    by_turn : (x : Turn) → turn_expr d t.spot t.kind ≡ x → Takes x → Stays x → Begun free d t ts due vs ⊎ Stopped free d t ts due vs
    by_turn _ is (taken plain es) st = inl (record {
      es = es;
      inner = st;
      whole_is = whole_by (takes plain es) is ∙ ap (λ x. reading free ts (inside 1) x vs) (append_assoc es (whole_ends ∷ []) due);
      part_is = part_by (takes plain es) is ∙ ap (λ x. read free ts x vs) (append-nil es);
    })
    by_turn _ is (taken (nests n) es) st = nesting (nat_le MOST_NESTING n && (judged free (t ∷ ts)).here) n es refl is st
    by_turn _ is (taken (label n spot) es) st = absurd st
    by_turn _ is (taken (begun l) es) st = absurd st
    by_turn _ is refused_ st = inr (record { code = codes.Unexpected; whole_is = whole_by refuses is; part_is = part_by refuses is })

-- what is read as an expression is read as one that stands in no other, where it is short
pub whole_found : (free d : ℕ) (from : List Token) (vs : List Value) (rest : List Token) (ws : List Value) → read free from (part expr d ∷ []) vs ≡ to rest ws →
    IsShortExpression free from rest → (due : List Due) → read free from (whole d ∷ due) vs ≡ read free rest due ws
unfolding reading
whole_found free d [] vs rest ws e short due = cc
whole_found free d (t ∷ ts) vs rest ws e short due = by_first (first_token free d t ts due vs)
  where
    room : IsShortExpression free (t ∷ ts) rest → HasRoom free 1 ts (length rest)
    room (inl le) = inl (omega (arith, le))
    room (inr le) = inr (omega (arith, le))

    by_first : Begun free d t ts due vs ⊎ Stopped free d t ts due vs → read free (t ∷ ts) (whole d ∷ due) vs ≡ read free rest due ws
    by_first (inl b) = b.whole_is ∙ found_inside free due ts 1 b.es vs rest ws b.inner (room short) (sym b.part_is ∙ e)
    by_first (inr s) = let no : refused (length (t ∷ ts)) t.spot s.code ≡ to rest ws = sym s.part_is ∙ e in cc

-- and likewise refused
pub whole_refused : (d : ℕ) (from : List Token) (vs : List Value) (left : ℕ) (spot : Spot) (code : Code) → read 0 from (part expr d ∷ []) vs ≡ refused left spot code →
    length from ≤ left + MOST_EXPRESSION_TOKENS → (due : List Due) → read 0 from (whole d ∷ due) vs ≡ refused left spot code
unfolding reading
whole_refused d [] vs left spot code e short due = cc
whole_refused d (t ∷ ts) vs left spot code e short due = by_first (first_token 0 d t ts due vs)
  where
    by_first : Begun 0 d t ts due vs ⊎ Stopped 0 d t ts due vs → read 0 (t ∷ ts) (whole d ∷ due) vs ≡ refused left spot code
    by_first (inl b) = b.whole_is ∙ refused_inside 0 due ts 1 b.es vs left spot code b.inner (inl (omega (arith, short))) (sym b.part_is ∙ e)
    by_first (inr s) = s.whole_is ∙ sym s.part_is ∙ e

-- or refused at the first token that is too much
pub whole_long : (d : ℕ) (front : List Token) (t : Token) (rest : List Token) (vs : List Value) → length front ≡ MOST_EXPRESSION_TOKENS →
    IsLater (read 0 (front ++ t ∷ rest) (part expr d ∷ []) vs) (length (t ∷ rest)) → (due : List Due) →
    read 0 (front ++ t ∷ rest) (whole d ∷ due) vs ≡ refused (length (t ∷ rest)) t.spot codes.TooDeep
unfolding reading
whole_long d [] t rest vs e later due = absurd (omega (arith, e))
whole_long d (u ∷ front) t rest vs e later due = by_first (first_token 0 d u (front ++ t ∷ rest) due vs)
  where
    by_first : Begun 0 d u (front ++ t ∷ rest) due vs ⊎ Stopped 0 d u (front ++ t ∷ rest) due vs →
        read 0 (u ∷ (front ++ t ∷ rest)) (whole d ∷ due) vs ≡ refused (length (t ∷ rest)) t.spot codes.TooDeep
    by_first (inl b) = b.whole_is ∙ long_inside due front t rest 1 b.es vs b.inner (omega (arith, e))
        (subst (λ x. IsLater x (length (t ∷ rest))) b.part_is later)
    by_first (inr s) = absurd (too_early (subst (λ x. IsLater x (length (t ∷ rest))) s.part_is later))
      where
        too_early : length (u ∷ (front ++ t ∷ rest)) < length (t ∷ rest) → ⊥
        too_early le = grind (arith, length-append)
