-- Where reading an expression stops: the tokens before can be gone on with, and those with the next cannot.
use Rattle.std.proofs.Common.{◌≡◌, ◌≤◌, ℕ, nat_le, ◌&&◌, List, [], ◌∷◌, ◌++◌, length, length-append, refl, sym, subst, ap, ◌∙◌, arith}
use Rattle.algol_tree.specs.declared.TheConstants.{MOST_NESTING}
use Rattle.algol_tree.specs.declared.token.Spot.{Spot}
use Rattle.algol_tree.specs.declared.token.Token.{Token}
use Rattle.algol_tree.specs.declared.token.TokenKind.{TokenKind}
use Rattle.algol_tree.specs.declared.token.TokenKind.TheVariants as kinds
use Rattle.algol_tree.specs.declared.refusal.Code.{Code}
use Rattle.algol_tree.specs.Plain.{PExpr}
use Rattle.algol_tree.specs.Operators.{Part}
use Rattle.algol_tree.specs.Expressions.{IsExprPart}
use Rattle.algol_tree.specs.Due.{Value, one, Due, part, plain, nests, Turn, takes, makes, skips, closes, refuses}
use Rattle.algol_tree.specs.Reading.{reading_turn, Count, outside, Judged, ReadingStep, goes, over, stops, stepped, step, to, refused, read_on, read_end, judged, unjudged, nowhere, reading, read}
use Rattle.algol_expr.proofs.Inner.{IsInner, Inners, Stays, inner_stays}
use Rattle.algol_expr.proofs.Steps.{strict, judged_strict, to_opens, unless_goes, unless_over, goes_is, inner_goes, inner_over, step_any}
use Rattle.algol_expr.proofs.Sound.{IsDue, IsAll, nil, cons, Makes, it, makes_it, left_out, Taken, Leaves, leave, back, in_two}

-- one step back

taken_back : (free : ℕ) (s : Due) (due es ds : List Due) (t : Token) (ts : List Token) (vs us ws : List Value) (rest : List Token) →
    ((ms : List Value) (mid : List Token) → IsAll free es vs ts ms mid → IsDue free s vs (t ∷ ts) ms mid) →
    goes outside (es ++ due) vs ≡ goes outside ds us → IsAll free ds us ts ws rest → IsAll free (s ∷ due) vs (t ∷ ts) ws rest
taken_back free s due es ds t ts vs us ws rest f e x =
    let p = goes_is outside outside (es ++ due) ds vs us e in
    let r = in_two free es due vs ts ws rest (subst (λ ds. IsAll free ds vs ts ws rest) (sym p.1) (subst (λ us. IsAll free ds us ts ws rest) (sym p.2) x)) in
    cons s due vs r.us ws (t ∷ ts) r.mid rest (f r.us r.mid r.first) r.second

turn_back : (free : ℕ) (s : Due) (due ds : List Due) (t : Token) (ts : List Token) (vs us ws : List Value) (rest : List Token) (x : Turn) → IsInner s →
    reading_turn s t.spot t.kind ≡ x → Stays x →
    stepped (judged free (t ∷ ts)) outside t.spot x due vs (step (judged free (t ∷ ts)) due t.spot t.kind) ≡ goes outside ds us → IsAll free ds us ts ws rest →
    ((vs : List Value) → step (judged free (t ∷ ts)) due t.spot t.kind outside vs ≡ goes outside ds us → IsAll free due vs (t ∷ ts) ws rest) →
    IsAll free (s ∷ due) vs (t ∷ ts) ws rest
turn_back free s due ds t ts vs us ws rest (takes plain es) i is st e x again = taken_back free s due es ds t ts vs us ws rest
    (λ ms mid y. back free s t ts vs ms mid i (subst (λ x. Taken free x t ts vs ms mid) (sym is) y)) e x
turn_back free s due ds t ts vs us ws rest (takes (nests d) es) i is st e x again =
    let p = unless_goes (nat_le MOST_NESTING d && (judged free (t ∷ ts)).here) t.spot (goes outside (es ++ due) vs) outside ds us e in
    taken_back free s due es ds t ts vs us ws rest
    (λ ms mid y. back free s t ts vs ms mid i (subst (λ x. Taken free x t ts vs ms mid) (sym is) (to_opens free d (t ∷ ts) p.0, y))) p.1 x
turn_back free s due ds t ts vs us ws rest (takes l es) i is st e x again = absurd st
turn_back free s due ds t ts vs us ws rest (makes m) i is st e x again = cons s due vs (m vs) ws (t ∷ ts) (t ∷ ts) rest
    (leave free s t.spot t.kind vs (m vs) (t ∷ ts) (t ∷ ts) i (subst (λ x. Leaves x vs (t ∷ ts) (m vs) (t ∷ ts)) (sym is) makes_it))
    (again (m vs) e)
turn_back free s due ds t ts vs us ws rest skips i is st e x again = cons s due vs vs ws (t ∷ ts) (t ∷ ts) rest
    (leave free s t.spot t.kind vs vs (t ∷ ts) (t ∷ ts) i (subst (λ x. Leaves x vs (t ∷ ts) vs (t ∷ ts)) (sym is) left_out))
    (again vs e)
turn_back free s due ds t ts vs us ws rest closes i is st e x again = absurd st
turn_back free s due ds t ts vs us ws rest refuses i is st e x again = cc

pub step_back : (free : ℕ) (due ds : List Due) (t : Token) (ts : List Token) (vs us ws : List Value) (rest : List Token) → Inners due →
    step (judged free (t ∷ ts)) due t.spot t.kind outside vs ≡ goes outside ds us → IsAll free ds us ts ws rest → IsAll free due vs (t ∷ ts) ws rest
step_back free [] ds t ts vs us ws rest i e x = cc
step_back free (s ∷ due) ds t ts vs us ws rest i e x = turn_back free s due ds t ts vs us ws rest (reading_turn s t.spot t.kind) i.0 refl (inner_stays s t.spot t.kind i.0) e x
    (λ vs e. step_back free due ds t ts vs us ws rest i.1 e x)

-- where the next token belongs to nothing that is due, all may be left out
over_turn : (free : ℕ) (j : Judged) (s : Due) (due : List Due) (spot : Spot) (k : TokenKind) (vs ws : List Value) (from : List Token) (x : Turn) → IsInner s →
    reading_turn s spot k ≡ x → Stays x → stepped j outside spot x due vs (step j due spot k) ≡ over outside ws →
    ((vs : List Value) → step j due spot k outside vs ≡ over outside ws → IsAll free due vs from ws from) → IsAll free (s ∷ due) vs from ws from
over_turn free j s due spot k vs ws from (takes plain es) i is st e again = cc
over_turn free j s due spot k vs ws from (takes (nests d) es) i is st e again = absurd (unless_over (nat_le MOST_NESTING d && j.here) spot outside outside (es ++ due) vs ws e)
over_turn free j s due spot k vs ws from (takes l es) i is st e again = absurd st
over_turn free j s due spot k vs ws from (makes m) i is st e again = cons s due vs (m vs) ws from from from
    (leave free s spot k vs (m vs) from from i (subst (λ x. Leaves x vs from (m vs) from) (sym is) makes_it))
    (again (m vs) e)
over_turn free j s due spot k vs ws from skips i is st e again = cons s due vs vs ws from from from
    (leave free s spot k vs vs from from i (subst (λ x. Leaves x vs from vs from) (sym is) left_out))
    (again vs e)
over_turn free j s due spot k vs ws from closes i is st e again = absurd st
over_turn free j s due spot k vs ws from refuses i is st e again = cc

over_back : (free : ℕ) (j : Judged) (due : List Due) (spot : Spot) (k : TokenKind) (vs ws : List Value) (from : List Token) → Inners due →
    step j due spot k outside vs ≡ over outside ws → IsAll free due vs from ws from
over_back free j [] spot k vs ws from i e = let same : vs ≡ ws = cc in subst (λ w. IsAll free [] vs from w from) same (nil vs from)
over_back free j (s ∷ due) spot k vs ws from i e = over_turn free j s due spot k vs ws from (reading_turn s spot k) i.0 refl (inner_stays s spot k i.0) e
    (λ vs e. over_back free j due spot k vs ws from i.1 e)

over_steady : (j : Judged) (due : List Due) (spot : Spot) (k : TokenKind) (vs : List Value) (c : Count) (us : List Value) → Inners due →
    step j due spot k outside vs ≡ over c us → step j due spot k outside vs ≡ over outside us
over_steady j due spot k vs c us i e = e ∙ ap (λ c. over c us) (sym (inner_over j due spot k vs c us i e))

pub goes_steady : (j : Judged) (due : List Due) (spot : Spot) (k : TokenKind) (vs : List Value) (c : Count) (ds : List Due) (us : List Value) → Inners due →
    step j due spot k outside vs ≡ goes c ds us → step j due spot k outside vs ≡ goes outside ds us
goes_steady j due spot k vs c ds us i e = e ∙ ap (λ c. goes c ds us) (sym (inner_goes j due spot k vs c ds us i e).0)

-- what is read is what is due
pub sound : (free : ℕ) (ts : List Token) (due : List Due) (vs ws : List Value) (rest : List Token) → Inners due → read free ts due vs ≡ to rest ws → IsAll free due vs ts ws rest
unfolding reading
sound free [] due vs ws rest i e = at_end (step unjudged due nowhere kinds.End outside vs) refl e
  where
    at_end : (x : ReadingStep) → step unjudged due nowhere kinds.End outside vs ≡ x → read_end x ≡ to rest ws → IsAll free due vs [] ws rest
    at_end (goes c ds us) is e = cc
    at_end (over c us) is e = let p : (us ≡ ws) × ([] ≡ rest) = (cc, cc) in
        subst (λ r. IsAll free due vs [] ws r) p.1 (subst (λ w. IsAll free due vs [] w []) p.0
        (over_back free unjudged due nowhere kinds.End vs us [] i (over_steady unjudged due nowhere kinds.End vs c us i is)))
    at_end (stops spot code) is e = cc
sound free (t ∷ ts) due vs ws rest i e = at_token (step (judged free (t ∷ ts)) due t.spot t.kind outside vs) refl e (λ ds us i x. sound free ts ds us ws rest i x)
  where
    at_token : (x : ReadingStep) → step (judged free (t ∷ ts)) due t.spot t.kind outside vs ≡ x → read_on x t ts (reading free ts) ≡ to rest ws →
        ((ds : List Due) (us : List Value) → Inners ds → read free ts ds us ≡ to rest ws → IsAll free ds us ts ws rest) → IsAll free due vs (t ∷ ts) ws rest
    at_token (goes c ds us) is e more =
        let g = inner_goes (judged free (t ∷ ts)) due t.spot t.kind vs c ds us i is in
        step_back free due ds t ts vs us ws rest i (goes_steady (judged free (t ∷ ts)) due t.spot t.kind vs c ds us i is)
        (more ds us g.1 (subst (λ c. reading free ts c ds us ≡ to rest ws) (sym g.0) e))
    at_token (over c us) is e more = let p : (us ≡ ws) × (t ∷ ts ≡ rest) = (cc, cc) in
        subst (λ r. IsAll free due vs (t ∷ ts) ws r) p.1 (subst (λ w. IsAll free due vs (t ∷ ts) w (t ∷ ts)) p.0
        (over_back free (judged free (t ∷ ts)) due t.spot t.kind vs us (t ∷ ts) i (over_steady (judged free (t ∷ ts)) due t.spot t.kind vs c us i is)))
    at_token (stops spot code) is e more = cc

-- what is read as a part of an expression is one
pub part_sound : (free : ℕ) (p : Part) (d : ℕ) (ts rest : List Token) (e : PExpr) → read free ts (part p d ∷ []) [] ≡ to rest (one e ∷ []) → IsExprPart free p d ts e rest
part_sound free p d ts rest e r = only e rest (sound free ts (part p d ∷ []) [] (one e ∷ []) rest (tt, tt) r)
  where
    made_only : (ws : List Value) (rest : List Token) (e : PExpr) → ws ≡ one e ∷ [] → Makes free p d ts [] ws rest → IsExprPart free p d ts e rest
    made_only _ _ e q (it f rest x) = let same : f ≡ e = cc in subst (λ e. IsExprPart free p d ts e rest) same x

    all_only : (ws : List Value) (rest : List Token) (e : PExpr) → ws ≡ one e ∷ [] → IsAll free (part p d ∷ []) [] ts ws rest → IsExprPart free p d ts e rest
    all_only _ _ e q (cons _ _ _ _ _ _ _ _ x (nil ws rest)) = made_only ws rest e q x

    only : (e : PExpr) (rest : List Token) → IsAll free (part p d ∷ []) [] ts (one e ∷ []) rest → IsExprPart free p d ts e rest
    only e rest x = all_only (one e ∷ []) rest e refl x

-- tokens that are gone over, the limit of levels being kept by all of them
pub data Fed : List Due → List Value → List Token → List Due → List Value → Type 0 where
  nothing_fed : (due : List Due) (vs : List Value) → Fed due vs [] due vs
  fed : (due mid ds : List Due) (vs us ws : List Value) (t : Token) (ts : List Token) → step strict due t.spot t.kind outside vs ≡ goes outside mid us → Fed mid us ts ds ws →
      Fed due vs (t ∷ ts) ds ws

pub fed_inner : (due ds : List Due) (vs us : List Value) (front : List Token) → Fed due vs front ds us → Inners due → Inners ds
fed_inner _ _ _ _ _ (nothing_fed due vs) i = i
fed_inner _ _ _ _ _ (fed due mid ds vs us ws t ts e f) i = fed_inner mid ds us ws ts f (inner_goes strict due t.spot t.kind vs outside mid us i e).1

-- where a text is refused
pub record RefusedAt (due : List Due) (vs : List Value) (ts : List Token) (left : ℕ) (spot : Spot) (code : Code) : Type 0 where
  pub front : List Token
  pub t : Token
  pub rest : List Token
  pub ds : List Due
  pub us : List Value
  pub is : ts ≡ front ++ t ∷ rest
  pub at_left : left ≡ length (t ∷ rest)
  pub fed_so : Fed due vs front ds us
  pub stops_so : step strict ds t.spot t.kind outside us ≡ stops spot code

pub refused_at : (ts : List Token) (due : List Due) (vs : List Value) (left : ℕ) (spot : Spot) (code : Code) → Inners due → read 0 ts due vs ≡ refused left spot code →
    RefusedAt due vs ts left spot code
unfolding reading
refused_at [] due vs left spot code i e = at_end (step unjudged due nowhere kinds.End outside vs) e
  where
    at_end : (x : ReadingStep) → read_end x ≡ refused left spot code → RefusedAt due vs [] left spot code
    at_end (goes c ds us) e = cc
    at_end (over c us) e = cc
    at_end (stops place c) e = cc
refused_at (t ∷ ts) due vs left spot code i e = at_token (step strict due t.spot t.kind outside vs) refl
    (subst (λ j. read_on (step j due t.spot t.kind outside vs) t ts (reading 0 ts) ≡ refused left spot code) (judged_strict 0 t ts (omega arith)) e)
    (λ ds us i. refused_at ts ds us left spot code i)
  where
    at_token : (x : ReadingStep) → step strict due t.spot t.kind outside vs ≡ x → read_on x t ts (reading 0 ts) ≡ refused left spot code →
        ((ds : List Due) (us : List Value) → Inners ds → read 0 ts ds us ≡ refused left spot code → RefusedAt ds us ts left spot code) → RefusedAt due vs (t ∷ ts) left spot code
    at_token (goes c ds us) is e more =
        let g = inner_goes strict due t.spot t.kind vs c ds us i is in
        let r = more ds us g.1 (subst (λ c. reading 0 ts c ds us ≡ refused left spot code) (sym g.0) e) in
        record {
          front = t ∷ r.front;
          t = r.t;
          rest = r.rest;
          ds = r.ds;
          us = r.us;
          is = ap (λ x. t ∷ x) r.is;
          at_left = r.at_left;
          fed_so = fed due ds r.ds vs us r.us t r.front (goes_steady strict due t.spot t.kind vs c ds us i is) r.fed_so;
          stops_so = r.stops_so;
        }
    at_token (over c us) is e more = cc
    at_token (stops place c) is e more =
        let p : (length (t ∷ ts) ≡ left) × (place ≡ spot) × (c ≡ code) = (cc, cc, cc) in
        let q : stops place c ≡ stops spot code = ap (λ x. stops x c) p.1 ∙ ap (stops spot) p.2 in
        record {
          front = [];
          t = t;
          rest = ts;
          ds = due;
          us = vs;
          is = refl;
          at_left = sym p.0;
          fed_so = nothing_fed due vs;
          stops_so = is ∙ q;
        }

-- and backwards
pub fed_back : (free : ℕ) (due ds : List Due) (vs us ws : List Value) (front more rest : List Token) → Inners due → Fed due vs front ds us → free ≤ length more →
    IsAll free ds us more ws rest → IsAll free due vs (front ++ more) ws rest
fed_back free _ _ _ _ ws _ more rest i (nothing_fed due vs) le x = x
fed_back free _ _ _ _ ws _ more rest i (fed due mid ds vs us xs t ts e f) le x =
    let longer : free ≤ length (ts ++ more) = grind (arith, length-append) in
    step_back free due mid t (ts ++ more) vs us ws rest i (subst (λ j. step j due t.spot t.kind outside vs ≡ goes outside mid us) (sym (judged_strict free t (ts ++ more) longer)) e)
    (fed_back free mid ds us xs ws ts more rest (inner_goes strict due t.spot t.kind vs outside mid us i e).1 f le x)

-- reading goes on from there with any limit, whatever follows
pub fed_any : (free : ℕ) (due ds : List Due) (vs ws : List Value) (front rest : List Token) → Inners due → Fed due vs front ds ws →
    read free (front ++ rest) due vs ≡ read free rest ds ws
unfolding reading
fed_any free _ _ _ _ _ rest i (nothing_fed due vs) = refl
fed_any free _ _ _ _ _ rest i (fed due mid ds vs us ws t ts e f) =
    rw (step_any (judged free (t ∷ (ts ++ rest))) due t.spot t.kind vs outside mid us i e)
    (fed_any free mid ds us ws ts rest (inner_goes strict due t.spot t.kind vs outside mid us i e).1 f)

pub record OverAt (due : List Due) (vs : List Value) (ts : List Token) (t : Token) (rest : List Token) (ws : List Value) : Type 0 where
  pub front : List Token
  pub ds : List Due
  pub us : List Value
  pub is : ts ≡ front ++ t ∷ rest
  pub fed_so : Fed due vs front ds us
  pub over_so : step strict ds t.spot t.kind outside us ≡ over outside ws

-- where reading is over, the token is of nothing that is due
pub over_at : (ts : List Token) (due : List Due) (vs : List Value) (t : Token) (rest : List Token) (ws : List Value) → Inners due → read 0 ts due vs ≡ to (t ∷ rest) ws →
    OverAt due vs ts t rest ws
unfolding reading
over_at [] due vs t rest ws i e = at_end (step unjudged due nowhere kinds.End outside vs) e
  where
    at_end : (x : ReadingStep) → read_end x ≡ to (t ∷ rest) ws → OverAt due vs [] t rest ws
    at_end (goes c ds us) e = cc
    at_end (over c us) e = cc
    at_end (stops spot code) e = cc
over_at (u ∷ ts) due vs t rest ws i e = at_token (step strict due u.spot u.kind outside vs) refl
    (subst (λ j. read_on (step j due u.spot u.kind outside vs) u ts (reading 0 ts) ≡ to (t ∷ rest) ws) (judged_strict 0 u ts (omega arith)) e)
    (λ ds us i. over_at ts ds us t rest ws i)
  where
    found : (x : Token) (xs : List Token) (us : List Value) → x ∷ xs ≡ t ∷ rest → us ≡ ws → step strict due x.spot x.kind outside vs ≡ over outside us → OverAt due vs (x ∷ xs) t rest ws
    found x xs us p q s =
        let same : x ≡ t = cc in
        record {
          front = [];
          ds = due;
          us = vs;
          is = p;
          fed_so = nothing_fed due vs;
          over_so = subst (λ x. step strict due x.spot x.kind outside vs ≡ over outside ws) same (s ∙ ap (over outside) q);
        }

    at_token : (x : ReadingStep) → step strict due u.spot u.kind outside vs ≡ x → read_on x u ts (reading 0 ts) ≡ to (t ∷ rest) ws →
        ((ds : List Due) (us : List Value) → Inners ds → read 0 ts ds us ≡ to (t ∷ rest) ws → OverAt ds us ts t rest ws) → OverAt due vs (u ∷ ts) t rest ws
    at_token (goes c ds us) is e more =
        let g = inner_goes strict due u.spot u.kind vs c ds us i is in
        let r = more ds us g.1 (subst (λ c. reading 0 ts c ds us ≡ to (t ∷ rest) ws) (sym g.0) e) in
        record {
          front = u ∷ r.front;
          ds = r.ds;
          us = r.us;
          is = ap (λ x. u ∷ x) r.is;
          fed_so = fed due ds r.ds vs us r.us u r.front (goes_steady strict due u.spot u.kind vs c ds us i is) r.fed_so;
          over_so = r.over_so;
        }
    at_token (over c us) is e more =
        let p : (u ∷ ts ≡ t ∷ rest) × (us ≡ ws) = (cc, cc) in found u ts us p.0 p.1 (over_steady strict due u.spot u.kind vs c us i is)
    at_token (stops spot code) is e more = cc
