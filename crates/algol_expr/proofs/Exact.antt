-- The refusals of an expression that stands in no other, exactly.
use Rattle.std.proofs.Common.{◌≡◌, ◌≤◌, ◌<◌, ◌+◌, ℕ, false, List, [], ◌∷◌, ◌++◌, length, length-append, refl, sym, subst, ap, ◌∙◌, inl, inr, arith}
use Rattle.std.proofs.lemmas.Bool.Decides.{nat_tests}
use Rattle.std.proofs.lemmas.List.{append-nil}
use Rattle.algol_tree.specs.declared.TheConstants.{MOST_EXPRESSION_TOKENS}
use Rattle.algol_tree.specs.declared.token.Spot.{Spot}
use Rattle.algol_tree.specs.declared.token.Token.{Token}
use Rattle.algol_tree.specs.declared.refusal.Code.TheVariants as codes
use Rattle.algol_tree.specs.Plain.{PExpr}
use Rattle.algol_tree.specs.Operators.{expr}
use Rattle.algol_tree.specs.Expressions.{IsExprPart, IsShortExpression, IsWholeExpression}
use Rattle.algol_tree.specs.Refused.{Expressions, IsUnexpected, IsTooDeep, IsLongest}
use Rattle.algol_tree.specs.Due.{Value, one, Due, part}
use Rattle.algol_tree.specs.Reading.{Count, outside, ReadingStep, goes, over, stops, step, Reading, to, refused, cut_off, read_on, judged, reading, read}
use Rattle.algol_expr.proofs.Inner.{Inners}
use Rattle.algol_expr.proofs.Turns.{read_nothing}
use Rattle.algol_expr.proofs.Steps.{strict, judged_strict, inner_goes, step_any, stop_any, over_any, would_go, step_code}
use Rattle.algol_expr.proofs.Complete.{part_read}
use Rattle.algol_expr.proofs.Sound.{IsAll, nil, cons, Makes, it}
use Rattle.algol_expr.proofs.Texts.{text, complete}
use Rattle.algol_expr.proofs.Viable.{step_back, goes_steady, Fed, nothing_fed, fed, fed_inner, RefusedAt, fed_back, fed_any}
use Rattle.algol_expr.proofs.Idle.{cut_short}

-- what is due of an expression where d levels are open
abbrev pub all_due : ℕ → List Due
all_due d = part expr d ∷ []

made_part : (free d : ℕ) (from : List Token) (ws : List Value) → IsAll free (all_due d) [] from ws [] → (e : PExpr) × IsExprPart free expr d from e []
made_part free d from ws (cons _ _ _ _ _ _ _ _ x (nil _ _)) = of_makes ws [] x
  where
    of_makes : (ws : List Value) (rest : List Token) → Makes free expr d from [] ws rest → (e : PExpr) × IsExprPart free expr d from e rest
    of_makes _ _ (it e rest x) = (e, x)

-- an expression is read, whatever its limits
whole_reads : (free d : ℕ) (text : List Token) (e : PExpr) → IsWholeExpression free d text e [] → read free text (all_due d) [] ≡ to [] (one e ∷ [])
whole_reads free d text e x = part_read free expr d text e [] x.reads tt [] [] ∙ read_nothing free [] (one e ∷ [])

module _ (d : ℕ) (front : List Token) (t : Token) (ds : List Due) (us : List Value) (f : Fed (all_due d) [] front ds us) where
  inner : Inners ds
  inner = fed_inner (all_due d) ds [] us front f (tt, tt)

  -- the tokens before can be gone on with
  front_good : length front ≤ MOST_EXPRESSION_TOKENS → (more : List Token) × Expressions d (length more) (front ++ more)
  front_good short =
      let more = text ds in
      let c = complete (length more) ds us inner (omega arith) in
      let x = made_part (length more) d (front ++ more) c.0 (fed_back (length more) (all_due d) ds [] us c.0 front more [] (tt, tt) f (omega arith) c.1) in
      (more, (x.0, record { reads = x.1; short = inr (grind (arith, length-append)) }))

  -- with a token that goes on but for the limits, they can be gone on with
  token_good : (es : List Due) (xs : List Value) → ((free : ℕ) (more : List Token) → length more < free → step (judged free (t ∷ more)) ds t.spot t.kind outside us ≡ goes outside es xs) →
      Inners es → length front ≤ MOST_EXPRESSION_TOKENS → (more : List Token) × Expressions d (1 + length more) (front ++ t ∷ more)
  token_good es xs would i short =
      let more = text es in
      let free = 1 + length more in
      let c = complete free es xs i (omega arith) in
      let behind = step_back free ds es t more us xs c.0 [] inner (would free more (omega arith)) c.1 in
      let x = made_part free d (front ++ t ∷ more) c.0 (fed_back free (all_due d) ds [] us c.0 front (t ∷ more) [] (tt, tt) f (omega arith) behind) in
      (more, (x.0, record { reads = x.1; short = inr (grind (arith, length-append)) }))

  -- where the next token is of nothing that is due, the tokens before are none whole
  front_unfinished : (spot : Spot) → step strict ds t.spot t.kind outside us ≡ stops spot codes.Unexpected → (free : ℕ) → Expressions d free front → ⊥
  unfolding reading
  front_unfinished spot stop free x =
      let whole = whole_reads free d front x.0 x.1 in
      let ended : read free (front ++ []) (all_due d) [] ≡ cut_off = fed_any free (all_due d) ds [] us front [] (tt, tt) f ∙ cut_short ds t.spot t.kind us spot inner stop in
      let no : to [] (one x.0 ∷ []) ≡ cut_off = sym whole ∙ ap (λ ts. read free ts (all_due d) []) (sym (append-nil front)) ∙ ended in cc

  token_none : (spot : Spot) → step strict ds t.spot t.kind outside us ≡ stops spot codes.Unexpected → (free : ℕ) (more : List Token) → Expressions d free (front ++ t ∷ more) → ⊥
  unfolding reading
  token_none spot stop free more x =
      let whole = whole_reads free d (front ++ t ∷ more) x.0 x.1 in
      let halts : read free (t ∷ more) ds us ≡ refused (length (t ∷ more)) spot codes.Unexpected =
      ap (λ x. read_on x t more (reading free more)) (stop_any (judged free (t ∷ more)) ds t.spot t.kind us spot inner stop) in
      let no : to [] (one x.0 ∷ []) ≡ refused (length (t ∷ more)) spot codes.Unexpected =
      sym whole ∙ fed_any free (all_due d) ds [] us front (t ∷ more) (tt, tt) f ∙ halts in cc

  deep_none : (spot : Spot) → step strict ds t.spot t.kind outside us ≡ stops spot codes.TooDeep → (more : List Token) → Expressions d (length more) (front ++ t ∷ more) → ⊥
  unfolding reading
  deep_none spot stop more x =
      let free = length more in
      let whole = whole_reads free d (front ++ t ∷ more) x.0 x.1 in
      let halts : read free (t ∷ more) ds us ≡ refused (length (t ∷ more)) spot codes.TooDeep =
      ap (λ j. read_on (step j ds t.spot t.kind outside us) t more (reading free more)) (judged_strict free t more (omega arith))
      ∙ ap (λ x. read_on x t more (reading free more)) stop in
      let no : to [] (one x.0 ∷ []) ≡ refused (length (t ∷ more)) spot codes.TooDeep =
      sym whole ∙ fed_any free (all_due d) ds [] us front (t ∷ more) (tt, tt) f ∙ halts in cc

  over_none : (c : Count) (ws : List Value) → step strict ds t.spot t.kind outside us ≡ over c ws → (free : ℕ) (more : List Token) → Expressions d free (front ++ t ∷ more) → ⊥
  unfolding reading
  over_none c ws stop free more x =
      let whole = whole_reads free d (front ++ t ∷ more) x.0 x.1 in
      let halts : read free (t ∷ more) ds us ≡ to (t ∷ more) ws = ap (λ x. read_on x t more (reading free more)) (over_any (judged free (t ∷ more)) ds t.spot t.kind us c ws inner stop) in
      let no : to [] (one x.0 ∷ []) ≡ to (t ∷ more) ws = sym whole ∙ fed_any free (all_due d) ds [] us front (t ∷ more) (tt, tt) f ∙ halts in cc

-- the first token that no expression has there
pub unexpected_exact : (d : ℕ) (tokens : List Token) (left : ℕ) (spot : Spot) → length tokens ≤ left + MOST_EXPRESSION_TOKENS →
    RefusedAt (all_due d) [] tokens left spot codes.Unexpected → IsUnexpected (Expressions d) tokens spot
unexpected_exact d tokens left spot short r = record {
  front = r.front;
  token = r.t;
  rest = r.rest;
  is = r.is;
  place = sym (step_code strict r.ds r.t.spot r.t.kind r.us spot codes.Unexpected (inner d r.front r.t r.ds r.us r.fed_so) r.stops_so).0;
  good = front_good d r.front r.t r.ds r.us r.fed_so (grind (arith, length-append, ap length r.is, r.at_left));
  unfinished = front_unfinished d r.front r.t r.ds r.us r.fed_so spot r.stops_so;
  none = token_none d r.front r.t r.ds r.us r.fed_so spot r.stops_so;
}

not_here : (free : ℕ) (t : Token) (more : List Token) → length more < free → (judged free (t ∷ more)).here ≡ false
not_here free t more less = grind (arith, nat_tests)

-- the token that opens a level too much
pub deep_exact : (d : ℕ) (tokens : List Token) (left : ℕ) (spot : Spot) → length tokens ≤ left + MOST_EXPRESSION_TOKENS →
    RefusedAt (all_due d) [] tokens left spot codes.TooDeep → IsTooDeep (Expressions d) tokens spot
deep_exact d tokens left spot short r =
    let i = inner d r.front r.t r.ds r.us r.fed_so in
    let w = would_go r.ds r.t.spot r.t.kind r.us spot i r.stops_so in
    let short : length r.front ≤ MOST_EXPRESSION_TOKENS = grind (arith, length-append, ap length r.is, r.at_left) in
    record {
      front = r.front;
      token = r.t;
      ahead = [];
      rest = r.rest;
      is = r.is;
      place = sym (step_code strict r.ds r.t.spot r.t.kind r.us spot codes.TooDeep i r.stops_so).0;
      good = token_good d r.front r.t r.ds r.us r.fed_so w.ds w.us (λ free more less. w.so (judged free (r.t ∷ more)) (not_here free r.t more less))
          (inner_goes (record { here = false; before = false }) r.ds r.t.spot r.t.kind r.us outside w.ds w.us i (w.so (record { here = false; before = false }) refl)).1 short;
      none = deep_none d r.front r.t r.ds r.us r.fed_so spot r.stops_so;
    }

-- It is decided after the token from which on so many tokens are left.
abbrev pub IsLater : Reading → ℕ → Type 0
IsLater (to rest ws) n = length rest < n
IsLater (refused left spot code) n = left < n
IsLater cut_off n = ⊥

pub record GoesOver (due : List Due) (vs : List Value) (front : List Token) (t : Token) : Type 0 where
  pub ds : List Due
  pub us : List Value
  pub es : List Due
  pub xs : List Value
  pub fed_so : Fed due vs front ds us
  pub so : step strict ds t.spot t.kind outside us ≡ goes outside es xs

-- so that token is gone over
pub goes_over : (front : List Token) (t : Token) (rest : List Token) (due : List Due) (vs : List Value) → Inners due →
    IsLater (read 0 (front ++ t ∷ rest) due vs) (length (t ∷ rest)) → GoesOver due vs front t
unfolding reading
goes_over [] t rest due vs i later = at_token (step strict due t.spot t.kind outside vs) refl
    (subst (λ j. IsLater (read_on (step j due t.spot t.kind outside vs) t rest (reading 0 rest)) (length (t ∷ rest))) (judged_strict 0 t rest (omega arith)) later)
  where
    at_token : (x : ReadingStep) → step strict due t.spot t.kind outside vs ≡ x → IsLater (read_on x t rest (reading 0 rest)) (length (t ∷ rest)) → GoesOver due vs [] t
    at_token (goes c es xs) is later = record { ds = due; us = vs; es = es; xs = xs; fed_so = nothing_fed due vs; so = goes_steady strict due t.spot t.kind vs c es xs i is }
    at_token (over c xs) is later = absurd (omega arith)
    at_token (stops spot code) is later = absurd (omega arith)
goes_over (u ∷ front) t rest due vs i later = at_token (step strict due u.spot u.kind outside vs) refl
    (subst (λ j. IsLater (read_on (step j due u.spot u.kind outside vs) u (front ++ t ∷ rest) (reading 0 (front ++ t ∷ rest))) (length (t ∷ rest)))
    (judged_strict 0 u (front ++ t ∷ rest) (omega arith)) later)
    (λ ds us i later. goes_over front t rest ds us i later)
  where
    at_token : (x : ReadingStep) → step strict due u.spot u.kind outside vs ≡ x → IsLater (read_on x u (front ++ t ∷ rest) (reading 0 (front ++ t ∷ rest))) (length (t ∷ rest)) →
        ((ds : List Due) (us : List Value) → Inners ds → IsLater (read 0 (front ++ t ∷ rest) ds us) (length (t ∷ rest)) → GoesOver ds us front t) →
        GoesOver due vs (u ∷ front) t
    at_token (goes c ds us) is later more =
        let g = inner_goes strict due u.spot u.kind vs c ds us i is in
        let r = more ds us g.1 (subst (λ c. IsLater (reading 0 (front ++ t ∷ rest) c ds us) (length (t ∷ rest))) (sym g.0) later) in
        record {
          ds = r.ds;
          us = r.us;
          es = r.es;
          xs = r.xs;
          fed_so = fed due ds r.ds vs us r.us u front (goes_steady strict due u.spot u.kind vs c ds us i is) r.fed_so;
          so = r.so;
        }
    at_token (over c xs) is later more = absurd (grind (arith, length-append))
    at_token (stops spot code) is later more = absurd (grind (arith, length-append))

-- a token after as many as an expression may have
pub long_exact : (d : ℕ) (front : List Token) (t : Token) (rest : List Token) → length front ≡ MOST_EXPRESSION_TOKENS →
    IsLater (read 0 (front ++ t ∷ rest) (all_due d) []) (length (t ∷ rest)) → IsTooDeep (Expressions d) (front ++ t ∷ rest) t.spot
long_exact d front t rest e later =
    let r = goes_over front t rest (all_due d) [] (tt, tt) later in
    let i = inner d front t r.ds r.us r.fed_so in
    record {
      front = front;
      token = t;
      ahead = [];
      rest = rest;
      is = refl;
      place = refl;
      good = token_good d front t r.ds r.us r.fed_so r.es r.xs (λ free more less. step_any (judged free (t ∷ more)) r.ds t.spot t.kind r.us outside r.es r.xs i r.so)
          (inner_goes strict r.ds t.spot t.kind r.us outside r.es r.xs i r.so).1 (omega (arith, e));
      none = λ more x. too_long more (x.1).short;
    }
  where
    too_long : (more : List Token) → IsShortExpression (length more) (front ++ t ∷ more) [] → ⊥
    too_long more (inl le) = grind (arith, length-append, e)
    too_long more (inr le) = grind (arith, length-append, e)

-- the expression ends before the first token that none has there
pub longest_exact : (d : ℕ) (front : List Token) (t : Token) (rest : List Token) (ds : List Due) (us ws : List Value) (c : Count) → Fed (all_due d) [] front ds us →
    step strict ds t.spot t.kind outside us ≡ over c ws → IsLongest d (front ++ t ∷ rest) (t ∷ rest)
longest_exact d front t rest ds us ws c f o = record {
  front = front;
  token = t;
  after = rest;
  is = refl;
  follows = refl;
  none = over_none d front t ds us f c ws o;
}
