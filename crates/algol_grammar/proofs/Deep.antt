-- Where reading a program stops at a limit, that is the token that breaks it.
use Rattle.std.proofs.Common.{◌≡◌, ◌⊎◌, ◌+◌, ℕ, nat_le, nat_lt, Bool, true, false, ◌&&◌, List, [], ◌∷◌, ◌++◌, length, refl, sym, subst, ap, ◌∙◌, inl, inr, append_assoc, arith}
use Rattle.std.proofs.lemmas.Bool.Decides.{nat_tests}
use Rattle.algol_tree.specs.declared.TheConstants.{MOST_NESTING}
use Rattle.algol_tree.specs.declared.token.Spot.{Spot}
use Rattle.algol_tree.specs.declared.token.Token.{Token}
use Rattle.algol_tree.specs.declared.token.TokenKind.{TokenKind}
use Rattle.algol_tree.specs.declared.refusal.Code.{Code}
use Rattle.algol_tree.specs.declared.refusal.Code.TheVariants as codes
use Rattle.algol_tree.specs.declared.tree.Named.{Named}
use Rattle.algol_tree.specs.Refused.{Programs, IsTooDeep}
use Rattle.algol_tree.specs.Due.{Value, whole_program, Due, whole_ends, program, behind_start, Limit, plain, nests, label, begun, Turn, takes, makes, skips, closes, refuses}
use Rattle.algol_tree.specs.DueStmt.{turn_behind_start}
use Rattle.algol_tree.specs.Reading.{reading_turn, Count, outside, inside, full, limit_counted, Judged, limit_broken, broken_at, goes, stops, unless, stepped, step, to, refused, read_on, judged, unjudged, reading}
use Rattle.algol_expr.proofs.Inner.{IsInner, Inners}
use Rattle.algol_expr.proofs.Steps.{strict, judged_strict}
use Rattle.b67_list.proofs.Truths.{and_both, and_false}
use Rattle.algol_grammar.proofs.Labels.{all_fresh, is_fresh, Behind, fresh, a_name, is_own, Calm, takes_on, makes_on, skips_on, closes_on, refuses_on, turn_calm, AtName, is_label, is_none, is_alone, name_turn, step_behind}
use Rattle.algol_grammar.proofs.Places.{Place, out, within, count, stack, Placed}
use Rattle.algol_grammar.proofs.Sound.{place_next}
use Rattle.algol_grammar.proofs.Feed.{Fed, nothing_fed, fed, fed_placed, fed_any, fed_back, step_any, RefusedAt}
use Rattle.algol_grammar.proofs.Texts.{text_at, complete}
use Rattle.algol_grammar.proofs.Outset.{start, made_program, program_reads}

-- the limits are lifted for a token, and not for the one before it
abbrev lifted : Judged
lifted = record { here = false; before = true }

lifted_at : (free : ℕ) (t : Token) (more : List Token) → free ≡ 1 + length more → judged free (t ∷ more) ≡ lifted
lifted_at free t more e =
    let here : nat_lt free (length (t ∷ more)) ≡ false = grind (arith, nat_tests) in
    let before : nat_lt free (length (t ∷ more) + 1) ≡ true = grind (arith, nat_tests) in
    rw (here, before) refl

unjudged_at : (free : ℕ) (t : Token) (more : List Token) → free ≡ 1 + length (t ∷ more) → judged free (t ∷ more) ≡ unjudged
unjudged_at free t more e =
    let here : nat_lt free (length (t ∷ more)) ≡ false = grind (arith, nat_tests) in
    let before : nat_lt free (length (t ∷ more) + 1) ≡ false = grind (arith, nat_tests) in
    rw (here, before) refl

-- a limit that the token itself has to keep

own_place : (l : Limit) (here : Spot) → is_own l ≡ true → broken_at l here ≡ here
own_place plain here e = refl
own_place (nests d) here e = refl
own_place (label d spot) here e = cc
own_place (begun l) here e = own_place l here e

own_lifted : (l : Limit) → is_own l ≡ true → limit_broken l lifted ≡ false
own_lifted plain e = refl
own_lifted (nests d) e = and_false (nat_le MOST_NESTING d)
own_lifted (label d spot) e = cc
own_lifted (begun l) e = own_lifted l e

unless_place : (a b : Bool) (here at spot : Spot) (n : Count) (ds : List Due) (us : List Value) → at ≡ here →
    unless a here (unless b at (goes n ds us)) ≡ stops spot codes.TooDeep → spot ≡ here
unless_place true b here at spot n ds us p e = cc
unless_place false true here at spot n ds us p e = cc
unless_place false false here at spot n ds us p e = cc

-- the token breaks a limit, and without limits of its own it is gone over
record Own (due : List Due) (here : Spot) (k : TokenKind) (c : Count) (vs : List Value) (spot : Spot) : Type 0 where
  place : spot ≡ here
  n : Count
  ds : List Due
  us : List Value
  so : step lifted due here k c vs ≡ goes n ds us

-- the token before is a label and breaks a limit, and without its limit the token is gone over
record Before (due : List Due) (here : Spot) (k : TokenKind) (c : Count) (vs : List Value) (spot : Spot) : Type 0 where
  n : Count
  ds : List Due
  us : List Value
  so : step unjudged due here k c vs ≡ goes n ds us
  stays : step lifted due here k c vs ≡ stops spot codes.TooDeep

fresh_own : (due : List Due) (here : Spot) (k : TokenKind) (c : Count) (vs : List Value) (spot : Spot) → all_fresh due ≡ true →
    step strict due here k c vs ≡ stops spot codes.TooDeep → Own due here k c vs spot
fresh_own [] here k c vs spot f e = cc
fresh_own (s ∷ due) here k c vs spot f e = let p = and_both (is_fresh s) (all_fresh due) f in
    by_turn (reading_turn s here k) refl (turn_calm s here k p.0) e (λ c vs e. fresh_own due here k c vs spot p.1 e)
  where
    by_turn : (x : Turn) → reading_turn s here k ≡ x → Calm here x → stepped strict c here x due vs (step strict due here k) ≡ stops spot codes.TooDeep →
        ((c : Count) (vs : List Value) → step strict due here k c vs ≡ stops spot codes.TooDeep → Own due here k c vs spot) → Own (s ∷ due) here k c vs spot
    by_turn _ is (takes_on l es o b) e again = record {
      place = unless_place (full c && true) (limit_broken l strict) here (broken_at l here) spot (limit_counted l c) (es ++ due) vs (own_place l here o) e;
      n = limit_counted l c;
      ds = es ++ due;
      us = vs;
      so = ap (λ x. stepped lifted c here x due vs (step lifted due here k)) is
          ∙ ap (λ a. unless a here (unless (limit_broken l lifted) (broken_at l here) (goes (limit_counted l c) (es ++ due) vs))) (and_false (full c))
          ∙ ap (λ a. unless a (broken_at l here) (goes (limit_counted l c) (es ++ due) vs)) (own_lifted l o);
    }
    by_turn _ is (makes_on m) e again = let r = again c (m vs) e in
        record { place = r.place; n = r.n; ds = r.ds; us = r.us; so = ap (λ x. stepped lifted c here x due vs (step lifted due here k)) is ∙ r.so }
    by_turn _ is skips_on e again = let r = again c vs e in
        record { place = r.place; n = r.n; ds = r.ds; us = r.us; so = ap (λ x. stepped lifted c here x due vs (step lifted due here k)) is ∙ r.so }
    by_turn _ is closes_on e again = let r = again outside vs e in
        record { place = r.place; n = r.n; ds = r.ds; us = r.us; so = ap (λ x. stepped lifted c here x due vs (step lifted due here k)) is ∙ r.so }
    by_turn _ is refuses_on e again = cc

label_place : (b : Bool) (at spot : Spot) (n : Count) (ds : List Due) (us : List Value) → unless b at (goes n ds us) ≡ stops spot codes.TooDeep → spot ≡ at
label_place true at spot n ds us e = cc
label_place false at spot n ds us e = cc

-- after a name, where no expression is being read
name_broken : (name : Named) (d : ℕ) (due : List Due) (here : Spot) (k : TokenKind) (vs : List Value) (spot : Spot) → all_fresh due ≡ true →
    step strict (behind_start name d ∷ due) here k outside vs ≡ stops spot codes.TooDeep →
    Own (behind_start name d ∷ due) here k outside vs spot ⊎ ((spot ≡ name.spot) × Before (behind_start name d ∷ due) here k outside vs spot)
name_broken name d due here k vs spot f e = by_turn (turn_behind_start name d k) refl (name_turn name d k) e
  where
    by_turn : (x : Turn) → turn_behind_start name d k ≡ x → AtName name d x → stepped strict outside here x due vs (step strict due here k) ≡ stops spot codes.TooDeep →
        Own (behind_start name d ∷ due) here k outside vs spot ⊎ ((spot ≡ name.spot) × Before (behind_start name d ∷ due) here k outside vs spot)
    by_turn _ is (is_label es x) e = inr (
      label_place (nat_le MOST_NESTING d && true) name.spot spot outside (es ++ due) vs e,
      record {
        n = outside;
        ds = es ++ due;
        us = vs;
        so = ap (λ x. stepped unjudged outside here x due vs (step unjudged due here k)) is
            ∙ ap (λ a. unless a name.spot (goes outside (es ++ due) vs)) (and_false (nat_le MOST_NESTING d));
        stays = ap (λ x. stepped lifted outside here x due vs (step lifted due here k)) is ∙ e;
      },
    )
    by_turn _ is (is_none es x) e = cc
    by_turn _ is (is_alone m) e = let r = fresh_own due here k outside (m vs) spot f e in
        inl (record { place = r.place; n = r.n; ds = r.ds; us = r.us; so = ap (λ x. stepped lifted outside here x due vs (step lifted due here k)) is ∙ r.so })

-- within an expression no name is due
within_fresh : (spot : Spot) (due : List Due) → Behind spot due → (a b : List Due) → Inners a → due ≡ a ++ whole_ends ∷ b → all_fresh due ≡ true
within_fresh spot _ (fresh due f) a b i e = f
within_fresh spot _ (a_name n d due p f) [] b i e = cc
within_fresh spot _ (a_name n d due p f) (s ∷ a) b i e = let same : s ≡ behind_start n d = cc in absurd (subst IsInner same i.0)

place_broken : (q : Place) (before : Spot) (t : Token) (vs : List Value) (spot : Spot) → Placed q → Behind before (stack q) →
    step strict (stack q) t.spot t.kind (count q) vs ≡ stops spot codes.TooDeep →
    Own (stack q) t.spot t.kind (count q) vs spot ⊎ ((spot ≡ before) × Before (stack q) t.spot t.kind (count q) vs spot)
place_broken (within c a b) before t vs spot i x e = inl (fresh_own (a ++ whole_ends ∷ b) t.spot t.kind (inside c) vs spot (within_fresh before _ x a b i.0 refl) e)
place_broken (out due) before t vs spot i x e = by_first due x e
  where
    at_name : (n : Named) (due : List Due) → n.spot ≡ before → Own due t.spot t.kind outside vs spot ⊎ ((spot ≡ n.spot) × Before due t.spot t.kind outside vs spot) →
        Own due t.spot t.kind outside vs spot ⊎ ((spot ≡ before) × Before due t.spot t.kind outside vs spot)
    at_name n due p (inl o) = inl o
    at_name n due p (inr b) = inr (b.0 ∙ p, b.1)

    by_first : (due : List Due) → Behind before due → step strict due t.spot t.kind outside vs ≡ stops spot codes.TooDeep →
        Own due t.spot t.kind outside vs spot ⊎ ((spot ≡ before) × Before due t.spot t.kind outside vs spot)
    by_first _ (fresh due f) e = inl (fresh_own due t.spot t.kind outside vs spot f e)
    by_first _ (a_name n d due p f) e = at_name n (behind_start n d ∷ due) p (name_broken n d due t.spot t.kind vs spot f e)

-- tokens that are gone over, by the last of them
data View (p : Place) (vs : List Value) : List Token → Place → List Value → Type 0 where
  none : View p vs [] p vs
  last : (front : List Token) (u : Token) (r q : Place) (xs us : List Value) → Fed p vs front r xs →
      step strict (stack r) u.spot u.kind (count r) xs ≡ goes (count q) (stack q) us → View p vs (front ++ u ∷ []) q us

view : (p q : Place) (vs us : List Value) (front : List Token) → Fed p vs front q us → View p vs front q us
view _ _ _ _ _ (nothing_fed p vs) = none
view _ _ _ _ _ (fed p t vs xs us c ds front q n e f) = push front q us (view n.q q xs us front f)
  where
    push : (front : List Token) (q : Place) (us : List Value) → View n.q xs front q us → View p vs (t ∷ front) q us
    push _ _ _ none = last [] t p n.q vs xs (nothing_fed p vs) (e ∙ ap (λ c. goes c ds xs) n.count_is ∙ ap (λ ds. goes (count n.q) ds xs) n.stack_is)
    push _ _ _ (last front u r q ys us g so) = last (t ∷ front) u r q ys us (fed p t vs xs ys c ds front r n e g) so

fed_behind : (p q : Place) (vs us : List Value) (front : List Token) (before : Spot) → Behind before (stack p) → Fed p vs front q us → (spot : Spot) × Behind spot (stack q)
fed_behind _ _ _ _ _ before b (nothing_fed p vs) = (before, b)
fed_behind _ _ _ _ _ before b (fed p t vs xs us c ds front q n e f) = fed_behind n.q q xs us front t.spot
    (subst (Behind t.spot) n.stack_is (step_behind strict before (stack p) t.spot t.kind (count p) vs c ds xs b e)) f

-- what a program that goes through a token comes to, where the device stops there
stopped_none : (free : ℕ) (j : Judged) (front : List Token) (t : Token) (more : List Token) (q : Place) (us : List Value) (spot : Spot) → Fed start [] front q us →
    judged free (t ∷ more) ≡ j → step j (stack q) t.spot t.kind (count q) us ≡ stops spot codes.TooDeep → Programs free (front ++ t ∷ more) → ⊥
unfolding reading
stopped_none free j front t more q us spot f g stop x =
    let halts : reading free (t ∷ more) (count q) (stack q) us ≡ refused (length (t ∷ more)) spot codes.TooDeep =
    ap (λ j. read_on (step j (stack q) t.spot t.kind (count q) us) t more (reading free more)) g ∙ ap (λ x. read_on x t more (reading free more)) stop in
    let no : to [] (whole_program x.0 ∷ []) ≡ refused (length (t ∷ more)) spot codes.TooDeep =
    sym (program_reads free (front ++ t ∷ more) x) ∙ fed_any free start q [] us front (t ∷ more) f ∙ halts in cc

-- the token itself breaks the limit
own_exact : (front : List Token) (t : Token) (rest : List Token) (q : Place) (us : List Value) (spot : Spot) → Fed start [] front q us →
    step strict (stack q) t.spot t.kind (count q) us ≡ stops spot codes.TooDeep → Own (stack q) t.spot t.kind (count q) us spot → IsTooDeep Programs (front ++ t ∷ rest) spot
own_exact front t rest q us spot f stop o = record {
  front = front;
  token = t;
  ahead = [];
  rest = rest;
  is = refl;
  place = o.place;
  good =
      let n = place_next lifted q t us o.n o.ds o.us (fed_placed start q [] us front refl f) o.so in
      let more = text_at n.q in
      let free = 1 + length more in
      let b = fed_back free start q [] us front (t ∷ more) f (omega arith) tt in
      let j = lifted_at free t more refl in
      let c = complete free n.q o.us n.placed (n.fits free more j b.0) (omega arith) in
      (more, made_program free (front ++ t ∷ more) c.0 (b.1 c.0 [] (n.back free more j b.0 c.0 [] c.1)));
  none = λ more x. stopped_none (length more) strict front t more q us spot f (judged_strict (length more) t more (omega arith)) stop x;
}

-- the token before is a label that breaks it
label_exact : (front : List Token) (u t : Token) (rest : List Token) (r q : Place) (xs us : List Value) (spot : Spot) → Fed start [] front r xs →
    step strict (stack r) u.spot u.kind (count r) xs ≡ goes (count q) (stack q) us → Fed start [] (front ++ u ∷ []) q us → spot ≡ u.spot →
    Before (stack q) t.spot t.kind (count q) us spot → IsTooDeep Programs ((front ++ u ∷ []) ++ t ∷ rest) spot
label_exact front u t rest r q xs us spot g so f place o = record {
  front = front;
  token = u;
  ahead = t ∷ [];
  rest = rest;
  is = append_assoc front (u ∷ []) (t ∷ rest);
  place = place;
  good =
      let m = place_next lifted r u xs (count q) (stack q) us (fed_placed start r [] xs front refl g)
      (step_any lifted (stack r) u.spot u.kind (count r) xs (count q) (stack q) us so) in
      let n = place_next unjudged m.q t us o.n o.ds o.us m.placed (subst (λ ds. step unjudged ds t.spot t.kind (count m.q) us ≡ goes o.n o.ds o.us) m.stack_is
      (subst (λ c. step unjudged (stack q) t.spot t.kind c us ≡ goes o.n o.ds o.us) m.count_is o.so)) in
      let more = text_at n.q in
      let free = 1 + length (t ∷ more) in
      let b = fed_back free start r [] xs front (u ∷ t ∷ more) g (omega arith) tt in
      let i = lifted_at free u (t ∷ more) refl in
      let fits = m.fits free (t ∷ more) i b.0 in
      let j = unjudged_at free t more refl in
      let c = complete free n.q o.us n.placed (n.fits free more j fits) (omega arith) in
      let at_t = n.back free more j fits c.0 [] c.1 in
      (more, made_program free (front ++ u ∷ t ∷ more) c.0 (b.1 c.0 [] (m.back free (t ∷ more) i b.0 c.0 [] at_t)));
  none = λ more x. stopped_none (length (t ∷ more)) lifted (front ++ u ∷ []) t more q us spot f (lifted_at (length (t ∷ more)) t more (omega arith)) o.stays
      (subst (Programs (length (t ∷ more))) (sym (append_assoc front (u ∷ []) (t ∷ more))) x);
}

pub deep_exact : (tokens : List Token) (left : ℕ) (spot : Spot) → RefusedAt start [] tokens left spot codes.TooDeep → IsTooDeep Programs tokens spot
deep_exact tokens left spot r = subst (λ ts. IsTooDeep Programs ts spot) (sym r.is)
    (by_last r.front r.q r.us (view start r.q [] r.us r.front r.fed_so) r.fed_so r.stops_so)
  where
    by_last : (front : List Token) (q : Place) (us : List Value) → View start [] front q us → Fed start [] front q us →
        step strict (stack q) r.t.spot r.t.kind (count q) us ≡ stops spot codes.TooDeep → IsTooDeep Programs (front ++ r.t ∷ r.rest) spot
    by_last _ _ _ none f stop = own_exact [] r.t r.rest start [] spot f stop (fresh_own (program ∷ []) r.t.spot r.t.kind outside [] spot refl stop)
    by_last _ _ _ (last front u p q xs us g so) f stop =
        let b = fed_behind start p [] xs front u.spot (fresh (program ∷ []) refl) g in
        by_cause (place_broken q u.spot r.t us spot (fed_placed start q [] us (front ++ u ∷ []) refl f)
        (step_behind strict b.0 (stack p) u.spot u.kind (count p) xs (count q) (stack q) us b.1 so) stop)
      where
        by_cause : Own (stack q) r.t.spot r.t.kind (count q) us spot ⊎ ((spot ≡ u.spot) × Before (stack q) r.t.spot r.t.kind (count q) us spot) →
            IsTooDeep Programs ((front ++ u ∷ []) ++ r.t ∷ r.rest) spot
        by_cause (inl o) = own_exact (front ++ u ∷ []) r.t r.rest q us spot f stop o
        by_cause (inr o) = label_exact front u r.t r.rest p q xs us spot g so f o.0 o.1

-- the device stops for no other reason

unless_code : (a b : Bool) (here at spot : Spot) (n : Count) (ds : List Due) (us : List Value) (code : Code) → unless a here (unless b at (goes n ds us)) ≡ stops spot code →
    codes.TooDeep ≡ code
unless_code true b here at spot n ds us code e = cc
unless_code false true here at spot n ds us code e = cc
unless_code false false here at spot n ds us code e = cc

pub step_code : (j : Judged) (due : List Due) (here : Spot) (k : TokenKind) (c : Count) (vs : List Value) (spot : Spot) (code : Code) →
    step j due here k c vs ≡ stops spot code → (code ≡ codes.Unexpected) ⊎ (code ≡ codes.TooDeep)
step_code j [] here k c vs spot code e = cc
step_code j (s ∷ due) here k c vs spot code e = by_turn (reading_turn s here k) e (λ c vs e. step_code j due here k c vs spot code e)
  where
    by_turn : (x : Turn) → stepped j c here x due vs (step j due here k) ≡ stops spot code →
        ((c : Count) (vs : List Value) → step j due here k c vs ≡ stops spot code → (code ≡ codes.Unexpected) ⊎ (code ≡ codes.TooDeep)) →
        (code ≡ codes.Unexpected) ⊎ (code ≡ codes.TooDeep)
    by_turn (takes l es) e again =
        inr (sym (unless_code (full c && j.here) (limit_broken l j) here (broken_at l here) spot (limit_counted l c) (es ++ due) vs code e))
    by_turn (makes m) e again = again c (m vs) e
    by_turn skips e again = again c vs e
    by_turn closes e again = again outside vs e
    by_turn refuses e again = let same : codes.Unexpected ≡ code = cc in inl (sym same)
