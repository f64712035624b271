-- Reading a program stands outside of all expressions or within one that stands in no other; what is read from there on is of the grammar.
use Rattle.std.proofs.Common.{◌≡◌, ◌⊎◌, ◌≤◌, ◌+◌, ℕ, nat_le, nat_lt, Bool, true, false, ◌&&◌, List, [], ◌∷◌, ◌++◌, length, refl, sym, subst, ap, ◌∙◌, inl, inr, append_assoc, arith}
use Rattle.std.proofs.lemmas.Bool.Decides.{nat_tests}
use Rattle.algol_tree.specs.declared.TheConstants.{MOST_NESTING, MOST_EXPRESSION_TOKENS}
use Rattle.algol_tree.specs.declared.token.Token.{Token}
use Rattle.algol_tree.specs.Operators.{expr}
use Rattle.algol_tree.specs.Expressions.{TokenOpens}
use Rattle.algol_tree.specs.Due.{Value, one, Due, part, whole, whole_ends, plain, nests, label, begun, Turn, takes, makes, skips, closes, refuses, followed, begins}
use Rattle.algol_tree.specs.DueExpr.{turn_expr}
use Rattle.algol_tree.specs.Reading.{reading_turn, Count, outside, inside, Judged, goes, stepped, step, judged}
use Rattle.algol_expr.proofs.Reading.{Takes, taken, refused_}
use Rattle.algol_expr.proofs.Inner.{Inners, Stays, inner_stays}
use Rattle.algol_expr.proofs.Steps.{to_opens, unless_goes, goes_is}
use Rattle.algol_expr.proofs.Sound as inner
use Rattle.algol_expr.proofs.Sound.{Leaves, left_out, makes_it, Makes, it}
use Rattle.algol_grammar.proofs.Meant.{gives, IsDue, IsAll, cons, in_two, Taken}
use Rattle.algol_grammar.proofs.SoundDue.{is_outer, all_outer, outer_append, back, leave}
use Rattle.algol_grammar.proofs.Keeps.{Keeps, keeps}

-- outside of all expressions; or within one of which so many tokens are read, with what is due of it and what is due after it
pub data Place : Type 0 where
  out : List Due → Place
  within : ℕ → List Due → List Due → Place

abbrev pub count : Place → Count
count (out due) = outside
count (within c a b) = inside c

abbrev pub stack : Place → List Due
stack (out due) = due
stack (within c a b) = a ++ whole_ends ∷ b

-- it is such a place
abbrev pub Placed : Place → Type 0
Placed (out due) = all_outer due ≡ true
Placed (within c a b) = Inners a × (all_outer b ≡ true)

-- no token too much is read of the expression
abbrev pub Fits : ℕ → Place → List Token → Type 0
Fits free (out due) from = Unit {0}
Fits free (within c a b) from = (c ≤ MOST_EXPRESSION_TOKENS) ⊎ (c + length from ≤ free + MOST_EXPRESSION_TOKENS)

pub record Within (free c : ℕ) (a b : List Due) (vs : List Value) (from : List Token) (ws : List Value) (rest : List Token) : Type 0 where
  pub us : List Value
  pub mid : List Token
  pub first : inner.IsAll free a vs from us mid
  pub room : (c + length from ≤ length mid + MOST_EXPRESSION_TOKENS) ⊎ (c + length from ≤ free + MOST_EXPRESSION_TOKENS)
  pub second : IsAll free b us mid ws rest

-- The tokens up to `rest` are those of what is due there, and make the values vs into ws.
abbrev pub IsFrom : ℕ → Place → List Value → List Token → List Value → List Token → Type 0
IsFrom free (out due) vs from ws rest = IsAll free due vs from ws rest
IsFrom free (within c a b) vs from ws rest = Within free c a b vs from ws rest

-- where a token leads to, and back
pub record Next (j : Judged) (p : Place) (t : Token) (vs : List Value) (c : Count) (ds : List Due) (us : List Value) : Type 0 where
  pub q : Place
  pub count_is : c ≡ count q
  pub stack_is : ds ≡ stack q
  pub placed : Placed q
  pub fits : (free : ℕ) (ts : List Token) → judged free (t ∷ ts) ≡ j → Fits free p (t ∷ ts) → Fits free q ts
  pub back : (free : ℕ) (ts : List Token) → judged free (t ∷ ts) ≡ j → Fits free p (t ∷ ts) → (ws : List Value) (rest : List Token) → IsFrom free q us ts ws rest →
      IsFrom free p vs (t ∷ ts) ws rest

to_opens_before : (free d : ℕ) (t : Token) (ts : List Token) → (nat_le MOST_NESTING d && (judged free (t ∷ ts)).before) ≡ false → (u : Token) → TokenOpens free d (u ∷ t ∷ ts)
to_opens_before free d t ts e u = by_test (nat_le MOST_NESTING d) (nat_lt free (length (t ∷ ts) + 1)) refl refl e
  where
    by_test : (a b : Bool) → nat_le MOST_NESTING d ≡ a → nat_lt free (length (t ∷ ts) + 1) ≡ b → (a && b) ≡ false → TokenOpens free d (u ∷ t ∷ ts)
    by_test true true p q e = cc
    by_test true false p q e = inr (grind (arith, nat_tests))
    by_test false b p q e = inl (grind (arith, nat_tests))

pub whole_or : (s : Due) → ((d : ℕ) × (s ≡ whole d)) ⊎ ((d : ℕ) → s ≡ whole d → ⊥)
whole_or (whole d) = inl (d, refl)
whole_or s = inr (λ d e. cc)

pub outer_first : (s : Due) (due : List Due) → all_outer (s ∷ due) ≡ true → (is_outer s ≡ true) × (all_outer due ≡ true)
outer_first s due e = by_first (is_outer s) e
  where
    by_first : (b : Bool) → (b && all_outer due) ≡ true → (b ≡ true) × (all_outer due ≡ true)
    by_first true e = (refl, e)
    by_first false e = cc

-- the tokens after one that is taken are those of what it makes due
taken_back : (free : ℕ) (s : Due) (due es : List Due) (t : Token) (ts : List Token) (vs us ws : List Value) (rest : List Token) → vs ≡ us →
    ((ms : List Value) (mid : List Token) → IsAll free es vs ts ms mid → IsDue free s vs (t ∷ ts) ms mid) → IsAll free (es ++ due) us ts ws rest → IsAll free (s ∷ due) vs (t ∷ ts) ws rest
taken_back free s due es t ts vs us ws rest e f x =
    let r = in_two free es due vs ts ws rest (subst (λ us. IsAll free (es ++ due) us ts ws rest) (sym e) x) in
    cons s due vs r.us ws (t ∷ ts) r.mid rest (f r.us r.mid r.first) r.second

turn_next : (j : Judged) (s : Due) (due : List Due) (t : Token) (vs : List Value) (c : Count) (ds : List Due) (us : List Value) → ((d : ℕ) → s ≡ whole d → ⊥) → all_outer due ≡ true →
    (x : Turn) → reading_turn s t.spot t.kind ≡ x → Keeps x → stepped j outside t.spot x due vs (step j due t.spot t.kind) ≡ goes c ds us →
    ((vs : List Value) → step j due t.spot t.kind outside vs ≡ goes c ds us → Next j (out due) t vs c ds us) → Next j (out (s ∷ due)) t vs c ds us
turn_next j s due t vs c ds us n o (takes plain es) is k e again = let p = goes_is outside c (es ++ due) ds vs us e in record {
  q = out (es ++ due);
  count_is = sym p.0;
  stack_is = sym p.1;
  placed = outer_append es due k o;
  fits = λ free ts g f. tt;
  back = λ free ts g f ws rest x. taken_back free s due es t ts vs us ws rest p.2
      (λ ms mid y. back free s t ts vs ms mid n (subst (λ x. Taken free x t ts vs ms mid) (sym is) y)) x;
}
turn_next j s due t vs c ds us n o (takes (nests d) es) is k e again =
    let w = unless_goes (nat_le MOST_NESTING d && j.here) t.spot (goes outside (es ++ due) vs) c ds us e in
    let p = goes_is outside c (es ++ due) ds vs us w.1 in
    record {
      q = out (es ++ due);
      count_is = sym p.0;
      stack_is = sym p.1;
      placed = outer_append es due k o;
      fits = λ free ts g f. tt;
      back = λ free ts g f ws rest x. taken_back free s due es t ts vs us ws rest p.2
          (λ ms mid y. back free s t ts vs ms mid n (subst (λ x. Taken free x t ts vs ms mid) (sym is)
          (to_opens free d (t ∷ ts) (ap (λ (j : Judged). nat_le MOST_NESTING d && j.here) g ∙ w.0), y))) x;
    }
turn_next j s due t vs c ds us n o (takes (label d spot) es) is k e again =
    let w = unless_goes (nat_le MOST_NESTING d && j.before) spot (goes outside (es ++ due) vs) c ds us e in
    let p = goes_is outside c (es ++ due) ds vs us w.1 in
    record {
      q = out (es ++ due);
      count_is = sym p.0;
      stack_is = sym p.1;
      placed = outer_append es due k o;
      fits = λ free ts g f. tt;
      back = λ free ts g f ws rest x. taken_back free s due es t ts vs us ws rest p.2
          (λ ms mid y. back free s t ts vs ms mid n (subst (λ x. Taken free x t ts vs ms mid) (sym is)
          (to_opens_before free d t ts (ap (λ (j : Judged). nat_le MOST_NESTING d && j.before) g ∙ w.0), y))) x;
    }
turn_next j s due t vs c ds us n o (takes (begun l) es) is k e again = absurd k
turn_next j s due t vs c ds us n o (makes m) is k e again = let r = again (m vs) e in record {
  q = r.q;
  count_is = r.count_is;
  stack_is = r.stack_is;
  placed = r.placed;
  fits = λ free ts g f. r.fits free ts g tt;
  back = λ free ts g f ws rest x. cons s due vs (m vs) ws (t ∷ ts) (t ∷ ts) rest
      (leave free s t.spot t.kind vs (m vs) (t ∷ ts) (t ∷ ts) n refl (subst (λ x. Leaves x vs (t ∷ ts) (m vs) (t ∷ ts)) (sym is) makes_it)) (r.back free ts g tt ws rest x);
}
turn_next j s due t vs c ds us n o skips is k e again = let r = again vs e in record {
  q = r.q;
  count_is = r.count_is;
  stack_is = r.stack_is;
  placed = r.placed;
  fits = λ free ts g f. r.fits free ts g tt;
  back = λ free ts g f ws rest x. cons s due vs vs ws (t ∷ ts) (t ∷ ts) rest
      (leave free s t.spot t.kind vs vs (t ∷ ts) (t ∷ ts) n refl (subst (λ x. Leaves x vs (t ∷ ts) vs (t ∷ ts)) (sym is) left_out)) (r.back free ts g tt ws rest x);
}
turn_next j s due t vs c ds us n o closes is k e again = absurd k
turn_next j s due t vs c ds us n o refuses is k e again = cc

-- an expression that stands in no other begins
whole_begins : (free d : ℕ) (due es : List Due) (t : Token) (ts : List Token) (vs us ws : List Value) (rest : List Token) → vs ≡ us →
    ((ms : List Value) (mid : List Token) → inner.IsAll free es vs ts ms mid → Makes free expr d (t ∷ ts) vs ms mid) → Within free 1 es due us ts ws rest →
    IsAll free (whole d ∷ due) vs (t ∷ ts) ws rest
whole_begins free d due es t ts vs us ws rest e f w =
    made w.us w.mid (f w.us w.mid (subst (λ us. inner.IsAll free es us ts w.us w.mid) (sym e) w.first)) w.room w.second
  where
    made : (ms : List Value) (mid : List Token) → Makes free expr d (t ∷ ts) vs ms mid →
        (1 + length ts ≤ length mid + MOST_EXPRESSION_TOKENS) ⊎ (1 + length ts ≤ free + MOST_EXPRESSION_TOKENS) → IsAll free due ms mid ws rest →
        IsAll free (whole d ∷ due) vs (t ∷ ts) ws rest
    made _ _ (it x mid y) (inl le) z = cons (whole d) due vs (one x ∷ vs) ws (t ∷ ts) mid rest (gives x mid (record { reads = y; short = inl (omega (arith, le)) })) z
    made _ _ (it x mid y) (inr le) z = cons (whole d) due vs (one x ∷ vs) ws (t ∷ ts) mid rest (gives x mid (record { reads = y; short = inr (omega (arith, le)) })) z

whole_next : (j : Judged) (d : ℕ) (due : List Due) (t : Token) (vs : List Value) (c : Count) (ds : List Due) (us : List Value) → all_outer due ≡ true →
    (x : Turn) → turn_expr d t.spot t.kind ≡ x → Takes x → Stays x →
    stepped j outside t.spot (begins (followed x (whole_ends ∷ []))) due vs (step j due t.spot t.kind) ≡ goes c ds us → Next j (out (whole d ∷ due)) t vs c ds us
whole_next j d due t vs c ds us o _ is (taken plain es) st e = let p = goes_is (inside 1) c ((es ++ whole_ends ∷ []) ++ due) ds vs us e in record {
  q = within 1 es due;
  count_is = sym p.0;
  stack_is = sym p.1 ∙ append_assoc es (whole_ends ∷ []) due;
  placed = (st, o);
  fits = λ free ts g f. inl (omega arith);
  back = λ free ts g f ws rest x. whole_begins free d due es t ts vs us ws rest p.2
      (λ ms mid y. inner.back free (part expr d) t ts vs ms mid tt (subst (λ x. inner.Taken free x t ts vs ms mid) (sym is) y)) x;
}
whole_next j d due t vs c ds us o _ is (taken (nests n) es) st e =
    let w = unless_goes (nat_le MOST_NESTING n && j.here) t.spot (goes (inside 1) ((es ++ whole_ends ∷ []) ++ due) vs) c ds us e in
    let p = goes_is (inside 1) c ((es ++ whole_ends ∷ []) ++ due) ds vs us w.1 in
    record {
      q = within 1 es due;
      count_is = sym p.0;
      stack_is = sym p.1 ∙ append_assoc es (whole_ends ∷ []) due;
      placed = (st, o);
      fits = λ free ts g f. inl (omega arith);
      back = λ free ts g f ws rest x. whole_begins free d due es t ts vs us ws rest p.2
          (λ ms mid y. inner.back free (part expr d) t ts vs ms mid tt (subst (λ x. inner.Taken free x t ts vs ms mid) (sym is)
          (to_opens free n (t ∷ ts) (ap (λ (j : Judged). nat_le MOST_NESTING n && j.here) g ∙ w.0), y))) x;
    }
whole_next j d due t vs c ds us o _ is (taken (label n spot) es) st e = absurd st
whole_next j d due t vs c ds us o _ is (taken (begun l) es) st e = absurd st
whole_next j d due t vs c ds us o _ is refused_ st e = cc

pub out_next : (j : Judged) (due : List Due) (t : Token) (vs : List Value) (c : Count) (ds : List Due) (us : List Value) → all_outer due ≡ true →
    step j due t.spot t.kind outside vs ≡ goes c ds us → Next j (out due) t vs c ds us
out_next j [] t vs c ds us o e = cc
out_next j (s ∷ due) t vs c ds us o e = by_first (whole_or s) (λ vs e. out_next j due t vs c ds us (outer_first s due o).1 e)
  where
    of_whole : (d : ℕ) → s ≡ whole d → Next j (out (s ∷ due)) t vs c ds us
    of_whole d q =
        let e2 : stepped j outside t.spot (begins (followed (turn_expr d t.spot t.kind) (whole_ends ∷ []))) due vs (step j due t.spot t.kind) ≡ goes c ds us =
        ap (λ s. stepped j outside t.spot (reading_turn s t.spot t.kind) due vs (step j due t.spot t.kind)) (sym q) ∙ e in
        subst (λ s. Next j (out (s ∷ due)) t vs c ds us) (sym q) (whole_next j d due t vs c ds us (outer_first s due o).1 (turn_expr d t.spot t.kind) refl
        (inner.part_takes expr d t.spot t.kind) (inner_stays (part expr d) t.spot t.kind tt) e2)

    by_first : ((d : ℕ) × (s ≡ whole d)) ⊎ ((d : ℕ) → s ≡ whole d → ⊥) → ((vs : List Value) → step j due t.spot t.kind outside vs ≡ goes c ds us → Next j (out due) t vs c ds us) →
        Next j (out (s ∷ due)) t vs c ds us
    by_first (inl w) again = of_whole w.0 w.1
    by_first (inr n) again = turn_next j s due t vs c ds us n (outer_first s due o).1 (reading_turn s t.spot t.kind) refl (keeps s t.spot t.kind (outer_first s due o).0 n) e again
