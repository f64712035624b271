-- What is read of a program is of the grammar.
use Rattle.std.proofs.Common.{◌≡◌, ◌⊎◌, ◌≤◌, ◌+◌, ℕ, nat_le, Bool, true, false, ◌&&◌, List, [], ◌∷◌, ◌++◌, length, refl, sym, subst, ap, ◌∙◌, inl, inr, arith}
use Rattle.std.proofs.lemmas.Bool.Decides.{nat_tests}
use Rattle.algol_tree.specs.declared.TheConstants.{MOST_EXPRESSION_TOKENS}
use Rattle.algol_tree.specs.declared.token.Spot.{Spot}
use Rattle.algol_tree.specs.declared.token.Token.{Token}
use Rattle.algol_tree.specs.declared.token.TokenKind.{TokenKind}
use Rattle.algol_tree.specs.declared.token.TokenKind.TheVariants as kinds
use Rattle.algol_tree.specs.Plain.{PProgram}
use Rattle.algol_tree.specs.Programs.{IsProgram}
use Rattle.algol_tree.specs.Due.{Value, whole_program, Due, program, whole, whole_ends, plain, nests, label, begun, Turn, takes, makes, skips, closes, refuses, followed, begins}
use Rattle.algol_tree.specs.DueExpr.{turn_expr}
use Rattle.algol_tree.specs.Operators.{expr}
use Rattle.algol_tree.specs.Reading.{reading_turn, Count, outside, inside, full, Judged, ReadingStep, goes, over, stops, unless, stepped, step, to, read_on, read_end, judged, unjudged, nowhere, reading, read}
use Rattle.algol_expr.proofs.Reading.{Takes, taken, refused_, joined, step_append}
use Rattle.algol_expr.proofs.Inner.{Inners}
use Rattle.algol_expr.proofs.Steps.{unless_over, goes_is, inner_goes}
use Rattle.algol_expr.proofs.Sound as inner
use Rattle.algol_expr.proofs.Sound.{Leaves, left_out, makes_it}
use Rattle.algol_expr.proofs.Viable as viable
use Rattle.algol_grammar.proofs.Meant.{Gives, gives, IsAll, nil, cons, IsFirst}
use Rattle.algol_grammar.proofs.SoundDue.{all_outer, leave}
use Rattle.algol_grammar.proofs.Keeps.{Keeps, keeps}
use Rattle.algol_grammar.proofs.Inside.{counting, step_inside}
use Rattle.algol_grammar.proofs.Places.{Place, out, within, count, stack, Placed, Fits, Within, IsFrom, Next, whole_or, outer_first, out_next}

-- the first of these tokens, or the end of the text
abbrev pub judged_first : ℕ → List Token → Judged
judged_first free [] = unjudged
judged_first free (t ∷ ts) = judged free (t ∷ ts)

abbrev pub spot_first : List Token → Spot
spot_first [] = nowhere
spot_first (t ∷ ts) = t.spot

abbrev pub kind_first : List Token → TokenKind
kind_first [] = kinds.End
kind_first (t ∷ ts) = t.kind

first_is : (from : List Token) → IsFirst from (kind_first from)
first_is [] = refl
first_is (t ∷ ts) = refl

-- where it belongs to nothing that is due of an expression, all of that may be left out
inner_over : (free : ℕ) (from : List Token) (a : List Due) (vs us : List Value) (n : Count) → Inners a →
    step (judged_first free from) a (spot_first from) (kind_first from) outside vs ≡ over n us → inner.IsAll free a vs from us from
unfolding reading
inner_over free [] a vs us n i e = viable.sound free [] a vs us [] i (ap read_end e)
inner_over free (t ∷ ts) a vs us n i e = viable.sound free (t ∷ ts) a vs us (t ∷ ts) i (ap (λ x. read_on x t ts (reading free ts)) e)

room_at_end : (free c : ℕ) (from : List Token) → (c ≤ MOST_EXPRESSION_TOKENS) ⊎ (c + length from ≤ free + MOST_EXPRESSION_TOKENS) →
    (c + length from ≤ length from + MOST_EXPRESSION_TOKENS) ⊎ (c + length from ≤ free + MOST_EXPRESSION_TOKENS)
room_at_end free c from (inl le) = inl (omega (arith, le))
room_at_end free c from (inr le) = inr le

-- within an expression

fits_next : (free c : ℕ) (t : Token) (ts : List Token) → (full (inside c) && (judged free (t ∷ ts)).here) ≡ false →
    (c ≤ MOST_EXPRESSION_TOKENS) ⊎ (c + length (t ∷ ts) ≤ free + MOST_EXPRESSION_TOKENS) →
    (c + 1 ≤ MOST_EXPRESSION_TOKENS) ⊎ (c + 1 + length ts ≤ free + MOST_EXPRESSION_TOKENS)
fits_next free c t ts e (inr le) = inr (omega (arith, le))
fits_next free c t ts e (inl le) = by_test (nat_le MOST_EXPRESSION_TOKENS c) refl e
  where
    by_test : (b : Bool) → nat_le MOST_EXPRESSION_TOKENS c ≡ b → (b && (judged free (t ∷ ts)).here) ≡ false →
        (c + 1 ≤ MOST_EXPRESSION_TOKENS) ⊎ (c + 1 + length ts ≤ free + MOST_EXPRESSION_TOKENS)
    by_test true p q = inr (grind (arith, nat_tests))
    by_test false p q = inl (grind (arith, nat_tests))

module _ (j : Judged) (c : ℕ) (a b : List Due) (t : Token) (vs : List Value) (n : Count) (ds : List Due) (us : List Value) (i : Inners a) (o : all_outer b ≡ true) where
  within_by : (x : ReadingStep) → step j a t.spot t.kind outside vs ≡ x → joined (counting j c t.spot x) (whole_ends ∷ b) (step j (whole_ends ∷ b) t.spot t.kind) ≡ goes n ds us →
      Next j (within c a b) t vs n ds us
  within_by (goes m es xs) is e = by_room (full (inside c) && j.here) refl e
    where
      by_room : (f : Bool) → (full (inside c) && j.here) ≡ f →
          joined (unless f t.spot (goes (inside (c + 1)) es xs)) (whole_ends ∷ b) (step j (whole_ends ∷ b) t.spot t.kind) ≡ goes n ds us → Next j (within c a b) t vs n ds us
      by_room true f e = cc
      by_room false f e =
          let p = goes_is (inside (c + 1)) n (es ++ whole_ends ∷ b) ds xs us e in
          let g = inner_goes j a t.spot t.kind vs m es xs i is in
          record {
            q = within (c + 1) es b;
            count_is = sym p.0;
            stack_is = sym p.1;
            placed = (g.1, o);
            fits = λ free ts h k. fits_next free c t ts (ap (λ (j : Judged). full (inside c) && j.here) h ∙ f) k;
            back = λ free ts h k ws rest w. record {
              us = w.us;
              mid = w.mid;
              first = viable.step_back free a es t ts vs xs w.us w.mid i
                  (subst (λ m. step (judged free (t ∷ ts)) a t.spot t.kind outside vs ≡ goes m es xs) (sym g.0)
                  (subst (λ j. step j a t.spot t.kind outside vs ≡ goes m es xs) (sym h) is))
                  (subst (λ us. inner.IsAll free es us ts w.us w.mid) (sym p.2) w.first);
              room = room_back w.mid free ts w.room;
              second = w.second;
            };
          }
        where
          room_back : (mid : List Token) (free : ℕ) (ts : List Token) → (c + 1 + length ts ≤ length mid + MOST_EXPRESSION_TOKENS) ⊎ (c + 1 + length ts ≤ free + MOST_EXPRESSION_TOKENS) →
              (c + length (t ∷ ts) ≤ length mid + MOST_EXPRESSION_TOKENS) ⊎ (c + length (t ∷ ts) ≤ free + MOST_EXPRESSION_TOKENS)
          room_back mid free ts (inl le) = inl (omega (arith, le))
          room_back mid free ts (inr le) = inr (omega (arith, le))
  within_by (over m xs) is e = let r = out_next j b t xs n ds us o e in record {
    q = r.q;
    count_is = r.count_is;
    stack_is = r.stack_is;
    placed = r.placed;
    fits = λ free ts h k. r.fits free ts h tt;
    back = λ free ts h k ws rest x. record {
      us = xs;
      mid = t ∷ ts;
      first = inner_over free (t ∷ ts) a vs xs m i (subst (λ j. step j a t.spot t.kind outside vs ≡ over m xs) (sym h) is);
      room = room_at_end free c (t ∷ ts) k;
      second = r.back free ts h tt ws rest x;
    };
  }
  within_by (stops spot code) is e = cc

pub place_next : (j : Judged) (p : Place) (t : Token) (vs : List Value) (c : Count) (ds : List Due) (us : List Value) → Placed p →
    step j (stack p) t.spot t.kind (count p) vs ≡ goes c ds us → Next j p t vs c ds us
place_next j (out due) t vs c ds us i e = out_next j due t vs c ds us i e
place_next j (within n a b) t vs c ds us i e = within_by j n a b t vs c ds us i.0 i.1 (step j a t.spot t.kind outside vs) refl
    (ap (λ x. joined x (whole_ends ∷ b) (step j (whole_ends ∷ b) t.spot t.kind)) (sym (step_inside j n a t.spot t.kind vs i.0))
    ∙ sym (step_append j a (whole_ends ∷ b) t.spot t.kind (inside n) vs) ∙ e)

-- where a token belongs to nothing that is due

module _ (free : ℕ) (j : Judged) (from : List Token) where
  turn_over : (s : Due) (due : List Due) (vs : List Value) (c : Count) (us : List Value) → ((d : ℕ) → s ≡ whole d → ⊥) →
      (x : Turn) → reading_turn s (spot_first from) (kind_first from) ≡ x → Keeps x → stepped j outside (spot_first from) x due vs (step j due (spot_first from) (kind_first from)) ≡ over c us →
      ((vs : List Value) → step j due (spot_first from) (kind_first from) outside vs ≡ over c us → IsAll free due vs from us from) → IsAll free (s ∷ due) vs from us from
  turn_over s due vs c us n (takes plain es) is k e again = cc
  turn_over s due vs c us n (takes (nests d) es) is k e again = absurd (unless_over _ (spot_first from) outside c (es ++ due) vs us e)
  turn_over s due vs c us n (takes (label d spot) es) is k e again = absurd (unless_over _ spot outside c (es ++ due) vs us e)
  turn_over s due vs c us n (takes (begun l) es) is k e again = absurd k
  turn_over s due vs c us n (makes m) is k e again = cons s due vs (m vs) us from from from
      (leave free s (spot_first from) (kind_first from) vs (m vs) from from n (first_is from) (subst (λ x. Leaves x vs from (m vs) from) (sym is) makes_it)) (again (m vs) e)
  turn_over s due vs c us n skips is k e again = cons s due vs vs us from from from
      (leave free s (spot_first from) (kind_first from) vs vs from from n (first_is from) (subst (λ x. Leaves x vs from vs from) (sym is) left_out)) (again vs e)
  turn_over s due vs c us n closes is k e again = absurd k
  turn_over s due vs c us n refuses is k e again = cc

  whole_over : (due : List Due) (vs : List Value) (c : Count) (us : List Value) (on : Count → List Value → ReadingStep) (x : Turn) → Takes x →
      stepped j outside (spot_first from) (begins (followed x (whole_ends ∷ []))) due vs on ≡ over c us → ⊥
  whole_over due vs c us on _ (taken plain es) e = cc
  whole_over due vs c us on _ (taken (nests d) es) e = unless_over _ (spot_first from) _ c _ vs us e
  whole_over due vs c us on _ (taken (label d spot) es) e = unless_over _ spot _ c _ vs us e
  whole_over due vs c us on _ (taken (begun l) es) e = unless_over _ _ _ c _ vs us e
  whole_over due vs c us on _ refused_ e = cc

  out_over : (due : List Due) (vs : List Value) (c : Count) (us : List Value) → all_outer due ≡ true →
      step j due (spot_first from) (kind_first from) outside vs ≡ over c us → IsAll free due vs from us from
  out_over [] vs c us o e = let same : vs ≡ us = cc in subst (λ us. IsAll free [] vs from us from) same (nil vs from)
  out_over (s ∷ due) vs c us o e = by_first (whole_or s) (λ vs e. out_over due vs c us (outer_first s due o).1 e)
    where
      by_first : ((d : ℕ) × (s ≡ whole d)) ⊎ ((d : ℕ) → s ≡ whole d → ⊥) →
          ((vs : List Value) → step j due (spot_first from) (kind_first from) outside vs ≡ over c us → IsAll free due vs from us from) → IsAll free (s ∷ due) vs from us from
      by_first (inl w) again = absurd (whole_over due vs c us (step j due (spot_first from) (kind_first from)) (turn_expr w.0 (spot_first from) (kind_first from))
          (inner.part_takes expr w.0 (spot_first from) (kind_first from))
          (ap (λ s. stepped j outside (spot_first from) (reading_turn s (spot_first from) (kind_first from)) due vs (step j due (spot_first from) (kind_first from))) (sym w.1) ∙ e))
      by_first (inr n) again = turn_over s due vs c us n (reading_turn s (spot_first from) (kind_first from)) refl (keeps s (spot_first from) (kind_first from) (outer_first s due o).0 n) e again

module _ (free : ℕ) (from : List Token) (c : ℕ) (a b : List Due) (vs : List Value) (n : Count) (ws : List Value) (i : Inners a) (o : all_outer b ≡ true)
    (k : Fits free (within c a b) from) where
  within_over : (x : ReadingStep) → step (judged_first free from) a (spot_first from) (kind_first from) outside vs ≡ x →
      joined (counting (judged_first free from) c (spot_first from) x) (whole_ends ∷ b) (step (judged_first free from) (whole_ends ∷ b) (spot_first from) (kind_first from)) ≡ over n ws →
      Within free c a b vs from ws from
  within_over (goes m es xs) is e = by_room (full (inside c) && (judged_first free from).here) e
    where
      by_room : (f : Bool) → joined (unless f (spot_first from) (goes (inside (c + 1)) es xs)) (whole_ends ∷ b)
          (step (judged_first free from) (whole_ends ∷ b) (spot_first from) (kind_first from)) ≡ over n ws → Within free c a b vs from ws from
      by_room true e = cc
      by_room false e = cc
  within_over (over m xs) is e = record {
    us = xs;
    mid = from;
    first = inner_over free from a vs xs m i is;
    room = room_at_end free c from k;
    second = out_over free (judged_first free from) from b xs n ws o e;
  }
  within_over (stops spot code) is e = cc

pub place_over : (free : ℕ) (p : Place) (from : List Token) (vs : List Value) (c : Count) (ws : List Value) → Placed p → Fits free p from →
    step (judged_first free from) (stack p) (spot_first from) (kind_first from) (count p) vs ≡ over c ws → IsFrom free p vs from ws from
place_over free (out due) from vs c ws i k e = out_over free (judged_first free from) from due vs c ws i e
place_over free (within n a b) from vs c ws i k e =
    let j = judged_first free from in
    within_over free from n a b vs c ws i.0 i.1 k (step j a (spot_first from) (kind_first from) outside vs) refl
    (ap (λ x. joined x (whole_ends ∷ b) (step j (whole_ends ∷ b) (spot_first from) (kind_first from))) (sym (step_inside j n a (spot_first from) (kind_first from) vs i.0))
    ∙ sym (step_append j a (whole_ends ∷ b) (spot_first from) (kind_first from) (inside n) vs) ∙ e)

-- what is read is what is due
pub sound : (free : ℕ) (ts : List Token) (p : Place) (vs ws : List Value) (rest : List Token) → Placed p → Fits free p ts → reading free ts (count p) (stack p) vs ≡ to rest ws →
    IsFrom free p vs ts ws rest
unfolding reading
sound free [] p vs ws rest i k e = at_end (step unjudged (stack p) nowhere kinds.End (count p) vs) refl e
  where
    at_end : (x : ReadingStep) → step unjudged (stack p) nowhere kinds.End (count p) vs ≡ x → read_end x ≡ to rest ws → IsFrom free p vs [] ws rest
    at_end (goes c ds us) is e = cc
    at_end (over c us) is e = let q : (us ≡ ws) × ([] ≡ rest) = (cc, cc) in
        subst (λ r. IsFrom free p vs [] ws r) q.1 (subst (λ w. IsFrom free p vs [] w []) q.0 (place_over free p [] vs c us i k is))
    at_end (stops spot code) is e = cc
sound free (t ∷ ts) p vs ws rest i k e = at_token (step (judged free (t ∷ ts)) (stack p) t.spot t.kind (count p) vs) refl e (λ q us i k e. sound free ts q us ws rest i k e)
  where
    at_token : (x : ReadingStep) → step (judged free (t ∷ ts)) (stack p) t.spot t.kind (count p) vs ≡ x → read_on x t ts (reading free ts) ≡ to rest ws →
        ((q : Place) (us : List Value) → Placed q → Fits free q ts → reading free ts (count q) (stack q) us ≡ to rest ws → IsFrom free q us ts ws rest) → IsFrom free p vs (t ∷ ts) ws rest
    at_token (goes c ds us) is e more =
        let n = place_next (judged free (t ∷ ts)) p t vs c ds us i is in
        n.back free ts refl k ws rest (more n.q us n.placed (n.fits free ts refl k)
        (subst (λ ds. reading free ts (count n.q) ds us ≡ to rest ws) n.stack_is (subst (λ c. reading free ts c ds us ≡ to rest ws) n.count_is e)))
    at_token (over c us) is e more = let q : (us ≡ ws) × (t ∷ ts ≡ rest) = (cc, cc) in
        subst (λ r. IsFrom free p vs (t ∷ ts) ws r) q.1 (subst (λ w. IsFrom free p vs (t ∷ ts) w (t ∷ ts)) q.0 (place_over free p (t ∷ ts) vs c us i k is))
    at_token (stops spot code) is e more = cc

-- what is read as a program is one
pub program_sound : (free : ℕ) (ts rest : List Token) (ws : List Value) → read free ts (program ∷ []) [] ≡ to rest ws → (tree : PProgram) × (ws ≡ whole_program tree ∷ []) × IsProgram free ts tree rest
program_sound free ts rest ws e = of_all ws rest (sound free ts (out (program ∷ [])) [] ws rest refl tt e)
  where
    of_gives : (ws : List Value) (rest : List Token) → Gives (IsProgram free) whole_program ts [] ws rest → (tree : PProgram) × (ws ≡ whole_program tree ∷ []) × IsProgram free ts tree rest
    of_gives _ _ (gives tree rest x) = (tree, refl, x)

    of_all : (ws : List Value) (rest : List Token) → IsAll free (program ∷ []) [] ts ws rest → (tree : PProgram) × (ws ≡ whole_program tree ∷ []) × IsProgram free ts tree rest
    of_all _ _ (cons _ _ _ _ _ _ _ _ x (nil ws rest)) = of_gives ws rest x
