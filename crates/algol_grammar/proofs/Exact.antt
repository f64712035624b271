-- The first token through which no program goes, and the first after a program.
use Rattle.std.proofs.Common.{◌≡◌, ℕ, List, [], ◌∷◌, ◌++◌, length, refl, sym, subst, ap, ◌∙◌, arith}
use Rattle.std.proofs.lemmas.List.{append-nil}
use Rattle.algol_tree.specs.declared.token.Spot.{Spot}
use Rattle.algol_tree.specs.declared.token.Token.{Token}
use Rattle.algol_tree.specs.declared.token.TokenKind.TheVariants as kinds
use Rattle.algol_tree.specs.declared.refusal.Code.TheVariants as codes
use Rattle.algol_tree.specs.Plain.{PProgram}
use Rattle.algol_tree.specs.Programs.{IsProgram}
use Rattle.algol_tree.specs.Refused.{Programs, IsUnexpected, IsBehind}
use Rattle.algol_tree.specs.Due.{Value, whole_program, program}
use Rattle.algol_tree.specs.Reading.{Count, ReadingStep, goes, over, stops, step, to, refused, read_on, read_end, judged, unjudged, nowhere, reading, read}
use Rattle.algol_expr.proofs.Steps.{strict, judged_strict}
use Rattle.algol_grammar.specs.ReadExactly.{IsExact}
use Rattle.algol_grammar.proofs.Places.{Place, count, stack, Placed}
use Rattle.algol_grammar.proofs.Sound.{place_next, place_over, program_sound}
use Rattle.algol_grammar.proofs.Feed.{Fed, nothing_fed, fed, fed_placed, fed_any, fed_back, RefusedAt, refused_at, stop_any, stops_here}
use Rattle.algol_grammar.proofs.Texts.{text_at, complete}
use Rattle.algol_grammar.proofs.Idle.{cut_short, over_idle}
use Rattle.algol_grammar.proofs.Outset.{start, made_program, program_reads}
use Rattle.algol_grammar.proofs.Deep.{deep_exact, step_code}

module _ (front : List Token) (t : Token) (q : Place) (us : List Value) (f : Fed start [] front q us) where
  placed : Placed q
  placed = fed_placed start q [] us front refl f

  -- the tokens before can be gone on with
  front_good : (more : List Token) × Programs (length more) (front ++ more)
  front_good =
      let more = text_at q in
      let b = fed_back (length more) start q [] us front more f (omega arith) tt in
      let c = complete (length more) q us placed b.0 (omega arith) in
      (more, made_program (length more) (front ++ more) c.0 (b.1 c.0 [] c.1))

  module _ (spot : Spot) (stop : step strict (stack q) t.spot t.kind (count q) us ≡ stops spot codes.Unexpected) where
    -- and are none whole
    front_unfinished : (free : ℕ) → Programs free front → ⊥
    unfolding reading
    front_unfinished free x =
        at_end (step unjudged (stack q) nowhere kinds.End (count q) us) refl
        (ap (λ ts. read free ts (program ∷ []) []) (append-nil front) ∙ program_reads free front x) (fed_any free start q [] us front [] f)
      where
        at_end : (y : ReadingStep) → step unjudged (stack q) nowhere kinds.End (count q) us ≡ y → read free (front ++ []) (program ∷ []) [] ≡ to [] (whole_program x.0 ∷ []) →
            read free (front ++ []) (program ∷ []) [] ≡ read_end (step unjudged (stack q) nowhere kinds.End (count q) us) → ⊥
        at_end (goes c ds vs) is a b = let no : to [] (whole_program x.0 ∷ []) ≡ read_end (goes c ds vs) = sym a ∙ b ∙ ap read_end is in cc
        at_end (over c vs) is a b = cut_short (stack q) t.spot t.kind (count q) us spot stop c vs is
        at_end (stops place code) is a b = let no : to [] (whole_program x.0 ∷ []) ≡ read_end (stops place code) = sym a ∙ b ∙ ap read_end is in cc

    token_none : (free : ℕ) (more : List Token) → Programs free (front ++ t ∷ more) → ⊥
    unfolding reading
    token_none free more x =
        let halts : reading free (t ∷ more) (count q) (stack q) us ≡ refused (length (t ∷ more)) spot codes.Unexpected =
        ap (λ x. read_on x t more (reading free more)) (stop_any (judged free (t ∷ more)) (stack q) t.spot t.kind (count q) us spot stop) in
        let no : to [] (whole_program x.0 ∷ []) ≡ refused (length (t ∷ more)) spot codes.Unexpected =
        sym (program_reads free (front ++ t ∷ more) x) ∙ fed_any free start q [] us front (t ∷ more) f ∙ halts in cc

-- where reading a program meets a token of nothing that is due, no program goes through it
pub unexpected_exact : (tokens : List Token) (left : ℕ) (spot : Spot) → RefusedAt start [] tokens left spot codes.Unexpected → IsUnexpected Programs tokens spot
unexpected_exact tokens left spot r = record {
  front = r.front;
  token = r.t;
  rest = r.rest;
  is = r.is;
  place = stops_here strict (stack r.q) r.t.spot r.t.kind (count r.q) r.us spot r.stops_so;
  good = front_good r.front r.t r.q r.us r.fed_so;
  unfinished = front_unfinished r.front r.t r.q r.us r.fed_so spot r.stops_so;
  none = token_none r.front r.t r.q r.us r.fed_so spot r.stops_so;
}

-- where reading ends before a token
record OverAt (p : Place) (vs : List Value) (ts : List Token) (t : Token) (rest : List Token) (ws : List Value) : Type 0 where
  front : List Token
  q : Place
  us : List Value
  n : Count
  is : ts ≡ front ++ t ∷ rest
  fed_so : Fed p vs front q us
  over_so : step strict (stack q) t.spot t.kind (count q) us ≡ over n ws

over_at : (ts : List Token) (p : Place) (vs : List Value) (t : Token) (rest : List Token) (ws : List Value) → Placed p → reading 0 ts (count p) (stack p) vs ≡ to (t ∷ rest) ws →
    OverAt p vs ts t rest ws
unfolding reading
over_at [] p vs t rest ws i e = at_end (step unjudged (stack p) nowhere kinds.End (count p) vs) e
  where
    at_end : (x : ReadingStep) → read_end x ≡ to (t ∷ rest) ws → OverAt p vs [] t rest ws
    at_end (goes c ds us) e = cc
    at_end (over c us) e = cc
    at_end (stops place c) e = cc
over_at (u ∷ ts) p vs t rest ws i e = at_token (step strict (stack p) u.spot u.kind (count p) vs) refl
    (subst (λ j. read_on (step j (stack p) u.spot u.kind (count p) vs) u ts (reading 0 ts) ≡ to (t ∷ rest) ws) (judged_strict 0 u ts (omega arith)) e)
    (λ q us i e. over_at ts q us t rest ws i e)
  where
    found : (x : Token) (xs : List Token) (c : Count) (us : List Value) → x ∷ xs ≡ t ∷ rest → us ≡ ws → step strict (stack p) x.spot x.kind (count p) vs ≡ over c us →
        OverAt p vs (x ∷ xs) t rest ws
    found x xs c us a b s =
        let same : x ≡ t = cc in
        record {
          front = [];
          q = p;
          us = vs;
          n = c;
          is = a;
          fed_so = nothing_fed p vs;
          over_so = subst (λ x. step strict (stack p) x.spot x.kind (count p) vs ≡ over c ws) same (s ∙ ap (over c) b);
        }

    at_token : (x : ReadingStep) → step strict (stack p) u.spot u.kind (count p) vs ≡ x → read_on x u ts (reading 0 ts) ≡ to (t ∷ rest) ws →
        ((q : Place) (us : List Value) → Placed q → reading 0 ts (count q) (stack q) us ≡ to (t ∷ rest) ws → OverAt q us ts t rest ws) → OverAt p vs (u ∷ ts) t rest ws
    at_token (goes c ds us) is e more =
        let n = place_next strict p u vs c ds us i is in
        let r = more n.q us n.placed (subst (λ ds. reading 0 ts (count n.q) ds us ≡ to (t ∷ rest) ws) n.stack_is
        (subst (λ c. reading 0 ts c ds us ≡ to (t ∷ rest) ws) n.count_is e)) in
        record {
          front = u ∷ r.front;
          q = r.q;
          us = r.us;
          n = r.n;
          is = ap (λ x. u ∷ x) {y = r.front ++ t ∷ rest} r.is;
          fed_so = fed p u vs us r.us c ds r.front r.q n is r.fed_so;
          over_so = r.over_so;
        }
    at_token (over c us) is e more = let q : (u ∷ ts ≡ t ∷ rest) × (us ≡ ws) = (cc, cc) in found u ts c us q.0 q.1 is
    at_token (stops place c) is e more = cc

-- where reading a program ends before a token, the tokens before it are one
pub whole_before : (tokens : List Token) (t : Token) (rest : List Token) (ws : List Value) → read 0 tokens (program ∷ []) [] ≡ to (t ∷ rest) ws →
    (front : List Token) × (tokens ≡ front ++ t ∷ rest) × Programs 0 front
whole_before tokens t rest ws e =
    let r = over_at tokens start [] t rest ws refl e in
    let b = fed_back 0 start r.q [] r.us r.front [] r.fed_so (omega arith) tt in
    let x = place_over 0 r.q [] r.us r.n ws (fed_placed start r.q [] r.us r.front refl r.fed_so) b.0 (over_idle (stack r.q) t.spot t.kind (count r.q) r.us r.n ws r.over_so) in
    let whole : Programs 0 (r.front ++ []) = made_program 0 (r.front ++ []) ws (b.1 ws [] x) in
    (r.front, r.is, subst (Programs 0) (append-nil r.front) whole)

-- and where that token is not the end of the text, it is the first after a program
pub behind_exact : (tokens : List Token) (t : Token) (rest : List Token) (ws : List Value) → read 0 tokens (program ∷ []) [] ≡ to (t ∷ rest) ws → (t.kind ≡ kinds.End → ⊥) →
    IsBehind Programs tokens t.spot
behind_exact tokens t rest ws e other =
    let r = whole_before tokens t rest ws e in
    record { front = r.0; token = t; rest = rest; is = r.1; place = refl; good = r.2; more = other }

pub exact : (tokens : List Token) → IsExact tokens
exact tokens = record {
  reads = λ tree rest e. reads_tree tree rest e;
  unexpected = λ left spot e. unexpected_exact tokens left spot (refused_at tokens start [] left spot codes.Unexpected refl e);
  too_deep = λ left spot e. deep_exact tokens left spot (refused_at tokens start [] left spot codes.TooDeep refl e);
  only = λ left spot code e. let r = refused_at tokens start [] left spot code refl e in step_code strict (stack r.q) r.t.spot r.t.kind (count r.q) r.us spot code r.stops_so;
  behind = λ token rest tree e other. behind_exact tokens token rest (whole_program tree ∷ []) e other;
}
  where
    reads_tree : (tree : PProgram) (rest : List Token) → read 0 tokens (program ∷ []) [] ≡ to rest (whole_program tree ∷ []) → IsProgram 0 tokens tree rest
    reads_tree tree rest e =
        let r = program_sound 0 tokens rest (whole_program tree ∷ []) e in
        let q : whole_program tree ∷ [] ≡ whole_program r.0 ∷ [] = r.1 in
        let same : r.0 ≡ tree = cc in subst (λ tree. IsProgram 0 tokens tree rest) same r.2
