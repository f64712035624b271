-- What a reader of an expression that stands in no other found, said of the grammar.
use Rattle.std.proofs.Common.{◌≡◌, ◌≤◌, ◌<◌, ◌+◌, ℕ, List, [], ◌∷◌, ◌++◌, length, refl, sym, subst, ap, ◌∙◌, inl, arith}
use Rattle.algol_tree.specs.declared.TheConstants.{MOST_EXPRESSION_TOKENS}
use Rattle.algol_tree.specs.declared.token.Spot.{Spot}
use Rattle.algol_tree.specs.declared.token.Token.{Token}
use Rattle.algol_tree.specs.declared.refusal.Code.{Code}
use Rattle.algol_tree.specs.declared.refusal.Code.TheVariants as codes
use Rattle.algol_tree.specs.declared.refusal.Refusal.{Refusal}
use Rattle.algol_tree.specs.declared.refusal.Refusal.TheVariants.{At, NoMemory}
use Rattle.algol_tree.specs.Plain.{PExpr}
use Rattle.algol_tree.specs.Ends.{Ends}
use Rattle.algol_tree.specs.Operators.{expr}
use Rattle.algol_tree.specs.Expressions.{IsWholeExpression}
use Rattle.algol_tree.specs.Refused.{RefusedExpression, IsLongest}
use Rattle.algol_tree.specs.Due.{Value, one, part, whole}
use Rattle.algol_tree.specs.Reading.{Reading, to, refused, outside, read}
use Rattle.algol_tree.specs.Found.{ReaderFinds, Fails, ReaderRefuses}
use Rattle.algol_expr.specs.Long.{IsLong}
use Rattle.algol_expr.proofs.Turns.{read_nothing}
use Rattle.algol_expr.proofs.Steps.{strict, step_code, IsCode, unexpected, too_deep}
use Rattle.algol_expr.proofs.Complete.{part_read}
use Rattle.algol_expr.proofs.Viable.{part_sound, RefusedAt, refused_at, over_at, fed_inner}
use Rattle.algol_expr.proofs.Exact.{all_due, IsLater, unexpected_exact, deep_exact, long_exact, longest_exact}
use Rattle.algol_expr.proofs.Lift.{whole_found, whole_refused, whole_long}

module _ (d : ℕ) (tokens : List Token) (e : PExpr) (rest : List Token) (f : ReaderFinds (part expr d) tokens (one e) rest) where
  found_to : (vs : List Value) → read 0 tokens (all_due d) vs ≡ to rest (one e ∷ vs)
  found_to vs = f.run [] vs ∙ read_nothing 0 rest (one e ∷ vs)

  pub finds_reads : length tokens ≤ length rest + MOST_EXPRESSION_TOKENS → IsWholeExpression 0 d tokens e rest
  finds_reads short = record { reads = part_sound 0 expr d tokens rest e (found_to []); short = inl short }

  pub finds_only : (g : PExpr) (other : List Token) → IsWholeExpression 0 d tokens g other → Ends expr other → (g ≡ e) × (other ≡ rest)
  finds_only g other x end =
      let same : to other (one g ∷ []) ≡ to rest (one e ∷ []) = sym (part_read 0 expr d tokens g other x.reads end [] [] ∙ read_nothing 0 other (one g ∷ [])) ∙ found_to [] in
      (cc, cc)

  pub finds_whole : length tokens ≤ length rest + MOST_EXPRESSION_TOKENS → ReaderFinds (whole d) tokens (one e) rest
  finds_whole short = record { run = λ due vs. whole_found 0 d tokens vs rest (one e ∷ vs) (found_to vs) (inl short) due; behind = f.behind }

-- it ends before the first token that no expression has there
pub finds_longest : (d : ℕ) (tokens : List Token) (e : PExpr) (rest : List Token) → ReaderFinds (part expr d) tokens (one e) rest → IsLongest d tokens rest
finds_longest d tokens e [] f = absurd f.behind.ended
finds_longest d tokens e (t ∷ rest) f =
    let o = over_at tokens (all_due d) [] t rest (one e ∷ []) (tt, tt) (found_to d tokens e (t ∷ rest) f []) in
    subst (λ ts. IsLongest d ts (t ∷ rest)) (sym o.is) (longest_exact d o.front t rest o.ds o.us (one e ∷ []) outside o.fed_so o.over_so)

-- a token is too much
module _ (d : ℕ) (tokens : List Token) (left : ℕ) (e : Refusal) (l : IsLong tokens left e) where
  later : (r : Reading) → IsLater r (length (l.token ∷ l.rest)) → (vs : List Value) → read 0 tokens (all_due d) vs ≡ r →
      IsLater (read 0 (l.front ++ l.token ∷ l.rest) (all_due d) vs) (length (l.token ∷ l.rest))
  later r x vs is = subst (λ y. IsLater y (length (l.token ∷ l.rest))) (sym (ap (λ ts. read 0 ts (all_due d) vs) (sym l.is) ∙ is)) x

  pub long_refused : (r : Reading) → IsLater r (length (l.token ∷ l.rest)) → read 0 tokens (all_due d) [] ≡ r → RefusedExpression d tokens e
  long_refused r x is = subst (RefusedExpression d tokens) (sym l.refusal)
      (subst (λ ts. RefusedExpression d ts (At l.token.spot codes.TooDeep)) (sym l.is) (long_exact d l.front l.token l.rest l.place (later r x [] is)))

  pub long_refuses : ((vs : List Value) → (r : Reading) × IsLater r (length (l.token ∷ l.rest)) × (read 0 tokens (all_due d) vs ≡ r)) → ReaderRefuses (whole d ∷ []) [] tokens e
  long_refuses x = record {
    left = length (l.token ∷ l.rest);
    fails = record {
      run = λ spot code q due vs.
          let y = x vs in
          let same : At l.token.spot codes.TooDeep ≡ At spot code = sym l.refusal ∙ q in
          ap (λ ts. read 0 ts (whole d ∷ due) vs) l.is ∙ whole_long d l.front l.token l.rest vs l.place (later y.0 y.1 vs y.2) due ∙ cc;
    };
  }

module _ (d : ℕ) (tokens : List Token) (left : ℕ) (e : Refusal) where
  -- where an expression was found
  pub found_long : (x : PExpr) (rest : List Token) → ReaderFinds (part expr d) tokens (one x) rest → left ≡ length rest → IsLong tokens left e →
      RefusedExpression d tokens e × ReaderRefuses (whole d ∷ []) [] tokens e
  found_long x rest f at l =
      let before : length rest < length (l.token ∷ l.rest) = omega (arith, l.before, at) in (
        long_refused d tokens left e l (to rest (one x ∷ [])) before (found_to d tokens x rest f []),
        long_refuses d tokens left e l (λ vs. (to rest (one x ∷ vs), before, found_to d tokens x rest f vs)),
      )

  -- where one was refused after it
  pub fails_long : (spot : Spot) (code : Code) (was : Refusal) → was ≡ At spot code → Fails (part expr d ∷ []) [] tokens left was → IsLong tokens left e →
      RefusedExpression d tokens e × ReaderRefuses (whole d ∷ []) [] tokens e
  fails_long spot code was is f l = (
    long_refused d tokens left e l (refused left spot code) l.before (f.run spot code is [] []),
    long_refuses d tokens left e l (λ vs. (refused left spot code, l.before, f.run spot code is [] vs)),
  )

refused_by : (d : ℕ) (tokens : List Token) (left : ℕ) (spot : Spot) (code : Code) → IsCode code → length tokens ≤ left + MOST_EXPRESSION_TOKENS →
    RefusedAt (all_due d) [] tokens left spot code → RefusedExpression d tokens (At spot code)
refused_by d tokens left spot _ unexpected short r = unexpected_exact d tokens left spot short r
refused_by d tokens left spot _ too_deep short r = deep_exact d tokens left spot short r

-- where it is refused within the count
pub fails_refused : (d : ℕ) (tokens : List Token) (left : ℕ) (e : Refusal) → Fails (part expr d ∷ []) [] tokens left e →
    length tokens ≤ left + MOST_EXPRESSION_TOKENS → RefusedExpression d tokens e
fails_refused d tokens left NoMemory f short = tt
fails_refused d tokens left (At spot code) f short =
    let r = refused_at tokens (all_due d) [] left spot code (tt, tt) (f.run spot code refl [] []) in
    let i = fed_inner (all_due d) r.ds [] r.us r.front r.fed_so (tt, tt) in
    refused_by d tokens left spot code (step_code strict r.ds r.t.spot r.t.kind r.us spot code i r.stops_so).1 short r

pub fails_whole : (d : ℕ) (tokens : List Token) (left : ℕ) (e : Refusal) → Fails (part expr d ∷ []) [] tokens left e →
    length tokens ≤ left + MOST_EXPRESSION_TOKENS → ReaderRefuses (whole d ∷ []) [] tokens e
fails_whole d tokens left e f short = record {
  left = left;
  fails = record { run = λ spot code q due vs. whole_refused d tokens vs left spot code (f.run spot code q [] vs) short due };
}
