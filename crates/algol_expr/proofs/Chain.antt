-- How far a reader has come: from these tokens, with that due, to `rest`, with `ds` still due and the values `ws` made.
use Rattle.std.proofs.Common.{◌≡◌, ◌≤◌, ◌<◌, ℕ, List, [], ◌∷◌, ◌++◌, length, Result, Ok, Err, IfErr, refl, sym, subst, ap, ◌∙◌, inl, append_assoc, arith}
use Rattle.std.specs.Result.{IsErrAnd, IfOk}
use Rattle.std.proofs.lemmas.Result.{IfOk-weaker}
use Rattle.algol_tree.specs.declared.TheConstants.{MOST_NESTING}
use Rattle.algol_tree.specs.declared.token.Token.{Token}
use Rattle.algol_tree.specs.declared.token.TokenKind.TheVariants as kinds
use Rattle.algol_tree.specs.declared.refusal.Code.TheVariants as codes
use Rattle.algol_tree.specs.declared.refusal.Refusal.{Refusal}
use Rattle.algol_tree.specs.declared.refusal.Refusal.TheVariants.{At, NoMemory}
use Rattle.algol_tree.specs.Ended.{EndsOnce}
use Rattle.algol_tree.specs.declared.token.Symbol.{Symbol}
use Rattle.algol_tree.specs.Plain.{PExprs, none}
use Rattle.algol_tree.specs.DueExpr.{list_in}
use Rattle.algol_tree.specs.Due.{Value, many, Make, Due, make, plain, nests, takes, makes, skips}
use Rattle.algol_tree.specs.Reading.{reading_turn, read}
use Rattle.algol_tree.specs.Found.{IsRest, TokenPasses, ReaderFinds, Completes, Extends, Lists, Fails}
use Rattle.b67_list.proofs.Answered.{if_err_left}
use Rattle.algol_expr.specs.declared.stop.Stop.{Stop}
use Rattle.algol_expr.proofs.Turns.{takes_step, opens_step, skips_step, makes_step, make_step, deep_step}

pub if_err : {T E : Type 0} (r : Result T E) (P Q : E → Type 0) → ((e : E) → P e → Q e) → IfErr r P → IfErr r Q
if_err (Ok x) P Q f h = h
if_err (Err e) P Q f h = f e h

pub record Reaches (from : List Due) (us : List Value) (tokens : List Token) (ds : List Due) (ws : List Value) (rest : List Token) : Type 0 where
  pub run : (due : List Due) (vs : List Value) → read 0 tokens (from ++ due) (us ++ vs) ≡ read 0 rest (ds ++ due) (ws ++ vs)

pub starting : (s : Due) (tokens : List Token) → Reaches (s ∷ []) [] tokens (s ∷ []) [] tokens
starting s tokens = record { run = λ due vs. refl }

module _ {from : List Due} {us : List Value} {tokens : List Token} {s : Due} {ds : List Due} {ws : List Value} {mid rest : List Token} where
  pub past : Reaches from us tokens (s ∷ ds) ws mid → TokenPasses s mid rest → Reaches from us tokens ds ws rest
  past r p = record { run = λ due vs. r.run due vs ∙ p.run (ds ++ due) (ws ++ vs) }

  pub via : {v : Value} → Reaches from us tokens (s ∷ ds) ws mid → ReaderFinds s mid v rest → Reaches from us tokens ds (v ∷ ws) rest
  via r p = record { run = λ due vs. r.run due vs ∙ p.run (ds ++ due) (ws ++ vs) }

  pub completing : {v : Value} → Reaches from us tokens (s ∷ ds) ws mid → Completes s mid v rest → Reaches from us tokens ds (v ∷ ws) rest
  completing r p = record { run = λ due vs. r.run due vs ∙ p.run (ds ++ due) (ws ++ vs) }

  pub extending : {left v : Value} → Reaches from us tokens (s ∷ ds) (left ∷ ws) mid → Extends s mid left v rest →
      Reaches from us tokens ds (v ∷ ws) rest
  extending r p = record { run = λ due vs. r.run due vs ∙ p.run (ds ++ due) (ws ++ vs) }

-- a refusal within what is due is one of it
module _ {from : List Due} {us : List Value} {tokens : List Token} {s : Due} {ds : List Due} {ws : List Value} {mid : List Token} {at_ : ℕ} {e : Refusal} where
  pub failing : Reaches from us tokens (s ∷ ds) ws mid → Fails (s ∷ []) [] mid at_ e → Fails from us tokens at_ e
  failing r p = record { run = λ spot code q due vs. r.run due vs ∙ p.run spot code q (ds ++ due) (ws ++ vs) }

  pub failing_on : {left : Value} → Reaches from us tokens (s ∷ ds) (left ∷ ws) mid → Fails (s ∷ []) (left ∷ []) mid at_ e → Fails from us tokens at_ e
  failing_on r p = record { run = λ spot code q due vs. r.run due vs ∙ p.run spot code q (ds ++ due) (ws ++ vs) }

-- the value that is made, where it stands after `make m`
pub making : {from : List Due} {us : List Value} {tokens : List Token} {m : Make} {ds : List Due} {ws xs : List Value} {rest : List Token} →
    Reaches from us tokens (make m ∷ ds) ws rest → ((vs : List Value) → m (ws ++ vs) ≡ xs ++ vs) → Reaches from us tokens ds xs rest
making {m = m} {ds = ds} {ws = ws} {rest = rest} r e = record { run = λ due vs. r.run due vs ∙ make_step 0 rest m (ds ++ due) (ws ++ vs) ∙ ap (read 0 rest (ds ++ due)) (e vs) }

pub done : {s : Due} {tokens rest : List Token} {v w : Value} → Reaches (s ∷ []) [] tokens [] (v ∷ []) rest → w ≡ v → IsRest tokens rest → ReaderFinds s tokens w rest
done {s = s} {tokens = tokens} {rest = rest} r is b = subst (λ x. ReaderFinds s tokens x rest) (sym is) (record { run = λ due vs. r.run due vs; behind = b })

pub completes_done : {s : Due} {tokens rest : List Token} {v w : Value} → Reaches (s ∷ []) [] tokens [] (v ∷ []) rest → w ≡ v → EndsOnce rest →
    length rest ≤ length tokens → Completes s tokens w rest
completes_done {s = s} {tokens = tokens} {rest = rest} r is b c = subst (λ x. Completes s tokens x rest) (sym is)
    (record { run = λ due vs. r.run due vs; ended = b; no_longer = c })

-- want of memory is no refusal
pub no_memory : {T : Type 0} (r : Result T Stop) (from : List Due) (us : List Value) (tokens : List Token) (e : Stop) → IsErrAnd r (λ x. x ≡ e) →
    e.refusal ≡ NoMemory → IfErr r (λ e. Fails from us tokens e.left e.refusal)
no_memory r from us tokens e p q = if_err_left r (λ e. Fails from us tokens e.left e.refusal) e p
    (record { run = λ spot code at due vs. let no : NoMemory ≡ At spot code = sym q ∙ at in cc })

-- a result that is returned as it is
module _ {T : Type 0} (r : Result T Stop) (tree : T → Value) (end : T → List Token) where
  pub finds_as : {s p : Due} {tokens : List Token} → Reaches (s ∷ []) [] tokens (p ∷ []) [] tokens →
      IfOk r (λ x. ReaderFinds p tokens (tree x) (end x)) → IfOk r (λ x. ReaderFinds s tokens (tree x) (end x))
  finds_as a h = IfOk-weaker r _ _ (λ x f. record { run = (via a f).run; behind = f.behind }) h

  pub completes_to : {s n : Due} {tokens mid : List Token} → Reaches (s ∷ []) [] tokens (n ∷ []) [] mid → length mid < length tokens →
      IfOk r (λ x. Completes n mid (tree x) (end x)) → IfOk r (λ x. ReaderFinds s tokens (tree x) (end x))
  completes_to a b h = IfOk-weaker r _ _ (λ x f. record { run = (completing a f).run; behind = record { ended = f.ended; shorter = omega (arith, f.no_longer) } }) h

pub fails_as : {T : Type 0} (r : Result T Stop) {from : List Due} {us : List Value} {p : Due} {tokens mid : List Token} {ds : List Due} {ws : List Value} →
    Reaches from us tokens (p ∷ ds) ws mid → IfErr r (λ e. Fails (p ∷ []) [] mid e.left e.refusal) → IfErr r (λ e. Fails from us tokens e.left e.refusal)
fails_as r a h = if_err r _ _ (λ e f. failing a f) h

pub rest_of : {tokens mid rest : List Token} → IsRest tokens mid → IsRest mid rest → IsRest tokens rest
rest_of p q = record { ended = q.ended; shorter = omega arith }

-- the tokens after the first
pub behind_first : (t : Token) (ts : List Token) → EndsOnce (t ∷ ts) → (t.kind ≡ kinds.End → ⊥) → IsRest (t ∷ ts) ts
behind_first t [] ended other = absurd (other ended)
behind_first t (u ∷ ts) ended other = record { ended = ended.1; shorter = omega arith }

pub first_shorter : {tokens : List Token} {t : Token} {ts : List Token} → tokens ≡ t ∷ ts → length ts < length tokens
first_shorter e = omega (arith, ap length e)

pub behind_token : {tokens : List Token} {t : Token} {ts : List Token} → tokens ≡ t ∷ ts → EndsOnce tokens → (t.kind ≡ kinds.End → ⊥) → IsRest tokens ts
behind_token {t = t} {ts = ts} e ended other =
    let b = behind_first t ts (subst EndsOnce e ended) other in record { ended = b.ended; shorter = omega (arith, b.shorter, ap length e) }

pub rest_cons : {t : Token} {ts rest : List Token} → IsRest ts rest → IsRest (t ∷ ts) rest
rest_cons p = record { ended = p.ended; shorter = omega (arith, p.shorter) }

pub rest_first : {tokens : List Token} {t : Token} {ts rest : List Token} → tokens ≡ t ∷ ts → IsRest ts rest → IsRest tokens rest
rest_first e p = record { ended = p.ended; shorter = omega (arith, p.shorter, ap length e) }

-- one token

pub takes_first : (t : Token) (ts : List Token) (s : Due) (ds : List Due) → reading_turn s t.spot t.kind ≡ takes plain ds → Reaches (s ∷ []) [] (t ∷ ts) ds [] ts
takes_first t ts s ds e = record { run = λ due vs. takes_step 0 t ts s ds due vs e }

pub opens_first : (d : ℕ) (t : Token) (ts : List Token) (s : Due) (ds : List Due) → reading_turn s t.spot t.kind ≡ takes (nests d) ds → d < 64 →
    Reaches (s ∷ []) [] (t ∷ ts) ds [] ts
opens_first d t ts s ds e o = record { run = λ due vs. opens_step 0 d t ts s ds due vs e (inl o) }

pub too_deep : (d : ℕ) (t : Token) (ts : List Token) (s : Due) (ds : List Due) (left : ℕ) (e : Refusal) → reading_turn s t.spot t.kind ≡ takes (nests d) ds → MOST_NESTING ≤ d →
    left ≡ length (t ∷ ts) → e ≡ At t.spot codes.TooDeep → Fails (s ∷ []) [] (t ∷ ts) left e
too_deep d t ts s ds left e is o l r = record {
  run = λ spot code q due vs.
      let same : At t.spot codes.TooDeep ≡ At spot code = sym r ∙ q in
      deep_step d t ts s ds due vs is o ∙ cc;
}

-- what is due first turns into what a token makes of it
pub turning : {from : List Due} {us : List Value} {tokens : List Token} {s : Due} {ds es : List Due} {ws : List Value} {mid rest : List Token} →
    Reaches from us tokens (s ∷ ds) ws mid → Reaches (s ∷ []) [] mid es [] rest → Reaches from us tokens (es ++ ds) ws rest
turning {ds = ds} {es = es} {ws = ws} {rest = rest} r p = record {
  run = λ due vs.
      r.run due vs ∙ p.run (ds ++ due) (ws ++ vs) ∙ ap (λ x. read 0 rest x (ws ++ vs)) (sym (append_assoc es ds due));
}

pub skips_first : (t : Token) (ts : List Token) (s : Due) → reading_turn s t.spot t.kind ≡ skips → Reaches (s ∷ []) [] (t ∷ ts) [] [] (t ∷ ts)
skips_first t ts s e = record { run = λ due vs. skips_step 0 t ts s due vs e }

pub puts_first : (t : Token) (ts : List Token) (s : Due) (m : Make) → reading_turn s t.spot t.kind ≡ makes m → Reaches (s ∷ []) [] (t ∷ ts) (make m ∷ []) [] (t ∷ ts)
puts_first t ts s m e = record { run = λ due vs. makes_step 0 t ts s due vs m e ∙ sym (make_step 0 (t ∷ ts) m due vs) }

-- where the tokens are known by an equation
pub from_tokens : {from : List Due} {us : List Value} {tokens other rest : List Token} {ds : List Due} {ws : List Value} → tokens ≡ other →
    Reaches from us other ds ws rest → Reaches from us tokens ds ws rest
from_tokens {from = from} {us = us} {rest = rest} {ds = ds} {ws = ws} e r = subst (λ x. Reaches from us x ds ws rest) (sym e) r

pub fails_from : {from : List Due} {us : List Value} {tokens other : List Token} {left : ℕ} {e : Refusal} → tokens ≡ other → Fails from us other left e →
    Fails from us tokens left e
fails_from {from = from} {us = us} {left = left} {e = e} is r = subst (λ x. Fails from us x left e) (sym is) r

-- a list and the symbol that closes it
module _ {from : List Due} {us : List Value} {tokens mid : List Token} {d : ℕ} {closing : Symbol} {ds : List Due} {ws : List Value} where
  pub listing : {es : PExprs} {rest : List Token} → Reaches from us tokens (list_in d closing ++ ds) (many none ∷ ws) mid →
      Lists (list_in d closing) mid (many none) (many es) rest → Reaches from us tokens ds (many es ∷ ws) rest
  listing r p = record { run = λ due vs. r.run due vs ∙ p.run (ds ++ due) (ws ++ vs) }

  pub failing_list : {at_ : ℕ} {e : Refusal} → Reaches from us tokens (list_in d closing ++ ds) (many none ∷ ws) mid →
      Fails (list_in d closing) (many none ∷ []) mid at_ e → Fails from us tokens at_ e
  failing_list r p = record { run = λ spot code q due vs. r.run due vs ∙ p.run spot code q (ds ++ due) (ws ++ vs) }
