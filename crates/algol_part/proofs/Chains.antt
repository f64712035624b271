-- How far a reader of statements has come, and where it is refused.
use Rattle.std.proofs.Common.{◌≡◌, ◌≤◌, ℕ, true, List, [], ◌∷◌, ◌++◌, length, refl, sym, subst, ap, ◌∙◌, append_assoc, arith}
use Rattle.algol_tree.specs.declared.TheConstants.{MOST_NESTING}
use Rattle.algol_tree.specs.declared.token.Token.{Token}
use Rattle.algol_tree.specs.declared.token.TokenKind.TheVariants as kinds
use Rattle.algol_tree.specs.declared.token.Symbol.{Symbol}
use Rattle.algol_tree.specs.declared.token.Reserved.{Reserved}
use Rattle.algol_tree.specs.declared.refusal.Code.TheVariants as codes
use Rattle.algol_tree.specs.declared.refusal.Refusal.{Refusal}
use Rattle.algol_tree.specs.declared.refusal.Refusal.TheVariants.{At, NoMemory}
use Rattle.algol_tree.specs.Ended.{EndsOnce}
use Rattle.algol_tree.specs.Tokens.{is_word, is_symbol}
use Rattle.algol_tree.specs.Due.{Value, Make, Due, make, plain, nests, takes, makes, skips, refuses}
use Rattle.algol_tree.specs.Reading.{reading_turn, read}
use Rattle.algol_tree.specs.Found.{IsRest, Lists, Fails, ReaderRefuses}
use Rattle.algol_expr.proofs.Turns.{takes_step, skips_step, makes_step, make_step, fails_step, deep_step, word_from, symbol_from}
use Rattle.algol_expr.proofs.Chain.{Reaches, behind_first}
use Rattle.algol_part.specs.Brings.{Brings, PartAdds, Skips}

-- how a chain goes on

module _ {from : List Due} {us : List Value} {tokens : List Token} {ds : List Due} {ws : List Value} {mid rest : List Token} where
  pub bringing : {part : List Due} {v : Value} → Reaches from us tokens (part ++ ds) ws mid → Brings part mid v rest → Reaches from us tokens ds (v ∷ ws) rest
  bringing {part = part} r p = record { run = λ due vs. r.run due vs ∙ ap (λ x. read 0 mid x (ws ++ vs)) (append_assoc part ds due) ∙ p.run (ds ++ due) (ws ++ vs) }

  pub listing : {part : List Due} {left v : Value} → Reaches from us tokens (part ++ ds) (left ∷ ws) mid → Lists part mid left v rest → Reaches from us tokens ds (v ∷ ws) rest
  listing {part = part} {left = left} r p = record {
    run = λ due vs. r.run due vs ∙ ap (λ x. read 0 mid x (left ∷ (ws ++ vs))) (append_assoc part ds due) ∙ p.run (ds ++ due) (ws ++ vs);
  }

  pub adding : {A : Type 0} {part : List Due} {all : A → Value} {xs : A} {more : A → A} → Reaches from us tokens (part ++ ds) (all xs ∷ ws) mid →
      PartAdds part all mid more rest → Reaches from us tokens ds (all (more xs) ∷ ws) rest
  adding {part = part} {all = all} {xs = xs} r p = record {
    run = λ due vs. r.run due vs ∙ ap (λ x. read 0 mid x (all xs ∷ (ws ++ vs))) (append_assoc part ds due) ∙ p.run xs (ds ++ due) (ws ++ vs);
  }

  pub skipping : {s : Due} → Reaches from us tokens (s ∷ ds) ws mid → Skips s mid rest → Reaches from us tokens ds ws rest
  skipping r p = record { run = λ due vs. r.run due vs ∙ p.run (ds ++ due) (ws ++ vs) }

-- where it is refused

module _ {from : List Due} {us : List Value} {tokens : List Token} {ds : List Due} {ws : List Value} {mid : List Token} {e : Refusal} where
  pub refusing : {s : Due} → Reaches from us tokens (s ∷ ds) ws mid → ReaderRefuses (s ∷ []) [] mid e → ReaderRefuses from us tokens e
  refusing r p = record { left = p.left; fails = record { run = λ spot code q due vs. r.run due vs ∙ p.fails.run spot code q (ds ++ due) (ws ++ vs) } }

  pub failing : {left : ℕ} {s : Due} → Reaches from us tokens (s ∷ ds) ws mid → Fails (s ∷ []) [] mid left e → ReaderRefuses from us tokens e
  failing {left = left} r p = record { left = left; fails = record { run = λ spot code q due vs. r.run due vs ∙ p.run spot code q (ds ++ due) (ws ++ vs) } }

module _ {from : List Due} {us : List Value} {tokens : List Token} {part : List Due} (ds : List Due) {ws : List Value} {mid : List Token} {e : Refusal} where
  pub refusing_all : Reaches from us tokens (part ++ ds) ws mid → ReaderRefuses part [] mid e → ReaderRefuses from us tokens e
  refusing_all r p = record {
    left = p.left;
    fails = record {
      run = λ spot code q due vs. r.run due vs ∙ ap (λ x. read 0 mid x (ws ++ vs)) (append_assoc part ds due) ∙ p.fails.run spot code q (ds ++ due) (ws ++ vs);
    };
  }

  pub refusing_on : {left : Value} → Reaches from us tokens (part ++ ds) (left ∷ ws) mid → ReaderRefuses part (left ∷ []) mid e → ReaderRefuses from us tokens e
  refusing_on {left = left} r p = record {
    left = p.left;
    fails = record {
      run = λ spot code q due vs.
          r.run due vs ∙ ap (λ x. read 0 mid x (left ∷ (ws ++ vs))) (append_assoc part ds due) ∙ p.fails.run spot code q (ds ++ due) (ws ++ vs);
    };
  }

-- want of memory is no refusal
pub no_memory : {from : List Due} {us : List Value} {tokens : List Token} {e : Refusal} → e ≡ NoMemory → ReaderRefuses from us tokens e
no_memory q = record { left = 0; fails = record { run = λ spot code at due vs. let no : NoMemory ≡ At spot code = sym q ∙ at in cc } }

-- what is found at the end of a chain

module _ {from : List Due} {tokens rest : List Token} {v w : Value} where
  pub brought : Reaches from [] tokens [] (v ∷ []) rest → w ≡ v → IsRest tokens rest → Brings from tokens w rest
  brought r is b = subst (λ x. Brings from tokens x rest) (sym is) (record { run = λ due vs. r.run due vs; behind = b })

  pub listed : {left : Value} → Reaches from (left ∷ []) tokens [] (v ∷ []) rest → w ≡ v → IsRest tokens rest → Lists from tokens left w rest
  listed {left = left} r is b = subst (λ x. Lists from tokens left x rest) (sym is) (record { run = λ due vs. r.run due vs; behind = b })

pub added : {A : Type 0} {from : List Due} {all : A → Value} {tokens rest : List Token} {more : A → A} →
    ((xs : A) → Reaches from (all xs ∷ []) tokens [] (all (more xs) ∷ []) rest) → IsRest tokens rest → PartAdds from all tokens more rest
added r b = record { run = λ xs due vs. (r xs).run due vs; behind = b }

-- the first token

pub here : (t : Token) (ts : List Token) → t ∷ ts ≡ t ∷ ts
here t ts = refl

module _ {tokens : List Token} {t : Token} {ts : List Token} (is : tokens ≡ t ∷ ts) where
  -- it is refused
  pub refuses_here : (from : List Due) (s : Due) (ds : List Due) (us : List Value) (e : Refusal) → from ≡ s ∷ ds → reading_turn s t.spot t.kind ≡ refuses → e ≡ At t.spot codes.Unexpected →
      ReaderRefuses from us tokens e
  refuses_here from s ds us e f q r = record {
    left = length (t ∷ ts);
    fails = record {
      run = λ spot code at due vs.
          let same : At t.spot codes.Unexpected ≡ At spot code = sym r ∙ at in
          ap (λ x. read 0 x (from ++ due) (us ++ vs)) is ∙ ap (λ x. read 0 (t ∷ ts) (x ++ due) (us ++ vs)) f ∙ fails_step 0 t ts s (ds ++ due) (us ++ vs) q ∙ cc;
    };
  }

  -- it is taken, what is due is left out, or made into a value
  pub takes_it : (s : Due) (es : List Due) {ds : List Due} {us : List Value} → reading_turn s t.spot t.kind ≡ takes plain es → Reaches (s ∷ ds) us tokens (es ++ ds) us ts
  takes_it s es {ds = ds} {us = us} q = record {
    run = λ due vs. ap (λ x. read 0 x (s ∷ (ds ++ due)) (us ++ vs)) is ∙ takes_step 0 t ts s es (ds ++ due) (us ++ vs) q
        ∙ ap (λ x. read 0 ts x (us ++ vs)) (sym (append_assoc es ds due));
  }

  pub takes_all : (s : Due) (es : List Due) {us : List Value} → reading_turn s t.spot t.kind ≡ takes plain es → Reaches (s ∷ []) us tokens es us ts
  takes_all s es {us = us} q = record { run = λ due vs. ap (λ x. read 0 x (s ∷ due) (us ++ vs)) is ∙ takes_step 0 t ts s es due (us ++ vs) q }

  pub too_deep_here : (d : ℕ) (s : Due) (es : List Due) {ds : List Due} {us : List Value} (e : Refusal) → reading_turn s t.spot t.kind ≡ takes (nests d) es → MOST_NESTING ≤ d →
      e ≡ At t.spot codes.TooDeep → ReaderRefuses (s ∷ ds) us tokens e
  too_deep_here d s es {ds = ds} {us = us} e q o r = record {
    left = length (t ∷ ts);
    fails = record {
      run = λ spot code at due vs.
          let same : At t.spot codes.TooDeep ≡ At spot code = sym r ∙ at in
          ap (λ x. read 0 x (s ∷ (ds ++ due)) (us ++ vs)) is ∙ deep_step d t ts s es (ds ++ due) (us ++ vs) q o ∙ cc;
    };
  }

  pub skips_it : (s : Due) {ds : List Due} {us : List Value} → reading_turn s t.spot t.kind ≡ skips → Reaches (s ∷ ds) us tokens ds us tokens
  skips_it s {ds = ds} {us = us} q = record {
    run = λ due vs. ap (λ x. read 0 x (s ∷ (ds ++ due)) (us ++ vs)) is ∙ skips_step 0 t ts s (ds ++ due) (us ++ vs) q ∙ ap (λ x. read 0 x (ds ++ due) (us ++ vs)) (sym is);
  }

  pub makes_it : (s : Due) (m : Make) {ds : List Due} {us : List Value} → reading_turn s t.spot t.kind ≡ makes m → Reaches (s ∷ ds) us tokens (make m ∷ ds) us tokens
  makes_it s m {ds = ds} {us = us} q = record {
    run = λ due vs. ap (λ x. read 0 x (s ∷ (ds ++ due)) (us ++ vs)) is ∙ makes_step 0 t ts s (ds ++ due) (us ++ vs) m q
        ∙ ap (λ x. read 0 x (ds ++ due) (m (us ++ vs))) (sym is) ∙ sym (make_step 0 tokens m (ds ++ due) (us ++ vs));
  }

  -- the tokens after it
  pub behind_it : EndsOnce tokens → (t.kind ≡ kinds.End → ⊥) → IsRest tokens ts
  behind_it ended other = let b = behind_first t ts (subst EndsOnce is ended) other in record { ended = b.ended; shorter = omega (arith, b.shorter, ap length is) }

  pub behind_word : (w : Reserved) → EndsOnce tokens → is_word w t.kind ≡ true → IsRest tokens ts
  behind_word w ended e = behind_it ended (λ q. let no : kinds.Word w ≡ kinds.End = sym (word_from t.kind w e) ∙ q in cc)

  pub behind_symbol : (s : Symbol) → EndsOnce tokens → is_symbol s t.kind ≡ true → IsRest tokens ts
  behind_symbol s ended e = behind_it ended (λ q. let no : kinds.Symbol s ≡ kinds.End = sym (symbol_from t.kind s e) ∙ q in cc)

-- the newest value by another name
pub valued : {from : List Due} {us : List Value} {tokens : List Token} {ds : List Due} {v w : Value} {ws : List Value} {rest : List Token} →
    Reaches from us tokens ds (v ∷ ws) rest → w ≡ v → Reaches from us tokens ds (w ∷ ws) rest
valued {from = from} {us = us} {tokens = tokens} {ds = ds} {ws = ws} {rest = rest} r is = subst (λ x. Reaches from us tokens ds (x ∷ ws) rest) (sym is) r

-- one after the other
pub then : {from : List Due} {us : List Value} {tokens : List Token} {ds es : List Due} {ws xs : List Value} {mid rest : List Token} →
    Reaches from us tokens ds ws mid → Reaches ds ws mid es xs rest → Reaches from us tokens es xs rest
then r p = record { run = λ due vs. r.run due vs ∙ p.run due vs }

pub rest_within : {tokens mid rest : List Token} → length mid ≤ length tokens → IsRest mid rest → IsRest tokens rest
rest_within p q = record { ended = q.ended; shorter = omega (arith, p, q.shorter) }

pub rest_on : {tokens mid rest : List Token} → IsRest tokens mid → EndsOnce rest → length rest ≤ length mid → IsRest tokens rest
rest_on p e q = record { ended = e; shorter = omega (arith, p.shorter, q) }
