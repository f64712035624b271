-- What a reader finds out about its first token.
use Rattle.std.proofs.Common.{◌≡◌, ◌≤◌, ◌<◌, ℕ, Bool, true, false, List, [], ◌∷◌, length, refl, sym, subst, ap, ◌∙◌, inl, arith}
use Rattle.algol_tree.specs.declared.token.Token.{Token}
use Rattle.algol_tree.specs.declared.token.TokenKind.TheVariants as kinds
use Rattle.algol_tree.specs.Ended.{EndsOnce}
use Rattle.algol_tree.specs.declared.TheConstants.{MOST_NESTING}
use Rattle.algol_tree.specs.Tokens.{IsSpelled, is_word, is_symbol, is_spelled}
use Rattle.algol_tree.specs.Due.{Due, word, symbol, spelled, opening, plain, nests, takes, refuses, either}
use Rattle.algol_tree.specs.Reading.{reading_turn, read}
use Rattle.algol_tree.specs.Found.{IsRest, TokenPasses, Fails}
use Rattle.algol_tree.specs.declared.token.Reserved.{Reserved}
use Rattle.algol_tree.specs.declared.token.Symbol.{Symbol}
use Rattle.algol_tree.specs.declared.refusal.Code.TheVariants as codes
use Rattle.algol_tree.specs.declared.refusal.Refusal.{Refusal}
use Rattle.algol_tree.specs.declared.refusal.Refusal.TheVariants.{At}
use Rattle.algol_expr.proofs.Turns.{takes_step, opens_step, deep_step, fails_step, word_from, symbol_from, spelled_from, spelled_is}

pub one_shorter : (tokens : List Token) (t : Token) (ts : List Token) → tokens ≡ t ∷ ts → EndsOnce tokens → (t.kind ≡ kinds.End → ⊥) → IsRest tokens ts
one_shorter tokens t [] e ended other = absurd (other (subst EndsOnce e ended))
one_shorter tokens t (u ∷ ts) e ended other = record { ended = (subst EndsOnce e ended).1; shorter = omega (arith, ap length e) }

pub fails_at : (tokens : List Token) (t : Token) (ts : List Token) (s : Due) (left : ℕ) (e : Refusal) → tokens ≡ t ∷ ts → reading_turn s t.spot t.kind ≡ refuses →
    left ≡ length (t ∷ ts) → e ≡ At t.spot codes.Unexpected → Fails (s ∷ []) [] tokens left e
fails_at tokens t ts s left e is p l r = record {
  run = λ spot code q due vs.
      let same : At t.spot codes.Unexpected ≡ At spot code = sym r ∙ q in
      ap (λ x. read 0 x (s ∷ due) vs) is ∙ fails_step 0 t ts s due vs p ∙ cc;
}

pub word_passes : (tokens : List Token) (t : Token) (ts : List Token) (w : Reserved) → tokens ≡ t ∷ ts → EndsOnce tokens → is_word w t.kind ≡ true →
    TokenPasses (word w) tokens ts
word_passes tokens t ts w e ended p = record {
  run = λ due vs. ap (λ x. read 0 x (word w ∷ due) vs) e ∙ takes_step 0 t ts (word w) [] due vs (ap (λ b. either b (takes plain []) refuses) p);
  behind = one_shorter tokens t ts e ended (λ q. let no : kinds.Word w ≡ kinds.End = sym (word_from t.kind w p) ∙ q in cc);
}

pub word_fails : (tokens : List Token) (t : Token) (ts : List Token) (w : Reserved) (left : ℕ) (e : Refusal) → tokens ≡ t ∷ ts → is_word w t.kind ≡ false →
    left ≡ length (t ∷ ts) → e ≡ At t.spot codes.Unexpected → Fails (word w ∷ []) [] tokens left e
word_fails tokens t ts w left e is p l r = fails_at tokens t ts (word w) left e is (ap (λ b. either b (takes plain []) refuses) p) l r

pub symbol_passes : (tokens : List Token) (t : Token) (ts : List Token) (s : Symbol) → tokens ≡ t ∷ ts → EndsOnce tokens → is_symbol s t.kind ≡ true →
    TokenPasses (symbol s) tokens ts
symbol_passes tokens t ts s e ended p = record {
  run = λ due vs. ap (λ x. read 0 x (symbol s ∷ due) vs) e ∙ takes_step 0 t ts (symbol s) [] due vs (ap (λ b. either b (takes plain []) refuses) p);
  behind = one_shorter tokens t ts e ended (λ q. let no : kinds.Symbol s ≡ kinds.End = sym (symbol_from t.kind s p) ∙ q in cc);
}

pub symbol_fails : (tokens : List Token) (t : Token) (ts : List Token) (s : Symbol) (left : ℕ) (e : Refusal) → tokens ≡ t ∷ ts → is_symbol s t.kind ≡ false →
    left ≡ length (t ∷ ts) → e ≡ At t.spot codes.Unexpected → Fails (symbol s ∷ []) [] tokens left e
symbol_fails tokens t ts s left e is p l r = fails_at tokens t ts (symbol s) left e is (ap (λ b. either b (takes plain []) refuses) p) l r

pub spelled_passes : (tokens : List Token) (t : Token) (ts : List Token) (n : List ℕ) → tokens ≡ t ∷ ts → EndsOnce tokens → IsSpelled n t →
    TokenPasses (spelled n) tokens ts
spelled_passes tokens t ts n e ended p = record {
  run = λ due vs. ap (λ x. read 0 x (spelled n ∷ due) vs) e ∙ takes_step 0 t ts (spelled n) [] due vs (ap (λ b. either b (takes plain []) refuses) (spelled_is t n p));
  behind = one_shorter tokens t ts e ended (λ q. let no : kinds.Name n ≡ kinds.End = sym p ∙ q in cc);
}

not_spelled : (t : Token) (n : List ℕ) → (IsSpelled n t → ⊥) → (b : Bool) → is_spelled n t.kind ≡ b → is_spelled n t.kind ≡ false
not_spelled t n f true e = absurd (f (spelled_from t.kind n e))
not_spelled t n f false e = e

pub spelled_fails : (tokens : List Token) (t : Token) (ts : List Token) (n : List ℕ) (left : ℕ) (e : Refusal) → tokens ≡ t ∷ ts → (IsSpelled n t → ⊥) →
    left ≡ length (t ∷ ts) → e ≡ At t.spot codes.Unexpected → Fails (spelled n ∷ []) [] tokens left e
spelled_fails tokens t ts n left e is p l r = fails_at tokens t ts (spelled n) left e is (ap (λ b. either b (takes plain []) refuses) (not_spelled t n p (is_spelled n t.kind) refl)) l r

-- a symbol that opens a level

pub opening_passes : (tokens : List Token) (t : Token) (ts : List Token) (s : Symbol) (d : ℕ) → tokens ≡ t ∷ ts → EndsOnce tokens → is_symbol s t.kind ≡ true →
    d < MOST_NESTING → TokenPasses (opening s d) tokens ts
opening_passes tokens t ts s d e ended p o = record {
  run = λ due vs. ap (λ x. read 0 x (opening s d ∷ due) vs) e ∙ opens_step 0 d t ts (opening s d) [] due vs (ap (λ b. either b (takes (nests d) []) refuses) p) (inl o);
  behind = one_shorter tokens t ts e ended (λ q. let no : kinds.Symbol s ≡ kinds.End = sym (symbol_from t.kind s p) ∙ q in cc);
}

pub opening_fails : (tokens : List Token) (t : Token) (ts : List Token) (s : Symbol) (d left : ℕ) (e : Refusal) → tokens ≡ t ∷ ts → is_symbol s t.kind ≡ false →
    left ≡ length (t ∷ ts) → e ≡ At t.spot codes.Unexpected → Fails (opening s d ∷ []) [] tokens left e
opening_fails tokens t ts s d left e is p l r = fails_at tokens t ts (opening s d) left e is (ap (λ b. either b (takes (nests d) []) refuses) p) l r

pub opening_too_deep : (tokens : List Token) (t : Token) (ts : List Token) (s : Symbol) (d left : ℕ) (e : Refusal) → tokens ≡ t ∷ ts → is_symbol s t.kind ≡ true →
    MOST_NESTING ≤ d → left ≡ length (t ∷ ts) → e ≡ At t.spot codes.TooDeep → Fails (opening s d ∷ []) [] tokens left e
opening_too_deep tokens t ts s d left e is p o l r = record {
  run = λ spot code q due vs.
      let same : At t.spot codes.TooDeep ≡ At spot code = sym r ∙ q in
      ap (λ x. read 0 x (opening s d ∷ due) vs) is ∙ deep_step d t ts (opening s d) [] due vs (ap (λ b. either b (takes (nests d) []) refuses) p) o ∙ cc;
}
