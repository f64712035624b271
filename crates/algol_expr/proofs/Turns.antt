-- One token, where no expression is being read that stands in no other, and what is due after it.
use Rattle.std.proofs.Common.{◌≡◌, ◌≤◌, ℕ, nat_le, nat_eq, Bool, true, false, ◌&&◌, List, [], ◌∷◌, ◌++◌, length, refl, sym, ap, ◌∙◌, inl, inr, arith, rules}
use Rattle.std.proofs.lemmas.Bool.Decides.{nat_tests}
use denote.Enum.Bare.{true_same, same_true}
use Rattle.algol_tree.specs.contracts.token.Reserved as reserved_row
use Rattle.algol_tree.specs.contracts.token.Symbol as symbol_row
use Rattle.algol_tree.specs.declared.TheConstants.{MOST_NESTING}
use Rattle.algol_tree.specs.declared.token.Spot.{Spot}
use Rattle.algol_tree.specs.declared.token.Token.{Token}
use Rattle.algol_tree.specs.declared.token.TokenKind.{TokenKind}
use Rattle.algol_tree.specs.declared.token.TokenKind.TheVariants as kinds
use Rattle.algol_tree.specs.declared.token.Reserved.{Reserved}
use Rattle.algol_tree.specs.declared.token.Symbol.{Symbol}
use Rattle.algol_tree.specs.declared.refusal.Code.TheVariants as codes
use Rattle.algol_tree.specs.Tokens.{IsWord, IsSymbol, IsSpelled, is_word, is_symbol, is_spelled, same_name}
use Rattle.algol_tree.specs.Expressions.{TokenOpens}
use Rattle.algol_tree.specs.Due.{Value, Make, Due, make, word, symbol, spelled, plain, nests, label, takes, makes, skips, refuses, either}
use Rattle.algol_tree.specs.Reading.{reading_turn, outside, stepped, step, to, refused, read_on, judged, nowhere, reading, read}

pub read_nothing : (free : ℕ) (ts : List Token) (vs : List Value) → read free ts [] vs ≡ to ts vs
unfolding reading
read_nothing free [] vs = refl
read_nothing free (t ∷ ts) vs = refl

pub takes_step : (free : ℕ) (t : Token) (ts : List Token) (s : Due) (ds due : List Due) (vs : List Value) → reading_turn s t.spot t.kind ≡ takes plain ds →
    read free (t ∷ ts) (s ∷ due) vs ≡ read free ts (ds ++ due) vs
unfolding reading
takes_step free t ts s ds due vs e = rw e refl

-- what is optional is left out
pub skips_step : (free : ℕ) (t : Token) (ts : List Token) (s : Due) (due : List Due) (vs : List Value) → reading_turn s t.spot t.kind ≡ skips →
    read free (t ∷ ts) (s ∷ due) vs ≡ read free (t ∷ ts) due vs
unfolding reading
skips_step free t ts s due vs e = rw e refl

pub skips_end : (free : ℕ) (s : Due) (due : List Due) (vs : List Value) → reading_turn s nowhere kinds.End ≡ skips → read free [] (s ∷ due) vs ≡ read free [] due vs
unfolding reading
skips_end free s due vs e = rw e refl

pub makes_step : (free : ℕ) (t : Token) (ts : List Token) (s : Due) (due : List Due) (vs : List Value) (m : Make) → reading_turn s t.spot t.kind ≡ makes m →
    read free (t ∷ ts) (s ∷ due) vs ≡ read free (t ∷ ts) due (m vs)
unfolding reading
makes_step free t ts s due vs m e = rw e refl

pub makes_end : (free : ℕ) (s : Due) (due : List Due) (vs : List Value) (m : Make) → reading_turn s nowhere kinds.End ≡ makes m →
    read free [] (s ∷ due) vs ≡ read free [] due (m vs)
unfolding reading
makes_end free s due vs m e = rw e refl

pub make_step : (free : ℕ) (ts : List Token) (m : Make) (due : List Due) (vs : List Value) → read free ts (make m ∷ due) vs ≡ read free ts due (m vs)
unfolding reading
make_step free [] m due vs = refl
make_step free (t ∷ ts) m due vs = refl

pub not_deep : (free d : ℕ) (ts : List Token) → TokenOpens free d ts → (nat_le MOST_NESTING d && (judged free ts).here) ≡ false
not_deep free d ts (inl less) = grind (arith, nat_tests)
not_deep free d ts (inr less) = grind (arith, nat_tests)

pub opens_step : (free d : ℕ) (t : Token) (ts : List Token) (s : Due) (ds due : List Due) (vs : List Value) → reading_turn s t.spot t.kind ≡ takes (nests d) ds →
    TokenOpens free d (t ∷ ts) → read free (t ∷ ts) (s ∷ due) vs ≡ read free ts (ds ++ due) vs
unfolding reading
opens_step free d t ts s ds due vs e o = rw (e, not_deep free d (t ∷ ts) o) refl

-- a label opens a level at its name, of which nothing is known before what follows
pub label_step : (free d : ℕ) (n t : Token) (ts : List Token) (s : Due) (spot : Spot) (ds due : List Due) (vs : List Value) →
    reading_turn s t.spot t.kind ≡ takes (label d spot) ds → TokenOpens free d (n ∷ t ∷ ts) → read free (t ∷ ts) (s ∷ due) vs ≡ read free ts (ds ++ due) vs
unfolding reading
label_step free d n t ts s spot ds due vs e o =
    let fine : (nat_le MOST_NESTING d && (judged free (t ∷ ts)).before) ≡ false = by_limit o in rw (e, fine) refl
  where
    by_limit : TokenOpens free d (n ∷ t ∷ ts) → (nat_le MOST_NESTING d && (judged free (t ∷ ts)).before) ≡ false
    by_limit (inl less) = grind (arith, nat_tests)
    by_limit (inr less) = grind (arith, nat_tests)

pub word_is : (t : Token) (w : Reserved) → IsWord w t → is_word w t.kind ≡ true
word_is t w e = ap (is_word w) e ∙ true_same reserved_row.the_type w w refl

pub symbol_is : (t : Token) (s : Symbol) → IsSymbol s t → is_symbol s t.kind ≡ true
symbol_is t s e = ap (is_symbol s) e ∙ true_same symbol_row.the_type s s refl

same_itself : (n : List ℕ) → same_name n n ≡ true
same_itself [] = refl
same_itself (a ∷ n) = let e : nat_eq a a ≡ true = grind (arith, nat_tests) in rw (e, same_itself n) refl

pub spelled_is : (t : Token) (n : List ℕ) → IsSpelled n t → is_spelled n t.kind ≡ true
spelled_is t n e = ap (is_spelled n) e ∙ same_itself n

pub word_step : (free : ℕ) (t : Token) (ts : List Token) (w : Reserved) (due : List Due) (vs : List Value) → IsWord w t →
    read free (t ∷ ts) (word w ∷ due) vs ≡ read free ts due vs
word_step free t ts w due vs e = takes_step free t ts (word w) [] due vs (ap (λ b. either b (takes plain []) refuses) (word_is t w e))

pub symbol_step : (free : ℕ) (t : Token) (ts : List Token) (s : Symbol) (due : List Due) (vs : List Value) → IsSymbol s t →
    read free (t ∷ ts) (symbol s ∷ due) vs ≡ read free ts due vs
symbol_step free t ts s due vs e = takes_step free t ts (symbol s) [] due vs (ap (λ b. either b (takes plain []) refuses) (symbol_is t s e))

pub spelled_step : (free : ℕ) (t : Token) (ts : List Token) (n : List ℕ) (due : List Due) (vs : List Value) → IsSpelled n t →
    read free (t ∷ ts) (spelled n ∷ due) vs ≡ read free ts due vs
spelled_step free t ts n due vs e = takes_step free t ts (spelled n) [] due vs (ap (λ b. either b (takes plain []) refuses) (spelled_is t n e))

pub word_from : (k : TokenKind) (w : Reserved) → is_word w k ≡ true → k ≡ kinds.Word w
word_from (kinds.Word v) w e = ap kinds.Word (same_true reserved_row.the_type (search rules) v w e)
word_from k w e = cc

pub symbol_from : (k : TokenKind) (s : Symbol) → is_symbol s k ≡ true → k ≡ kinds.Symbol s
symbol_from (kinds.Symbol r) s e = ap kinds.Symbol (same_true symbol_row.the_type (search rules) r s e)
symbol_from k s e = cc

same_from : (m n : List ℕ) → same_name m n ≡ true → m ≡ n
same_from [] [] e = refl
same_from [] (b ∷ n) e = cc
same_from (a ∷ m) [] e = cc
same_from (a ∷ m) (b ∷ n) e = by_first (nat_eq a b) refl e (same_from m n)
  where
    by_first : (x : Bool) → nat_eq a b ≡ x → (x && same_name m n) ≡ true → (same_name m n ≡ true → m ≡ n) → a ∷ m ≡ b ∷ n
    by_first true p e again = let q : a ≡ b = grind (arith, nat_tests) in let r = again e in cc
    by_first false p e again = cc

pub spelled_from : (k : TokenKind) (n : List ℕ) → is_spelled n k ≡ true → k ≡ kinds.Name n
spelled_from (kinds.Name m) n e = ap kinds.Name (same_from m n e)
spelled_from k n e = cc

-- what is read is not refused
pub refused_none : (free : ℕ) (t : Token) (ts rest : List Token) (s : Due) (due : List Due) (vs ws : List Value) → reading_turn s t.spot t.kind ≡ refuses →
    read free (t ∷ ts) (s ∷ due) vs ≡ to rest ws → ⊥
unfolding reading
refused_none free t ts rest s due vs ws e r =
    let no : refused (length (t ∷ ts)) t.spot codes.Unexpected ≡ to rest ws =
    sym (ap (λ x. read_on (stepped (judged free (t ∷ ts)) outside t.spot x due vs (step (judged free (t ∷ ts)) due t.spot t.kind)) t ts (reading free ts)) e) ∙ r in cc

pub fails_step : (free : ℕ) (t : Token) (ts : List Token) (s : Due) (due : List Due) (vs : List Value) → reading_turn s t.spot t.kind ≡ refuses →
    read free (t ∷ ts) (s ∷ due) vs ≡ refused (length (t ∷ ts)) t.spot codes.Unexpected
unfolding reading
fails_step free t ts s due vs e = rw e refl

pub deep_step : (d : ℕ) (t : Token) (ts : List Token) (s : Due) (ds due : List Due) (vs : List Value) → reading_turn s t.spot t.kind ≡ takes (nests d) ds → MOST_NESTING ≤ d →
    read 0 (t ∷ ts) (s ∷ due) vs ≡ refused (length (t ∷ ts)) t.spot codes.TooDeep
unfolding reading
deep_step d t ts s ds due vs e o =
    let over : (nat_le MOST_NESTING d && (judged 0 (t ∷ ts)).here) ≡ true = grind (arith, nat_tests) in
    rw (e, over) refl

pub deep_label_step : (d : ℕ) (t : Token) (ts : List Token) (s : Due) (spot : Spot) (ds due : List Due) (vs : List Value) →
    reading_turn s t.spot t.kind ≡ takes (label d spot) ds → MOST_NESTING ≤ d → read 0 (t ∷ ts) (s ∷ due) vs ≡ refused (length (t ∷ ts)) spot codes.TooDeep
unfolding reading
deep_label_step d t ts s spot ds due vs e o =
    let over : (nat_le MOST_NESTING d && (judged 0 (t ∷ ts)).before) ≡ true = grind (arith, nat_tests) in
    rw (e, over) refl
