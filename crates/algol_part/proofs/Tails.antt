-- Results that are returned as they are.
use Rattle.std.proofs.Common.{◌≡◌, ℕ, Bool, sym, subst, List, [], ◌∷◌, ◌++◌, Result, IfErr, arith}
use Rattle.std.specs.Result.{IfOk}
use Rattle.std.proofs.lemmas.Result.{IfOk-weaker}
use Rattle.algol_tree.specs.declared.token.Token.{Token}
use Rattle.algol_tree.specs.declared.refusal.Refusal.{Refusal}
use Rattle.algol_tree.specs.declared.tree.Named.{Named}
use Rattle.algol_tree.specs.Due.{Value, names, Due, declarations}
use Rattle.algol_tree.specs.Found.{IsRest, ReaderFinds, Completes, Lists, ReaderRefuses}
use Rattle.algol_expr.proofs.Chain.{Reaches, via, if_err, rest_of}
use Rattle.algol_part.specs.Brings.{Brings, PartAdds, AddsNone, Repeats}
use Rattle.algol_part.specs.Phrases.{names_of_phrase}
use Rattle.algol_part.proofs.Chains.{bringing, listing, adding, refusing_all, refusing_on}

module _ {T : Type 0} (r : Result T Refusal) (tree : T → Value) (end : T → List Token) {tokens mid : List Token} (b : IsRest tokens mid) where
  pub completes_by : {s : Due} (part : List Due) → Reaches (s ∷ []) [] tokens (part ++ []) [] mid → IfOk r (λ x. Brings part mid (tree x) (end x)) →
      IfOk r (λ x. Completes s tokens (tree x) (end x))
  completes_by part a h = IfOk-weaker r _ _ (λ x f. record { run = (bringing a f).run; ended = f.behind.ended; no_longer = omega (arith, b.shorter, f.behind.shorter) }) h

  pub brings_listed : {from : List Due} (part : List Due) {left : Value} → Reaches from [] tokens (part ++ []) (left ∷ []) mid →
      IfOk r (λ x. Lists part mid left (tree x) (end x)) → IfOk r (λ x. Brings from tokens (tree x) (end x))
  brings_listed part a h = IfOk-weaker r _ _ (λ x f. record { run = (listing a f).run; behind = rest_of b f.behind }) h

  pub finds_by : {s p : Due} → Reaches (s ∷ []) [] tokens (p ∷ []) [] mid → IfOk r (λ x. ReaderFinds p mid (tree x) (end x)) → IfOk r (λ x. ReaderFinds s tokens (tree x) (end x))
  finds_by a h = IfOk-weaker r _ _ (λ x f. record { run = (via a f).run; behind = rest_of b f.behind }) h

-- one item more
pub adds_by : {T A : Type 0} (r : Result T Refusal) (all : A → Value) (more : T → A → A) (end : T → List Token) {tokens mid : List Token} {from : List Due} (part : List Due) →
    IsRest tokens mid → ((us : List Value) → Reaches from us tokens (part ++ []) us mid) → IfOk r (λ x. PartAdds part all mid (more x) (end x)) →
    IfOk r (λ x. PartAdds from all tokens (more x) (end x))
adds_by r all more end part b a h = IfOk-weaker r _ _ (λ x f. record { run = λ xs due vs. (adding (a (all xs ∷ [])) f).run due vs; behind = rest_of b f.behind }) h

pub adds_none : {T A : Type 0} (r : Result T Refusal) (all : A → Value) {tokens mid : List Token} {from : List Due} (part : List Due) →
    ((us : List Value) → Reaches from us tokens (part ++ []) us mid) → IfErr r (λ e. AddsNone part all mid e) → IfErr r (λ e. AddsNone from all tokens e)
adds_none r all part a h = if_err r _ _ (λ e f xs. refusing_on [] (a (all xs ∷ [])) (f xs)) h

module _ {T : Type 0} (r : Result T Refusal) {from : List Due} {us : List Value} {tokens mid : List Token} (part : List Due) {ws : List Value} where
  pub refuses_by : Reaches from us tokens (part ++ []) ws mid → IfErr r (λ e. ReaderRefuses part [] mid e) → IfErr r (λ e. ReaderRefuses from us tokens e)
  refuses_by a h = if_err r _ _ (λ e f. refusing_all [] a f) h

  pub refuses_on : {left : Value} → Reaches from us tokens (part ++ []) (left ∷ ws) mid → IfErr r (λ e. ReaderRefuses part (left ∷ []) mid e) →
      IfErr r (λ e. ReaderRefuses from us tokens e)
  refuses_on a h = if_err r _ _ (λ e f. refusing_on [] a f) h

-- a declaration

pub repeated : {s : Due} {tokens rest : List Token} {left v : Value} → Reaches (s ∷ []) (left ∷ []) tokens (s ∷ []) (v ∷ []) rest → IsRest tokens rest → Repeats s tokens left v rest
repeated r b = record { run = λ due vs. r.run due vs; behind = b }

pub repeats_by : {T : Type 0} (r : Result T Refusal) (left v : Value) (end : T → List Token) {tokens mid : List Token} (part : List Due) → IsRest tokens mid →
    ((d : ℕ) → Reaches (declarations d ∷ []) (left ∷ []) tokens (part ++ declarations d ∷ []) (left ∷ []) mid) → IfOk r (λ x. Lists part mid left v (end x)) →
    IfOk r (λ x. (d : ℕ) → Repeats (declarations d) tokens left v (end x))
repeats_by r left v end part b a h = IfOk-weaker r _ _ (λ x f d. repeated (listing (a d) f) (rest_of b f.behind)) h

pub repeats_none : {T : Type 0} (r : Result T Refusal) (left : Value) {tokens mid : List Token} (part : List Due) →
    ((d : ℕ) → Reaches (declarations d ∷ []) (left ∷ []) tokens (part ++ declarations d ∷ []) (left ∷ []) mid) → IfErr r (λ e. ReaderRefuses part (left ∷ []) mid e) →
    IfErr r (λ e. (d : ℕ) → ReaderRefuses (declarations d ∷ []) (left ∷ []) tokens e)
repeats_none r left part a h = if_err r _ _ (λ e f d. refusing_on (declarations d ∷ []) (a d) f) h

-- the same of the tokens by another name
pub lists_by : {T : Type 0} (r : Result T Refusal) (left v : Value) (end : T → List Token) {tokens mid : List Token} {from : List Due} (part : List Due) → IsRest tokens mid →
    Reaches from (left ∷ []) tokens (part ++ []) (left ∷ []) mid → IfOk r (λ x. Lists part mid left v (end x)) → IfOk r (λ x. Lists from tokens left v (end x))
lists_by r left v end part b a h = IfOk-weaker r _ _ (λ x f. record { run = (listing a f).run; behind = rest_of b f.behind }) h

-- the same of what reads nothing before the part
pub lists_here : {T : Type 0} (r : Result T Refusal) (left v : Value) (end : T → List Token) {tokens : List Token} {from : List Due} (part : List Due) →
    Reaches from (left ∷ []) tokens (part ++ []) (left ∷ []) tokens → IfOk r (λ x. Lists part tokens left v (end x)) → IfOk r (λ x. Lists from tokens left v (end x))
lists_here r left v end part a h = IfOk-weaker r _ _ (λ x f. record { run = (listing a f).run; behind = f.behind }) h

-- names or files, by the test that told them apart
module _ {T : Type 0} (r : Result T Refusal) {b files : Bool} (is : b ≡ files) (tokens : List Token) where
  pub names_brought : (found : T → List Named) (end : T → List Token) → IfOk r (λ x. Brings (names_of_phrase files) tokens (names (found x)) (end x)) →
      IfOk r (λ x. Brings (names_of_phrase b) tokens (names (found x)) (end x))
  names_brought found end h = subst (λ y. IfOk r (λ x. Brings (names_of_phrase y) tokens (names (found x)) (end x))) (sym is) h

  pub names_refused : IfErr r (λ e. ReaderRefuses (names_of_phrase files) [] tokens e) → IfErr r (λ e. ReaderRefuses (names_of_phrase b) [] tokens e)
  names_refused h = subst (λ y. IfErr r (λ e. ReaderRefuses (names_of_phrase y) [] tokens e)) (sym is) h
