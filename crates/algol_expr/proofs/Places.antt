-- Places of tokens, counted from the first.
use Rattle.std.proofs.Common.{◌≡◌, ◌<◌, ◌+◌, ◌-◌, ℕ, zero, suc, List, [], ◌∷◌, ◌++◌, length, length-append, drop, sym, subst, ap, ◌∙◌, arith}
use Rattle.std.proofs.lemmas.List.{drop-drop, length-drop}
use Rattle.std.proofs.Math.Seq.{drop-append_seam}
use Rattle.algol_tree.specs.declared.token.Token.{Token}
use Rattle.algol_tree.specs.Ended.{EndsOnce}
use Rattle.algol_tree.specs.Refused.{IsLongest}

pub ends_drop : (n : ℕ) (ts : List Token) → EndsOnce ts → n < length ts → EndsOnce (drop n ts)
ends_drop zero ts e less = e
ends_drop (suc n) [] e less = absurd e
ends_drop (suc n) (t ∷ []) e less = absurd (omega arith)
ends_drop (suc n) (t ∷ u ∷ ts) e less = ends_drop n (u ∷ ts) e.1 (omega arith)

-- the tokens after an expression, by the place of the first
pub rest_at : (tokens : List Token) (at d : ℕ) (rest : List Token) → at < length tokens → IsLongest d (drop at tokens) rest → drop (length tokens - length rest) tokens ≡ rest
rest_at tokens at d rest less l =
    let e : drop at tokens ≡ l.front ++ rest = l.is ∙ ap (λ x. l.front ++ x) (sym l.follows) in
    let whole : length tokens - at ≡ length l.front + length rest = sym (length-drop at tokens) ∙ ap length e ∙ length-append l.front rest in
    let n : length tokens - length rest ≡ at + length l.front = omega (arith, whole) in
    ap (λ n. drop n tokens) n ∙ sym (drop-drop (length l.front) at tokens) ∙ ap (drop (length l.front)) e ∙ drop-append_seam l.front rest

-- a fact of the rest is one of the tokens from that place on
pub at_rest : (P : List Token → Type 0) (tokens : List Token) (at d : ℕ) (from rest : List Token) → from ≡ drop at tokens → at < length tokens → IsLongest d from rest → P rest →
    P (drop (length tokens - length rest) tokens)
at_rest P tokens at d from rest e less l p = subst P (sym (rest_at tokens at d rest less (subst (λ x. IsLongest d x rest) e l))) p
