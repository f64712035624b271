-- The first lines of two lists, as far as they are the same.
use Rattle.std.proofs.Common.{◌≡◌, ℕ, ◌+◌, ◌<◌, Bool, true, false, not, refl, List, [], ◌∷◌, ◌++◌, length, get_or, take, drop, sym, ap, arith, ◌∙◌}
use Rattle.std.specs.Str.{bytes_eq}
use Rattle.std.proofs.lemmas.Slice.Eq.{bytes_eq-Decides}
use Rattle.std.proofs.lemmas.List.{take_more, drop_more}
use Rattle.b67_listing_reader.specs.Reading.{IsFirstOther}

-- what a test tells that two lines differ
by_test : (xs ys : List ℕ) (b : Bool) → bytes_eq xs ys ≡ b → not b ≡ false → xs ≡ ys
by_test xs ys true e t = (bytes_eq-Decides xs ys).0 e
by_test xs ys false e t = cc

pub lines_same : (xs ys : List ℕ) (r : Bool) → r ≡ not (bytes_eq xs ys) → r ≡ false → xs ≡ ys
lines_same xs ys r e t = by_test xs ys (bytes_eq xs ys) refl (sym e ∙ t)

pub lines_other : (xs ys : List ℕ) (r : Bool) → r ≡ not (bytes_eq xs ys) → r ≡ true → xs ≡ ys → ⊥
lines_other xs ys r e t same =
    let whole : bytes_eq xs ys ≡ true = (bytes_eq-Decides xs ys).1 same in
    let both : true ≡ false = sym t ∙ e ∙ ap not whole in
    cc

-- one more line of both
pub alike_more : (lines others : List (List ℕ)) (same : ℕ) (line other : List ℕ) → take same lines ≡ take same others → same < length lines → same < length others →
    line ≡ get_or lines same line → other ≡ get_or others same other → line ≡ other → take (same + 1) lines ≡ take (same + 1) others
alike_more lines others same line other alike inside within a b e =
    take_more lines same line inside ∙ ap (λ ls. ls ++ get_or lines same line ∷ []) alike ∙ ap (λ l. take same others ++ l ∷ []) (sym a ∙ e ∙ b) ∙ sym (take_more others same other within)

-- the next two lines differ
pub lines_differ : (lines others : List (List ℕ)) (same : ℕ) (line other : List ℕ) → take same lines ≡ take same others → same < length lines → same < length others →
    line ≡ get_or lines same line → other ≡ get_or others same other → (line ≡ other → ⊥) → IsFirstOther lines others same
lines_differ lines others same line other alike inside within a b apart = record {
  alike = alike;
  within = omega arith;
  inside = omega arith;
  differ = λ l o rest more e f is.
      let first : l ∷ rest ≡ get_or lines same line ∷ drop (same + 1) lines = sym e ∙ drop_more lines same line inside in
      let second : o ∷ more ≡ get_or others same other ∷ drop (same + 1) others = sym f ∙ drop_more others same other within in
      let one : l ≡ get_or lines same line = cc in
      let two : o ≡ get_or others same other = cc in
      apart (a ∙ sym one ∙ is ∙ two ∙ sym b);
}
