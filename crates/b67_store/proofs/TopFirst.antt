-- Words with the top one first, which a vector holds with the top one last.
use Rattle.std.proofs.Common.{◌≡◌, sym, ap, ◌∙◌, ℕ, ◌+◌, List, ◌++◌, length, take, drop, arith, take-append-drop}
use Rattle.std.specs.Prelude.{reverse}
use Rattle.std.proofs.lemmas.List.{reverse-append, length-reverse, length-drop}
use Rattle.std.proofs.Math.Seq.{drop-append_seam}

dropped : {A : Type 0} (count : ℕ) (lower upper : List A) → length upper ≡ count → drop count (reverse (lower ++ upper)) ≡ reverse lower
dropped count lower upper e =
    ap (drop count) (reverse-append lower upper)
    ∙ ap (λ n. drop n (reverse upper ++ reverse lower)) (sym e ∙ sym (length-reverse upper))
    ∙ drop-append_seam (reverse upper) (reverse lower)

-- the lowest words are those without so many on top
pub cut_is : {A : Type 0} (words : List A) (n count : ℕ) → n + count ≡ length words → reverse (take n words) ≡ drop count (reverse words)
cut_is words n count e =
    let size : length (drop n words) ≡ count = omega (arith, length-drop n words, e) in
    sym (dropped count (take n words) (drop n words) size) ∙ ap (λ ws. drop count (reverse ws)) (take-append-drop n words)
