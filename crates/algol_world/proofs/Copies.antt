-- Copies that stand for the same as what they are copies of.
use Rattle.std.proofs.Common.{◌≡◌, refl, ℕ, ◌+◌, ◌<◌, List, [], ◌∷◌, ◌++◌, length, map, reverse, take, get_or, ap, sym, ◌∙◌}
use Rattle.std.proofs.lemmas.List.{map-append, reverse-append, take_more}

map_reverse : {A B : Type 0} (f : A → B) (xs : List A) → map f (reverse xs) ≡ reverse (map f xs)
map_reverse f [] = refl
map_reverse f (x ∷ xs) =
    ap (map f) (reverse-append (x ∷ []) xs)
    ∙ map-append f (reverse xs) (x ∷ [])
    ∙ ap (λ ys. ys ++ f x ∷ []) (map_reverse f xs)
    ∙ sym (reverse-append (f x ∷ []) (map f xs))

-- one copy more
pub one_more :
    {A B : Type 0} (f : A → B) (copies from : List A) (i : ℕ) (x d : A) → i < length from → map f copies ≡ map f (take i from) → f x ≡ f (get_or from i d)
    → map f (copies ++ x ∷ []) ≡ map f (take (i + 1) from)
one_more f copies from i x d less so_far same =
    map-append f copies (x ∷ [])
    ∙ ap (λ ys. ys ++ f x ∷ []) so_far
    ∙ ap (λ y. map f (take i from) ++ y ∷ []) same
    ∙ sym (map-append f (take i from) (get_or from i d ∷ []))
    ∙ ap (map f) (sym (take_more from i d less))

-- stacks of them
pub stacked : {A B : Type 0} (f : A → B) (xs ys : List A) → map f xs ≡ map f ys → map f (reverse xs) ≡ map f (reverse ys)
stacked f xs ys same = map_reverse f xs ∙ ap reverse same ∙ sym (map_reverse f ys)

pub ruleset copies_laws = (stacked)
