-- Lists that are the same element by element.
use Rattle.std.proofs.Common.{◌≡◌, ◌≢◌, ℤ, Bool, true, false, List, [], ◌∷◌, length, refl, ap, sym, ◌∙◌, arith}
use Rattle.std.specs.Prelude.{◌&&◌}
use Rattle.std.specs.Ordering.{int_eq}
use Rattle.std.specs.Cmp.Lexicographic.{pointwise}
use Rattle.algol_tree.specs.declared.tree.Named.{Named}
use Rattle.algol_tree.specs.declared.tree.Spec.{Spec}
use Rattle.algol_tree.specs.declared.tree.Heading.{Heading}
use Rattle.algol_tree.specs.Classes.{same_result}
use Rattle.algol_tree.specs.Forwards.{same_heading}
use Rattle.algol_tree.specs.Sorts.{same_name}
use Rattle.algol_tree.proofs.Names.{bytes_same_name}
use Rattle.algol_sites.specs.Same.{names_agree, lows_agree, specs_agree, spec_agrees}

pub lows_straight : (xs ys : List ℤ) → pointwise int_eq xs ys ≡ lows_agree xs ys
lows_straight [] [] = refl
lows_straight [] (y ∷ ys) = refl
lows_straight (x ∷ xs) [] = refl
lows_straight (x ∷ xs) (y ∷ ys) = ap (λ b. int_eq x y && b) (lows_straight xs ys)

and_false : (b : Bool) → false ≡ (b && false)
and_false true = refl
and_false false = refl

pub names_differ : (ns ms : List Named) → length ns ≢ length ms → names_agree ns ms ≡ false
names_differ [] [] h = absurd (h refl)
names_differ [] (m ∷ ms) h = refl
names_differ (n ∷ ns) [] h = refl
names_differ (n ∷ ns) (m ∷ ms) h =
    ap (λ b. same_name n.name m.name && b) (names_differ ns ms (λ e. h (omega arith))) ∙ sym (and_false (same_name n.name m.name))

pub specs_differ : (ss ts : List Spec) → length ss ≢ length ts → specs_agree ss ts ≡ false
specs_differ [] [] h = absurd (h refl)
specs_differ [] (t ∷ ts) h = refl
specs_differ (s ∷ ss) [] h = refl
specs_differ (s ∷ ss) (t ∷ ts) h =
    ap (λ b. spec_agrees s t && b) (specs_differ ss ts (λ e. h (omega arith))) ∙ sym (and_false (spec_agrees s t))

pub ruleset sameness = (bytes_same_name, lows_straight, names_differ, specs_differ)

pub names_as : (xs ys ns ms : List Named) → xs ≡ ns → ys ≡ ms → true ≡ names_agree xs ys → true ≡ names_agree ns ms
names_as xs ys ns ms p q h = h ∙ ap (λ zs. names_agree zs ys) p ∙ ap (names_agree ns) q

pub specs_as : (r : Bool) (xs ys ss ts : List Spec) → xs ≡ ss → ys ≡ ts → r ≡ specs_agree xs ys → r ≡ specs_agree ss ts
specs_as r xs ys ss ts p q h = h ∙ ap (λ zs. specs_agree zs ys) p ∙ ap (specs_agree ss) q

-- all parts of two headings but their specifications are the same
pub all_same : (h g : Heading) (r : Bool) → true ≡ same_result h.kind g.kind → true ≡ same_name h.name.name g.name.name → true ≡ names_agree h.params g.params →
    true ≡ names_agree h.values g.values → r ≡ specs_agree h.specs g.specs → r ≡ same_heading h g
all_same h g r p q s t u =
    let e = specs_agree h.specs g.specs in
    u ∙ ap (λ a. a && true && true && true && e) p ∙ ap (λ b. same_result h.kind g.kind && b && true && true && e) q
    ∙ ap (λ c. same_result h.kind g.kind && same_name h.name.name g.name.name && c && true && e) s
    ∙ ap (λ d. same_result h.kind g.kind && same_name h.name.name g.name.name && names_agree h.params g.params && d && e) t
