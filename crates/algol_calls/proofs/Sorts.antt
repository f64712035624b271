-- Which sorts stand for something else, and cells that lead there.
use Rattle.std.proofs.Common.{◌≡◌, Bool, true, false, refl, subst}
use Rattle.algol_tree.specs.Sorts as sorts
use Rattle.algol_tree.specs.Sorts.{Sort, is_formal, is_by_name, is_variable}
use Rattle.algol_meaning.specs.Value.{Cell, simple, event, array, named, reference}
use Rattle.algol_calls.specs.Fits.{IsLink}

pub variable_no_formal : (s : Sort) → is_variable s ≡ true → is_formal s ≡ false
variable_no_formal sorts.variable e = refl
variable_no_formal _ e = cc

pub by_name_formal : (s : Sort) → is_by_name s ≡ true → is_formal s ≡ true
by_name_formal sorts.by_name e = refl
by_name_formal _ e = cc

-- a parameter that stands for no name of an event or array is one by name
pub by_name_else : (s : Sort) → (is_formal s ≡ true → is_by_name s ≡ false → ⊥) → is_formal s ≡ true → is_by_name s ≡ true
by_name_else s f e = by (is_by_name s) refl
  where
    by : (b : Bool) → is_by_name s ≡ b → b ≡ true
    by true g = refl
    by false g = absurd (f e g)

-- ---- links

pub link_true : (b : Bool) (c : Cell) → IsLink b c → IsLink true c
link_true b (reference r) i = tt
link_true b (named n) i = refl
link_true b (simple v) i = i
link_true b (event e) i = i
link_true b (array a) i = i

-- what leads where an event or an array does also leads where an expression does
pub link_for : (b d : Bool) (c : Cell) → (b ≡ false → d ≡ false) → IsLink d c → IsLink b c
link_for true d c f i = link_true d c i
link_for false d c f i = subst (λ k. IsLink k c) (f refl) i
