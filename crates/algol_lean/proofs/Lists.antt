-- Lists of instances that are alike but for the cells of those that are left.
use Rattle.std.proofs.Common.{◌≡◌, refl, ap, ◌∙◌, ℕ, zero, suc, ◌+◌, List, [], ◌∷◌, ◌++◌, Bool, true, false, map}
use Rattle.std.specs.Prelude.{slice_get, slice_set}
use Rattle.b67_list.specs.Numbered.{numbered, set_numbered}
use Rattle.algol_meaning.specs.World.{NamedCell, Instance, no_instance, or_no_instance}
use Rattle.algol_meaning.specs.Arrays.{size_of_cells, size_unless, live_elements}
use Rattle.algol_laws.specs.Reading.{Outline, outline}
use Rattle.algol_lean.specs.Lean.{IsLean, AreLean}

pub lean_self : (x : Instance) → IsLean x x
lean_self x = record { alike = refl; cells = λ e. refl }

pub all_lean_self : (xs : List Instance) → AreLean xs xs
all_lean_self [] = tt
all_lean_self (x ∷ xs) = (lean_self x, all_lean_self xs)

lean_got : (xs ys : List Instance) → AreLean xs ys → (k : ℕ) → IsLean (or_no_instance (slice_get xs k)) (or_no_instance (slice_get ys k))
lean_got [] [] l k = lean_self no_instance
lean_got [] (y ∷ ys) l k = absurd l
lean_got (x ∷ xs) [] l k = absurd l
lean_got (x ∷ xs) (y ∷ ys) l zero = l.0
lean_got (x ∷ xs) (y ∷ ys) l (suc k) = lean_got xs ys l.1 k

pub lean_numbered : (xs ys : List Instance) → AreLean xs ys → (i : ℕ) → IsLean (or_no_instance (numbered xs i)) (or_no_instance (numbered ys i))
lean_numbered xs ys l zero = lean_self no_instance
lean_numbered xs ys l (suc k) = lean_got xs ys l k

lean_put : (xs ys : List Instance) → AreLean xs ys → (k : ℕ) (x y : Instance) → IsLean x y → AreLean (slice_set xs k x) (slice_set ys k y)
lean_put [] [] l k x y m = tt
lean_put [] (b ∷ ys) l k x y m = absurd l
lean_put (a ∷ xs) [] l k x y m = absurd l
lean_put (a ∷ xs) (b ∷ ys) l zero x y m = (m, l.1)
lean_put (a ∷ xs) (b ∷ ys) l (suc k) x y m = (l.0, lean_put xs ys l.1 k x y m)

pub lean_set : (xs ys : List Instance) → AreLean xs ys → (i : ℕ) (x y : Instance) → IsLean x y → AreLean (set_numbered xs i x) (set_numbered ys i y)
lean_set xs ys l zero x y m = l
lean_set xs ys l (suc k) x y m = lean_put xs ys l k x y m

pub lean_added : (xs ys : List Instance) → AreLean xs ys → (x y : Instance) → IsLean x y → AreLean (xs ++ x ∷ []) (ys ++ y ∷ [])
lean_added [] [] l x y m = (m, tt)
lean_added [] (b ∷ ys) l x y m = absurd l
lean_added (a ∷ xs) [] l x y m = absurd l
lean_added (a ∷ xs) (b ∷ ys) l x y m = (l.0, lean_added xs ys l.1 x y m)

pub outlines_lean : (xs ys : List Instance) → AreLean xs ys → map outline ys ≡ map outline xs
outlines_lean [] [] l = refl
outlines_lean [] (y ∷ ys) l = absurd l
outlines_lean (x ∷ xs) [] l = absurd l
outlines_lean (x ∷ xs) (y ∷ ys) l = ap (λ (o : Outline). o ∷ map outline ys) l.0.alike ∙ ap (λ (os : List Outline). outline x ∷ os) (outlines_lean xs ys l.1)

-- ---- live elements

size_lean : (x y : Instance) → IsLean x y → size_unless y.left (size_of_cells y.cells) ≡ size_unless x.left (size_of_cells x.cells)
size_lean x y l = ap (λ (o : Outline). size_unless o.left (size_of_cells y.cells)) l.alike ∙ by x.left refl
  where
    by : (b : Bool) → x.left ≡ b → size_unless b (size_of_cells y.cells) ≡ size_unless b (size_of_cells x.cells)
    by true e = refl
    by false e = ap (λ (cells : List NamedCell). size_of_cells cells) (l.cells e)

pub live_lean : (xs ys : List Instance) → AreLean xs ys → live_elements ys ≡ live_elements xs
live_lean [] [] l = refl
live_lean [] (y ∷ ys) l = absurd l
live_lean (x ∷ xs) [] l = absurd l
live_lean (x ∷ xs) (y ∷ ys) l =
    ap (λ (n : ℕ). n + live_elements ys) (size_lean x y l.0) ∙ ap (λ (n : ℕ). size_unless x.left (size_of_cells x.cells) + n) (live_lean xs ys l.1)

-- ---- lean beside lean

-- ---- one of them

lean_put_right : (xs ys : List Instance) → AreLean xs ys → (k : ℕ) (y : Instance) → IsLean (or_no_instance (slice_get xs k)) y → AreLean xs (slice_set ys k y)
lean_put_right [] [] l k y m = tt
lean_put_right [] (b ∷ ys) l k y m = absurd l
lean_put_right (a ∷ xs) [] l k y m = absurd l
lean_put_right (a ∷ xs) (b ∷ ys) l zero y m = (m, l.1)
lean_put_right (a ∷ xs) (b ∷ ys) l (suc k) y m = (l.0, lean_put_right xs ys l.1 k y m)

pub lean_set_right : (xs ys : List Instance) → AreLean xs ys → (i : ℕ) (y : Instance) → IsLean (or_no_instance (numbered xs i)) y → AreLean xs (set_numbered ys i y)
lean_set_right xs ys l zero y m = l
lean_set_right xs ys l (suc k) y m = lean_put_right xs ys l k y m
