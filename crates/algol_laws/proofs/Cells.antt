-- Reading and setting cells.
use Rattle.std.proofs.Common.{◌≡◌, refl, sym, ap, ◌∙◌, ℕ, zero, suc, List, [], ◌∷◌, Bool, true, false}
use Rattle.std.specs.Prelude.{slice_get, slice_set, if◌then◌else◌}
use Rattle.b67_list.specs.Numbered.{numbered, set_numbered}
use Rattle.algol_meaning.specs.Value.{Reference, Cell}
use Rattle.algol_tree.specs.Sorts.{same_name}
use Rattle.algol_tree.proofs.Names.{same_name_is}
use Rattle.algol_meaning.specs.World.{NamedCell, Instance, World, instance_at, cell_in, cells_with}

-- ---- lists

pub set_other : {A : Type 0} (xs : List A) (j k : ℕ) (y : A) → (j ≡ k → ⊥) → slice_get (slice_set xs j y) k ≡ slice_get xs k
set_other [] j k y n = refl
set_other (z ∷ xs) zero zero y n = absurd (n refl)
set_other (z ∷ xs) zero (suc k) y n = refl
set_other (z ∷ xs) (suc j) zero y n = refl
set_other (z ∷ xs) (suc j) (suc k) y n = set_other xs j k y (λ e. n (ap suc e))

pub numbered_other : {A : Type 0} (xs : List A) (i j : ℕ) (y : A) → (i ≡ j → ⊥) → numbered (set_numbered xs i y) j ≡ numbered xs j
numbered_other xs zero j y n = refl
numbered_other xs (suc i) zero y n = refl
numbered_other xs (suc i) (suc j) y n = set_other xs i j y (λ e. n (ap suc e))

-- ---- cells of one instance

-- ---- names

-- a name that is not the one
other_name : (b : Bool) (a m n : List ℕ) → same_name a m ≡ true → same_name a n ≡ b → (m ≡ n → ⊥) → b ≡ false
other_name true a m n e f d = absurd (d (sym (same_name_is a m e) ∙ same_name_is a n f))
other_name false a m n e f d = refl

pub with_other : (cells : List NamedCell) (m n : List ℕ) (c : Cell) → (m ≡ n → ⊥) → cell_in (cells_with cells m c) n ≡ cell_in cells n
with_other [] m n c d = refl
with_other (x ∷ cells) m n c d = by (same_name x.name m) refl (with_other cells m n c d)
  where
    here : same_name x.name m ≡ true → cell_in (record x { cell = c } ∷ cells) n ≡ cell_in (x ∷ cells) n
    here e = rw (other_name (same_name x.name n) x.name m n e refl d) refl

    by : (b : Bool) → same_name x.name m ≡ b → cell_in (cells_with cells m c) n ≡ cell_in cells n →
        cell_in (if b then record x { cell = c } ∷ cells else x ∷ cells_with cells m c) n ≡ cell_in (x ∷ cells) n
    by true e f = here e
    by false e f = ap (λ y. if same_name x.name n then x.cell else y) f

-- ---- worlds

module _ (w : World) (r : Reference) (c : Cell) where
  abbrev x : Instance
  x = instance_at w r.instance
