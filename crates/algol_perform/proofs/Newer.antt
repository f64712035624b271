-- Laws of the parts of a process.
use Rattle.std.proofs.Common.{arith, ◌≡◌, refl, ℕ, zero, suc, ◌-◌, ◌<◌, ◌==◌, if◌then◌else◌, Bool, true, false, List, [], ◌∷◌, ◌++◌, length, map, take, drop, ap, sym, ◌∙◌, Option, Some, None, slice_get}
use Rattle.std.specs.Borrow.{Bor}
use Rattle.algol_tree.specs.Scopes.{Scopes}
use Rattle.algol_meaning.specs.World.{Part}
use Rattle.algol_meaning.specs.Critical.{is_evaluation, is_this, own_instances}
use Rattle.algol_meaning.specs.Instances.{cut_at, is_part_of}
use Rattle.algol_cells.specs.Shown.{shown_cell}
use Rattle.algol_world.specs.SeenWorld as views
use Rattle.algol_world.specs.declared.world.Part as code
use Rattle.algol_world.specs.Leaving.{is_nothing}
use Rattle.algol_instances.proofs.Numbering.{map_get_none, map_get_some}
use Rattle.b67_list.proofs.Lists.{drop_map, map_last}
use Rattle.algol_perform.specs.Going.{part_or_none, instance_in, own_instance_of, owned, AreLeft}

pub part_shown :
    (sc : Scopes) (o : Option (Bor code.Part)) (parts : List code.Part) (n : ℕ) → shown_cell o ≡ slice_get parts n
    → part_or_none sc o ≡ slice_get (map (views.part sc) parts) n
part_shown sc None parts n e = map_get_none (views.part sc) parts n e
part_shown sc (Some x) parts n e = map_get_some (views.part sc) parts n x.now e

pub first_instance : (parts : List Part) (x : Part) → Some x ≡ slice_get parts 0 → x.instance ≡ instance_in parts
first_instance [] x e = cc
first_instance (y ∷ parts) x e = let p : x ≡ y = cc in ap (λ (z : Part). z.instance) p

pub no_instance : (parts : List Part) → None ≡ slice_get parts 0 → 0 ≡ instance_in parts
no_instance [] e = refl
no_instance (y ∷ parts) e = cc

-- ---- the parts that are newer

pub take_more : {A : Type 0} (xs : List A) (k : ℕ) (x : A) → Some x ≡ slice_get xs k → take (suc k) xs ≡ take k xs ++ x ∷ []
take_more [] zero x e = cc
take_more [] (suc k) x e = cc
take_more {A} (y ∷ xs) zero x e = let p : x ≡ y = cc in ap (λ (z : A). z ∷ []) (sym p)
take_more {A} (y ∷ xs) (suc k) x e = ap (λ (zs : List A). y ∷ zs) (take_more xs k x e)

pub drop_more : {A : Type 0} (xs : List A) (k : ℕ) (x : A) → Some x ≡ slice_get xs k → drop k xs ≡ x ∷ drop (suc k) xs
drop_more [] zero x e = cc
drop_more [] (suc k) x e = cc
drop_more {A} (y ∷ xs) zero x e = let p : x ≡ y = cc in ap (λ (z : A). z ∷ xs) (sym p)
drop_more (y ∷ xs) (suc k) x e = drop_more xs k x e

pub drop_none : {A : Type 0} (xs : List A) (k : ℕ) → None ≡ slice_get xs k → drop k xs ≡ []
drop_none [] zero e = refl
drop_none [] (suc k) e = refl
drop_none (y ∷ xs) zero e = cc
drop_none (y ∷ xs) (suc k) e = drop_none xs k e

pub below_length : {A : Type 0} (xs : List A) (k : ℕ) (x : A) → Some x ≡ slice_get xs k → k < length xs
below_length [] zero x e = cc
below_length [] (suc k) x e = cc
below_length (y ∷ xs) zero x e = omega arith
below_length (y ∷ xs) (suc k) x e = let r : k < length xs = below_length xs k x e in omega arith

owned_all : (parts : List Part) → owned (map own_instance_of parts) ≡ own_instances parts
owned_all [] = refl
owned_all (part ∷ parts) = by (is_evaluation part.purpose) (owned_all parts)
  where
    by :
        (b : Bool) → owned (map own_instance_of parts) ≡ own_instances parts
        → owned ((if b then None else Some part.instance) ∷ map own_instance_of parts)
        ≡ (if b then own_instances parts else part.instance ∷ own_instances parts)
    by true e = e
    by false e = ap (λ (is : List ℕ). part.instance ∷ is) e

pub owned_left : (left : List (Option ℕ)) (parts : List Part) → left ≡ map own_instance_of parts → owned left ≡ own_instances parts
owned_left left parts e = ap owned e ∙ owned_all parts

-- the part of another instance is one more that is newer
cut_further : (newer : List Part) (part : Part) (parts : List Part) (i : ℕ) → is_part_of part i ≡ false → cut_at newer (part ∷ parts) i ≡ cut_at (newer ++ part ∷ []) parts i
cut_further newer part parts i e = rw e refl

cut_here : (newer : List Part) (part : Part) (parts : List Part) (i : ℕ) → is_part_of part i ≡ true → cut_at newer (part ∷ parts) i ≡ record { newer = newer; from = part ∷ parts }
cut_here newer part parts i e = rw e refl

own_part : (part : Part) (i : ℕ) → is_part_of part i ≡ is_this (own_instance_of part) i
own_part part i = by (is_evaluation part.purpose)
  where
    by : (b : Bool) → (if b then false else part.instance == i) ≡ is_this (if b then None else Some part.instance) i
    by true = refl
    by false = refl

pub longer : {A : Type 0} (xs : List A) (x : A) → length (xs ++ x ∷ []) ≡ suc (length xs)
longer [] x = refl
longer (y ∷ xs) x = ap suc (longer xs x)

module _ (parts : List Part) (left : List (Option ℕ)) (i : ℕ) where
  -- the parts are gone over as far as these
  abbrev pub Seeking : Type 0
  Seeking =
      (cut_at (take (length left) parts) (drop (length left) parts) i ≡ cut_at [] parts i) × (left ≡ map own_instance_of (take (length left) parts))

  pub seek_none : None ≡ slice_get parts (length left) → Seeking → AreLeft left parts i
  seek_none e s =
      let ends : drop (length left) parts ≡ [] = drop_none parts (length left) e in (
        sym s.0 ∙ ap (λ (ps : List Part). cut_at (take (length left) parts) ps i) ends
            ∙ ap (λ (ps : List Part). record { newer = take (length left) parts; from = ps }) (sym ends),
        s.1,
      )

  pub seek_here : (x : Part) → Some x ≡ slice_get parts (length left) → is_this (own_instance_of x) i ≡ true → Seeking → AreLeft left parts i
  seek_here x e t s =
      let begins : drop (length left) parts ≡ x ∷ drop (suc (length left)) parts = drop_more parts (length left) x e in (
        sym s.0 ∙ ap (λ (ps : List Part). cut_at (take (length left) parts) ps i) begins
            ∙ cut_here (take (length left) parts) x (drop (suc (length left)) parts) i (own_part x i ∙ t)
            ∙ ap (λ (ps : List Part). record { newer = take (length left) parts; from = ps }) (sym begins),
        s.1,
      )

module _ (parts : List Part) (left : List (Option ℕ)) (i : ℕ) where
  pub seek_more : (x : Part) (o : Option ℕ) → Some x ≡ slice_get parts (length left) → is_this (own_instance_of x) i ≡ false → o ≡ own_instance_of x → Seeking parts left i → Seeking parts (left ++ o ∷ []) i
  seek_more x o e t f s =
      let begins : drop (length left) parts ≡ x ∷ drop (suc (length left)) parts = drop_more parts (length left) x e in
      let more : take (suc (length left)) parts ≡ take (length left) parts ++ x ∷ [] = take_more parts (length left) x e in (
        ap (λ (k : ℕ). cut_at (take k parts) (drop k parts) i) (longer left o)
            ∙ ap (λ (ps : List Part). cut_at ps (drop (suc (length left)) parts) i) more
            ∙ sym (cut_further (take (length left) parts) x (drop (suc (length left)) parts) i (own_part x i ∙ t))
            ∙ ap (λ (ps : List Part). cut_at (take (length left) parts) ps i) (sym begins)
            ∙ s.0,
        ap (λ (p : Option ℕ). left ++ p ∷ []) f
            ∙ ap (λ (os : List (Option ℕ)). os ++ own_instance_of x ∷ []) s.1
            ∙ sym (map_last own_instance_of (take (length left) parts) x)
            ∙ ap (map own_instance_of) (sym more)
            ∙ ap (λ (k : ℕ). map own_instance_of (take k parts)) (sym (longer left o)),
      )

pub past_none : {A : Type 0} (o : Option A) → None ≡ o → true ≡ is_nothing o
past_none o e = ap is_nothing e

pub past_some : {A : Type 0} (o : Option A) (x : A) → Some x ≡ o → false ≡ is_nothing o
past_some o x e = ap is_nothing e

pub ruleset past_laws = (past_none, past_some)

pub ruleset part_laws = (part_shown, first_instance, no_instance)

-- ---- the parts that are left

pub parts_drop : (sc : Scopes) (xs : List code.Part) (k : ℕ) → map (views.part sc) (drop k xs) ≡ drop k (map (views.part sc) xs)
parts_drop sc xs k = drop_map (views.part sc) xs k

pub ruleset cutting_laws = parts_drop

pub drop_popped : {A : Type 0} (xs : List A) (x : A) (ys : List A) (k : ℕ) → xs ≡ x ∷ ys → 0 < k → drop (k - 1) ys ≡ drop k xs
drop_popped xs x ys zero e l = absurd (omega arith)
drop_popped {A} xs x ys (suc k) e l = ap (λ (n : ℕ). drop n ys) (let f : suc k - 1 ≡ k = omega arith in f) ∙ ap (λ (zs : List A). drop (suc k) zs) (sym e)

pub ruleset dropping_laws = drop_popped
