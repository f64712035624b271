-- Names that are declared once: where a name is found among what the declarations of a block make known.
use Rattle.std.proofs.Common.{◌≡◌, ◌⊎◌, inl, inr, ℕ, ◌==◌, Bool, true, false, cond, List, [], ◌∷◌, ◌++◌, map, filter, Some, None, refl, sym, ap, ◌∙◌, subst, if◌then◌else◌}
use Rattle.std.proofs.lemmas.Bool.{eq-eqb}
use Rattle.std.proofs.lemmas.List.{map-append}
use Rattle.std.proofs.lemmas.List.Elements.{filter-append}
use Rattle.std.specs.List.{AllByRecursion}
use Rattle.algol_tree.specs.declared.tree.Named.{Named}
use Rattle.algol_tree.specs.Classes.{Class}
use Rattle.algol_tree.specs.Names.{if_so, name_is_one_of, repeated}
use Rattle.algol_tree.specs.Sorts.{Sort, same_name, Declared, look_up, declare}
use Rattle.algol_tree.proofs.Names.{same_name_is}
use Rattle.algol_tree.proofs.Spots.{not_so}
use Rattle.b67_list.proofs.Lists.{append_none_left, append_none_right}

-- ---- names

abbrev pub IsOther : List ℕ → Named → Type 0
IsOther name n = same_name n.name name ≡ false

-- what is found in joined lists
pub found_either : (new known : List Declared) (name : List ℕ) (d : Declared) → look_up (new ++ known) name ≡ Some d → (look_up new name ≡ Some d) ⊎ (look_up known name ≡ Some d)
found_either [] known name d h = inr h
found_either (e ∷ new) known name d h = by (same_name e.name name) (found_either new known name d) h
  where
    by : (b : Bool) → (look_up (new ++ known) name ≡ Some d → (look_up new name ≡ Some d) ⊎ (look_up known name ≡ Some d)) → (if b then Some e else look_up (new ++ known) name) ≡ Some d →
        ((if b then Some e else look_up new name) ≡ Some d) ⊎ (look_up known name ≡ Some d)
    by true later g = inl g
    by false later g = later g

pub one_of_front : (xs ys : List (List ℕ)) (name : List ℕ) → name_is_one_of (xs ++ ys) name ≡ false → name_is_one_of xs name ≡ false
one_of_front [] ys name h = refl
one_of_front (x ∷ xs) ys name h = by (same_name x name) (one_of_front xs ys name) h
  where
    by : (b : Bool) → (name_is_one_of (xs ++ ys) name ≡ false → name_is_one_of xs name ≡ false) → (if b then true else name_is_one_of (xs ++ ys) name) ≡ false → (if b then true else name_is_one_of xs name) ≡ false
    by true later g = g
    by false later g = later g

pub one_of_back : (xs ys : List (List ℕ)) (name : List ℕ) → name_is_one_of (xs ++ ys) name ≡ false → name_is_one_of ys name ≡ false
one_of_back [] ys name h = h
one_of_back (x ∷ xs) ys name h = by (same_name x name) (one_of_back xs ys name) h
  where
    by : (b : Bool) → (name_is_one_of (xs ++ ys) name ≡ false → name_is_one_of ys name ≡ false) → (if b then true else name_is_one_of (xs ++ ys) name) ≡ false → name_is_one_of ys name ≡ false
    by true later g = absurd (let clash : true ≡ false = g in cc)
    by false later g = later g

-- the names of this block among these
abbrev pub names_of : ℕ → List Declared → List (List ℕ)
names_of block known = map (λ (d : Declared). d.name) (filter (λ (d : Declared). d.block == block) known)

pub one_front : (names more : List (List ℕ)) (name : List ℕ) → name_is_one_of names name ≡ true → name_is_one_of (names ++ more) name ≡ true
one_front [] more name h = absurd (let clash : false ≡ true = h in cc)
one_front (m ∷ names) more name h = by (same_name m name) (one_front names more name) h
  where
    by : (t : Bool) → (name_is_one_of names name ≡ true → name_is_one_of (names ++ more) name ≡ true) → (if t then true else name_is_one_of names name) ≡ true →
        (if t then true else name_is_one_of (names ++ more) name) ≡ true
    by true later g = refl
    by false later g = later g

-- the names of the block among these and those
pub names_both : (block : ℕ) (new known : List Declared) → names_of block (new ++ known) ≡ names_of block new ++ names_of block known
names_both block new known =
    ap (map (λ (d : Declared). d.name)) (filter-append (λ (d : Declared). d.block == block) new known)
    ∙ map-append (λ (d : Declared). d.name) (filter (λ (d : Declared). d.block == block) new) (filter (λ (d : Declared). d.block == block) known)

module _ (block depth : ℕ) (s : Sort) (c : Class) where
  abbrev pub entry : Named → Declared
  entry n = record { name = n.name; spot = n.spot; block = block; depth = depth; sort = s; class = c }

  -- what is found was declared so
  pub declared_is : (ns : List Named) (name : List ℕ) (d : Declared) → look_up (declare block depth s c ns) name ≡ Some d → (d.class ≡ c) × (d.sort ≡ s)
  declared_is [] name d h = absurd (let clash : None ≡ Some d = h in cc)
  declared_is (n ∷ ns) name d h = by (same_name n.name name) (declared_is ns name d) h
    where
      by : (b : Bool) → (look_up (declare block depth s c ns) name ≡ Some d → (d.class ≡ c) × (d.sort ≡ s)) → (if b then Some (entry n) else look_up (declare block depth s c ns) name) ≡ Some d →
          (d.class ≡ c) × (d.sort ≡ s)
      by true later g =
          let same : entry n ≡ d = cc in
          (ap (λ (z : Declared). z.class) (sym same), ap (λ (z : Declared). z.sort) (sym same))
      by false later g = later g

  -- what is found of one name by itself
  pub found_one : (n : Named) (name : List ℕ) (d : Declared) → look_up (declare block depth s c (n ∷ [])) name ≡ Some d → (same_name n.name name ≡ true) × (entry n ≡ d)
  found_one n name d h = by (same_name n.name name) refl h
    where
      by : (b : Bool) → same_name n.name name ≡ b → (if b then Some (entry n) else None) ≡ Some d → (same_name n.name name ≡ true) × (entry n ≡ d)
      by true e g = (e, (let same : entry n ≡ d = cc in same))
      by false e g = absurd (let clash : None ≡ Some d = g in cc)

  -- a name that the block has not, with these declared, is none of theirs
  pub all_other : (ns : List Named) (known : List Declared) (name : List ℕ) → name_is_one_of (names_of block (declare block depth s c ns ++ known)) name ≡ false →
      AllByRecursion (IsOther name) ns × (name_is_one_of (names_of block known) name ≡ false)
  all_other [] known name h = (tt, h)
  all_other (n ∷ ns) known name h =
      by (same_name n.name name) refl (all_other ns known name)
      (subst (λ (b : Bool). name_is_one_of (map (λ (d : Declared). d.name) (cond b (entry n ∷ rest) rest)) name ≡ false) (eq-eqb block block refl) h)
    where
      rest : List Declared
      rest = filter (λ (d : Declared). d.block == block) (declare block depth s c ns ++ known)

      by : (b : Bool) → same_name n.name name ≡ b →
          (name_is_one_of (names_of block (declare block depth s c ns ++ known)) name ≡ false → AllByRecursion (IsOther name) ns × (name_is_one_of (names_of block known) name ≡ false)) →
          (if b then true else name_is_one_of (names_of block (declare block depth s c ns ++ known)) name) ≡ false →
          AllByRecursion (IsOther name) (n ∷ ns) × (name_is_one_of (names_of block known) name ≡ false)
      by true e later g = absurd (let clash : true ≡ false = g in cc)
      by false e later g =
          let r = later g in
          ((e, r.0), r.1)

  -- a name that is declared there was not seen before
  pub fresh : (ns : List Named) (seen : List (List ℕ)) (name : List ℕ) (d : Declared) → repeated seen ns ≡ [] → look_up (declare block depth s c ns) name ≡ Some d → name_is_one_of seen name ≡ false
  fresh [] seen name d h g = absurd (let clash : None ≡ Some d = g in cc)
  fresh (n ∷ ns) seen name d h g = by (same_name n.name name) refl (fresh ns (n.name ∷ seen) name d (append_none_right (if_so (name_is_one_of seen n.name) n.spot) (repeated (n.name ∷ seen) ns) h)) g
    where
      by : (b : Bool) → same_name n.name name ≡ b → (look_up (declare block depth s c ns) name ≡ Some d → (if same_name n.name name then true else name_is_one_of seen name) ≡ false) →
          (if b then Some (entry n) else look_up (declare block depth s c ns) name) ≡ Some d → name_is_one_of seen name ≡ false
      by true e later f =
          subst (λ (z : List ℕ). name_is_one_of seen z ≡ false) (same_name_is n.name name e)
          (not_so (name_is_one_of seen n.name) n.spot (append_none_left (if_so (name_is_one_of seen n.name) n.spot) (repeated (n.name ∷ seen) ns) h))
      by false e later f = subst (λ (b : Bool). (if b then true else name_is_one_of seen name) ≡ false) e (later f)
