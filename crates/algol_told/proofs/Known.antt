-- Names that are the same, and lists of declarations with the innermost first in which no block has a name at two places.
use Rattle.std.proofs.Common.{◌≡◌, ℕ, ◌≤◌, Bool, true, false, List, [], ◌∷◌, ◌++◌, map, Some, refl, sym, ap, ◌∙◌, arith}
use Rattle.std.specs.Prelude.{◌==◌, if◌then◌else◌, is_some}
use Rattle.std.specs.List.{AllByRecursion, Contains}
use Rattle.algol_tree.specs.declared.tree.Named.{Named}
use Rattle.algol_tree.specs.declared.tree.Heading.{Heading}
use Rattle.algol_tree.specs.Sorts.{Declared, same_name, look_up}
use Rattle.algol_tree.specs.Blocks.{same_spot}
use Rattle.algol_tree.specs.Names.{if_so, name_is_one_of, repeated, is_announced_by}
use Rattle.algol_tree.proofs.Names.{same_name_is, same_name_itself}
use Rattle.algol_tree.proofs.Spots.{not_so, same_spot_is}
use Rattle.algol_rules.proofs.Order.{true_not_false}
use Rattle.b67_list.proofs.Lists.{append_none_left, append_none_right}
use Rattle.b67_list.proofs.Truths.{and_second, either_so}
use Rattle.algol_told.proofs.Lists.{contains_first, contains_later, all_weaker, all_both, of_contained}

-- ---- the same names and places

name_told : (a b : List ℕ) → a ≡ b → same_name a b ≡ true
name_told a b h = ap (same_name a) (sym h) ∙ same_name_itself a

-- ---- names that are among others

pub nor_first : (b c : Bool) → (if b then true else c) ≡ false → b ≡ false
nor_first true c h = absurd (true_not_false h)
nor_first false c h = refl

nor_second : (b c : Bool) → (if b then true else c) ≡ false → c ≡ false
nor_second true c h = absurd (true_not_false h)
nor_second false c h = h

among_more : (m : List ℕ) (seen : List (List ℕ)) (name : List ℕ) → name_is_one_of seen name ≡ true → name_is_one_of (m ∷ seen) name ≡ true
among_more m seen name h = either_so (same_name m name) (name_is_one_of seen name) h

pub among_first : (m : List ℕ) (seen : List (List ℕ)) (name : List ℕ) → m ≡ name → name_is_one_of (m ∷ seen) name ≡ true
among_first m seen name h = ap (λ (b : Bool). if b then true else name_is_one_of seen name) (name_told m name h)

-- names that are not repeated are not those before
pub unseen : (seen : List (List ℕ)) (ns : List Named) → repeated seen ns ≡ [] → AllByRecursion (λ (n : Named). name_is_one_of seen n.name ≡ false) ns
unseen seen [] h = tt
unseen seen (n ∷ ns) h = (
  not_so (name_is_one_of seen n.name) n.spot (append_none_left (if_so (name_is_one_of seen n.name) n.spot) (repeated (n.name ∷ seen) ns) h),
  all_weaker (λ (m : Named). name_is_one_of (n.name ∷ seen) m.name ≡ false) (λ (m : Named). name_is_one_of seen m.name ≡ false)
      (λ m. nor_second (same_name n.name m.name) (name_is_one_of seen m.name)) ns
      (unseen (n.name ∷ seen) ns (append_none_right (if_so (name_is_one_of seen n.name) n.spot) (repeated (n.name ∷ seen) ns) h)),
)

pub alone_fresh : (seen : List (List ℕ)) (n : Named) → repeated seen (n ∷ []) ≡ [] → name_is_one_of seen n.name ≡ false
alone_fresh seen n h = (unseen seen (n ∷ []) h).0

pub fresh_alone : (seen : List (List ℕ)) (n : Named) → name_is_one_of seen n.name ≡ false → repeated seen (n ∷ []) ≡ []
fresh_alone seen n h = ap (λ b. if_so b n.spot ++ []) h

-- ---- lists of declarations

-- The second is in the same block as the first or further out, and where it has its name in its block, it is that one.
abbrev pub Under : Declared → Declared → Type 0
Under d e = (e.depth ≤ d.depth) × (e.depth ≡ d.depth → (e.block ≡ d.block) × (e.name ≡ d.name → e.spot ≡ d.spot))

abbrev pub Tidied : List Declared → Type 0
Tidied [] = Unit {0}
Tidied (d ∷ ds) = AllByRecursion (Under d) ds × Tidied ds

-- the declaration is of the block with this number and depth, or of one around it
abbrev pub Within : ℕ → ℕ → Declared → Type 0
Within block depth e = (e.depth ≤ depth) × (e.depth ≡ depth → e.block ≡ block)

module _ (block depth : ℕ) where
  abbrev pub IsSeen : List (List ℕ) → Declared → Type 0
  IsSeen seen e = e.depth ≡ depth → name_is_one_of seen e.name ≡ true

  abbrev pub IsAt : Declared → Declared → Type 0
  IsAt d e = e.depth ≡ depth → e.name ≡ d.name → e.spot ≡ d.spot

  pub put : (d : Declared) → d.block ≡ block → d.depth ≡ depth → (ds : List Declared) → AllByRecursion (Within block depth) ds → AllByRecursion (IsAt d) ds →
      AllByRecursion (Under d) ds
  put d p q [] w n = tt
  put d p q (e ∷ ds) w n =
      let low : e.depth ≤ d.depth = (let h = w.0.0 in omega (arith, h, q)) in
      ((low, λ h. (w.0.1 (h ∙ q) ∙ sym p, λ m. n.0 (h ∙ q) m)), put d p q ds w.1 n.1)

  -- names that are declared together in the block
  module _ (f : Named → Declared) (name-of : (n : Named) → (f n).name ≡ n.name) (block-of : (n : Named) → (f n).block ≡ block) (depth-of : (n : Named) → (f n).depth ≡ depth) where
    pub put_within : (ns : List Named) (ds : List Declared) → AllByRecursion (Within block depth) ds → AllByRecursion (Within block depth) (map f ns ++ ds)
    put_within [] ds w = w
    put_within (n ∷ ns) ds w =
        let low : (f n).depth ≤ depth = (let h = depth-of n in omega (arith, h)) in
        ((low, λ h. block-of n), put_within ns ds w)

    apart : (n : Named) (seen : List (List ℕ)) → name_is_one_of seen n.name ≡ false → (ns : List Named) → AllByRecursion (λ (m : Named). name_is_one_of (n.name ∷ seen) m.name ≡ false) ns →
        (ds : List Declared) → AllByRecursion (IsSeen seen) ds → AllByRecursion (IsAt (f n)) (map f ns ++ ds)
    apart n seen fresh [] u ds s =
        all_weaker (IsSeen seen) (IsAt (f n))
        (λ e h deep same. absurd (true_not_false (sym (h deep) ∙ ap (name_is_one_of seen) (same ∙ name-of n) ∙ fresh))) ds s
    apart n seen fresh (m ∷ ns) u ds s = (
      λ deep same. absurd (true_not_false (sym (among_first n.name seen m.name (sym (sym (name-of m) ∙ same ∙ name-of n))) ∙ u.0)),
      apart n seen fresh ns u.1 ds s,
    )

    pub put_names : (seen : List (List ℕ)) (ns : List Named) (ds : List Declared) → repeated seen ns ≡ [] → AllByRecursion (Within block depth) ds → Tidied ds →
        AllByRecursion (IsSeen seen) ds → Tidied (map f ns ++ ds)
    put_names seen [] ds r w t s = t
    put_names seen (n ∷ ns) ds r w t s =
        let fresh : name_is_one_of seen n.name ≡ false = (unseen seen (n ∷ ns) r).0 in
        let rest : repeated (n.name ∷ seen) ns ≡ [] = append_none_right (if_so (name_is_one_of seen n.name) n.spot) (repeated (n.name ∷ seen) ns) r in (
          put (f n) (block-of n) (depth-of n) (map f ns ++ ds) (put_within ns ds w) (apart n seen fresh ns (unseen (n.name ∷ seen) ns rest) ds s),
          put_names (n.name ∷ seen) ns ds rest w t
              (all_weaker (IsSeen seen) (IsSeen (n.name ∷ seen)) (λ e h deep. among_more n.name seen e.name (h deep)) ds s),
        )

  -- ---- the body of a procedure that FORWARD announced

  abbrev pub IsFor : Heading → Declared → Type 0
  IsFor h e = e.depth ≡ depth → e.name ≡ h.name.name → e.spot ≡ h.name.spot

  -- all that is known of the name in the block is what was announced
  pub announced : (h : Heading) (ds : List Declared) → AllByRecursion (Within block depth) ds → Tidied ds →
      is_announced_by block h (look_up ds h.name.name) ≡ true → AllByRecursion (IsFor h) ds
  announced h [] w t a = tt
  announced h (d ∷ ds) w t a = decide (same_name d.name h.name.name) refl a (λ k. announced h ds w.1 t.1 k)
    where
      decide : (b : Bool) → same_name d.name h.name.name ≡ b → is_announced_by block h (if b then Some d else look_up ds h.name.name) ≡ true →
          (is_announced_by block h (look_up ds h.name.name) ≡ true → AllByRecursion (IsFor h) ds) → AllByRecursion (IsFor h) (d ∷ ds)
      decide true e k on =
          let there : d.spot ≡ h.name.spot = same_spot_is d.spot h.name.spot (and_second (d.block == block) (same_spot d.spot h.name.spot) k) in
          let named : d.name ≡ h.name.name = same_name_is d.name h.name.name e in
          let low : d.depth ≤ depth = w.0.0 in (
            λ deep same. there,
            all_weaker (Under d) (IsFor h)
                (λ x u deep same.
                let below : x.depth ≤ d.depth = u.0 in
                let even : x.depth ≡ d.depth = omega (arith, below, low, deep) in
                (u.1 even).1 (same ∙ sym named) ∙ there) ds t.0,
          )
      decide false e k on = (λ deep same. absurd (true_not_false (sym (name_told d.name h.name.name same) ∙ e)), on k)

-- ---- what is found under a name

-- the declaration is the first of that name, and each other is in a block further out, or is that one
pub record Finds (ds : List Declared) (name : List ℕ) : Type 0 where
  pub declared : Declared
  pub found : look_up ds name ≡ Some declared
  pub known : Contains ds declared
  pub named : declared.name ≡ name
  pub others : AllByRecursion (λ (e : Declared). e.name ≡ name → (e.depth ≤ declared.depth) × (e.depth ≡ declared.depth → (e.block ≡ declared.block) × (e.spot ≡ declared.spot))) ds

pub finds : (ds : List Declared) (name : List ℕ) → Tidied ds → is_some (look_up ds name) ≡ true → Finds ds name
finds [] name t h = absurd (true_not_false (sym h))
finds (d ∷ ds) name t h = decide (same_name d.name name) refl h (λ k. finds ds name t.1 k)
  where
    decide : (b : Bool) → same_name d.name name ≡ b → is_some (if b then Some d else look_up ds name) ≡ true →
        (is_some (look_up ds name) ≡ true → Finds ds name) → Finds (d ∷ ds) name
    decide true e k on =
        let named : d.name ≡ name = same_name_is d.name name e in
        let low : d.depth ≤ d.depth = omega arith in
        record {
          declared = d;
          found = ap (λ (b : Bool). if b then Some d else look_up ds name) e;
          known = contains_first d ds;
          named = named;
          others = (
            λ same. (low, λ deep. (refl, refl)),
            all_weaker (Under d) (λ (x : Declared). x.name ≡ name → (x.depth ≤ d.depth) × (x.depth ≡ d.depth → (x.block ≡ d.block) × (x.spot ≡ d.spot)))
                (λ x u same. (u.0, λ deep. ((u.1 deep).0, (u.1 deep).1 (same ∙ sym named)))) ds t.0,
          );
        }
    decide false e k on =
        let rest = on k in
        record {
          declared = rest.declared;
          found = ap (λ (b : Bool). if b then Some d else look_up ds name) e ∙ rest.found;
          known = contains_later d ds rest.declared rest.known;
          named = rest.named;
          others = (λ same. absurd (true_not_false (sym (name_told d.name name same) ∙ e)), rest.others);
        }

-- ---- two that are known

abbrev pub AreAlike : Declared → Declared → Type 0
AreAlike d e = d.depth ≡ e.depth → d.name ≡ e.name → d.spot ≡ e.spot

alike_all : (ds : List Declared) → Tidied ds → AllByRecursion (λ (d : Declared). AllByRecursion (AreAlike d) ds) ds
alike_all [] t = tt
alike_all (x ∷ ds) t = (
  (
    λ deep same. refl,
    all_weaker (Under x) (AreAlike x) (λ e u deep same. sym ((u.1 (sym deep)).1 (sym same))) ds t.0,
  ),
  all_both (Under x) (λ (d : Declared). AllByRecursion (AreAlike d) ds) (λ (d : Declared). AllByRecursion (AreAlike d) (x ∷ ds))
      (λ d u k. (λ deep same. (u.1 deep).1 same, k)) ds t.0 (alike_all ds t.1),
)

pub alike : (ds : List Declared) → Tidied ds → (d e : Declared) → Contains ds d → Contains ds e → AreAlike d e
alike ds t d e c k =
    of_contained (AreAlike d) ds e (of_contained (λ (x : Declared). AllByRecursion (AreAlike x) ds) ds d (alike_all ds t) c) k
