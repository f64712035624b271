-- Tables of bodies, and what declarations announce.
use Rattle.std.proofs.Common.{◌≡◌, ℕ, ◌+◌, ◌-◌, ◌<◌, ◌≤◌, Bool, true, false, List, [], ◌∷◌, ◌++◌, map, length, drop, get_or, reverse, Option, Some, refl, ap, sym, ◌∙◌, subst, arith, suc, zero}
use Rattle.std.proofs.lemmas.List.{reverse-append}
use Rattle.std.specs.Prelude.{if◌then◌else◌, cond, option_copied}
use Rattle.std.specs.Borrow.{Bor}
use Rattle.std.specs.Ordering.{nat_cmp}
use Rattle.std.specs.Cmp.Lexicographic.{slice_cmp}
use Rattle.std.specs.Str.{bytes_eq}
use Rattle.std.specs.BTreeMap as maps
use Rattle.std.specs.BTreeMap.{BTreeMap}
use Rattle.std.proofs.lemmas.Map.Text.{btree_map_updates_str}
use Rattle.algol_tree.specs.declared.tree.Heading.{Heading}
use Rattle.algol_tree.specs.declared.tree.Decl.{Decl}
use Rattle.algol_tree.specs.Image.{decl, decls}
use Rattle.algol_tree.specs.Plain as tree
use Rattle.algol_tree.specs.Plain.{PDecl, PDecls}
use Rattle.algol_tree.specs.Sorts.{same_name}
use Rattle.algol_tree.proofs.Names.{bytes_same_name}
use Rattle.b67_list.proofs.Lists.{drop_read_or}
use Rattle.algol_check.specs.Announced.{HasBodies, bodies_for, body_at, body_for, heading_in}

-- a table after one more heading
pub put_heading : (name : Bor (List ℕ)) (old new : BTreeMap (Bor (List ℕ)) (Bor Heading)) (h : Bor Heading) →
    maps.UpdatesBy (λ x y. slice_cmp nat_cmp x.now y.now) (λ k. slice_cmp nat_cmp name.now k.now) old new (Some h) → (q : List ℕ) →
    heading_in new q ≡ (if same_name name.now q then Some h.now else heading_in old q)
put_heading name old new h u q =
    ap option_copied (btree_map_updates_str name.now old new (Some h) u q)
    ∙ chosen (bytes_eq name.now q) h (maps.get_by (λ k. slice_cmp nat_cmp q k.now) old)
    ∙ ap (λ b. if b then Some h.now else heading_in old q) (bytes_same_name name.now q)
  where
    chosen : (b : Bool) (f : Bor Heading) (o : Option (Bor Heading)) → option_copied (cond b (Some f) o) ≡ (if b then Some f.now else option_copied o)
    chosen true f o = refl
    chosen false f o = refl

pub ruleset putting = put_heading

-- ---- one declaration

-- ---- all declarations, the last first

back : (ds : List Decl) (at : ℕ) (d : Decl) → 0 < at → at ≤ length ds → d ≡ get_or ds (at - 1) d → drop (at - 1) ds ≡ d ∷ drop at ds
back ds at d low high e =
    let next : (at - 1) + 1 ≡ at = omega (arith, low) in
    let h : at - 1 < length ds = omega (arith, low, high) in
    drop_read_or ds (at - 1) d h ∙ ap (λ x. x ∷ drop ((at - 1) + 1) ds) (sym e) ∙ ap (λ (n : ℕ). d ∷ drop n ds) next

pub bodies_back : (ds : List Decl) (at : ℕ) (d : Decl) (old new : BTreeMap (Bor (List ℕ)) (Bor Heading)) → 0 < at → at ≤ length ds → d ≡ get_or ds (at - 1) d →
    ((later : PDecls) → HasBodies old later → HasBodies new (tree.decls (decl d) later)) → HasBodies old (decls (drop at ds)) → HasBodies new (decls (drop (at - 1) ds))
bodies_back ds at d old new low high e h had =
    let P : List Decl → Type 0 = λ xs. HasBodies new (decls xs) in subst P (sym (back ds at d low high e)) (h (decls (drop at ds)) had)

pub found_back : (ds : List Decl) (at : ℕ) (d : Decl) (body : Option (Bor Heading)) (old new : List (Option (Bor Heading))) → 0 < at → at ≤ length ds → d ≡ get_or ds (at - 1) d →
    option_copied body ≡ body_for (decl d) (decls (drop at ds)) → new ≡ old ++ body ∷ [] → map option_copied (reverse old) ≡ bodies_for (decls (drop at ds)) →
    map option_copied (reverse new) ≡ bodies_for (decls (drop (at - 1) ds))
found_back ds at d body old new low high e b n h =
    ap (λ (xs : List (Option (Bor Heading))). map option_copied xs) (ap reverse n ∙ reverse-append old (body ∷ []))
    ∙ ap (λ os. option_copied body ∷ os) h ∙ ap (λ o. o ∷ bodies_for (decls (drop at ds))) b
    ∙ sym (ap (λ (xs : List Decl). bodies_for (decls xs)) (back ds at d low high e))

-- ---- the body of one of them

pub announced_at : (ds : List Decl) (i : ℕ) (d : Decl) → i < length ds → d ≡ get_or ds i d → body_at (bodies_for (decls ds)) i ≡ body_for (decl d) (decls (drop (i + 1) ds))
announced_at [] i d h e = absurd (omega arith)
announced_at (x ∷ xs) zero d h e = ap (λ (y : Decl). body_for (decl y) (decls xs)) (sym e)
announced_at (x ∷ xs) (suc i) d h e =
    let next : suc i + 1 ≡ suc (i + 1) = omega arith in
    announced_at xs i d (omega arith) e ∙ sym (ap (λ (n : ℕ). body_for (decl d) (decls (drop n (x ∷ xs)))) next)
