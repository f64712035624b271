-- Names as keys of tables: two keys tie where their names are the same.
use Rattle.std.proofs.Common.{◌≡◌, ℕ, Bool, true, false, cond, List, Option, refl, ap, sym, ◌∙◌}
use Rattle.std.specs.Prelude.{◌&&◌}
use Rattle.std.specs.Borrow.{Bor}
use Rattle.std.specs.declared.cmp.Ordering.{Ordering}
use Rattle.std.specs.declared.cmp.Ordering.TheVariants.{Less, Equal, Greater}
use Rattle.std.specs.Ordering.{is_eq, nat_cmp, ordering_then}
use Rattle.std.specs.Cmp.{nat_cmp_is}
use Rattle.std.specs.Cmp.Lexicographic.{slice_cmp}
use Rattle.std.specs.Str.{bytes_eq}
use Rattle.std.specs.BTreeMap as tree
use Rattle.std.specs.BTreeMap.{BTreeMap}
use Rattle.std.proofs.lemmas.Map.Text.{is_eq-slice_cmp}
use Rattle.std.proofs.lemmas.Slice.Eq.{bytes_eq-Decides}
use Rattle.b67_list.proofs.Truths.{and_false}
use Rattle.algol_sorts.specs.declared.key.Key.{Key}
use Rattle.algol_sorts.specs.Tables.{end_of, sort_named}

ties : (o p : Ordering) → is_eq (ordering_then o p) ≡ (is_eq o && is_eq p)
ties Less p = refl
ties Equal p = refl
ties Greater p = refl

same_number : (n : ℕ) → is_eq (nat_cmp n n) ≡ true
same_number n = ap is_eq (sym (nat_cmp_is n n Equal refl))

same_key : (name q : List ℕ) → is_eq (ordering_then (nat_cmp (end_of name) (end_of q)) (slice_cmp nat_cmp name q)) ≡ bytes_eq name q
same_key name q =
    ties (nat_cmp (end_of name) (end_of q)) (slice_cmp nat_cmp name q)
    ∙ ap (λ b. is_eq (nat_cmp (end_of name) (end_of q)) && b) (is_eq-slice_cmp name q)
    ∙ decide (bytes_eq name q) refl
  where
    decide : (b : Bool) → bytes_eq name q ≡ b → (is_eq (nat_cmp (end_of name) (end_of q)) && b) ≡ b
    decide true e =
        ap (λ z. is_eq (nat_cmp (end_of name) (end_of z)) && true) (sym ((bytes_eq-Decides name q).0 e)) ∙ ap (λ b. b && true) (same_number (end_of name))
    decide false e = and_false (is_eq (nat_cmp (end_of name) (end_of q)))

abbrev pub key_cmp : Key → Key → Ordering
key_cmp x y = ordering_then (nat_cmp x.end y.end) (slice_cmp nat_cmp x.bytes.now y.bytes.now)

-- what a table has under each name after a change under one
pub updates_key : {X : Type 0} (name : Bor (List ℕ)) (key : Key) (old new : BTreeMap Key X) (w : Option X) → key ≡ record { end = end_of name.now; bytes = name } →
    tree.UpdatesBy key_cmp (key_cmp key) old new w → (q : List ℕ) → sort_named new q ≡ cond (bytes_eq name.now q) w (sort_named old q)
updates_key name key old new w e u q =
    let this : Key = record { end = end_of q; bytes = record { ref_ptr = name.ref_ptr; now = q } } in
    u.0 this ∙ ap (λ (k : Key). cond (is_eq (key_cmp k this)) w (sort_named old q)) e ∙ ap (λ b. cond b w (sort_named old q)) (same_key name.now q)

-- what a table has under a key is what it has under its name
pub key_found : {X : Type 0} (name : Bor (List ℕ)) (key : Key) (table : BTreeMap Key X) → key ≡ record { end = end_of name.now; bytes = name } →
    tree.get key_cmp table key ≡ sort_named table name.now
key_found name key table e = ap (λ (k : Key). tree.get key_cmp table k) e
