-- Tables of labels.
use Rattle.std.proofs.Common.{◌≡◌, ℕ, true, false, List, Option, Some, None, refl, sym, ap, ◌∙◌, inl, inr}
use Rattle.std.specs.Prelude.{is_some, if◌then◌else◌}
use Rattle.std.specs.Option.{option_or}
use Rattle.std.specs.Borrow.{Bor}
use Rattle.std.specs.Ordering.{nat_cmp}
use Rattle.std.specs.Cmp.Lexicographic.{slice_cmp}
use Rattle.std.specs.Map.{update}
use Rattle.std.specs.Str.{bytes_eq}
use Rattle.std.specs.BTreeMap as tree
use Rattle.std.proofs.lemmas.Bool.{cases_Bool, cond-true, cond-false}
use Rattle.std.proofs.lemmas.Map.Text.{btree_map_updates_str}
use Rattle.std.proofs.lemmas.Slice.Eq.{bytes_eq-Decides}
use Rattle.b67_asm.specs.declared.label.Standing.{Standing}
use Rattle.b67_asm.specs.Steps.{LabelTable, LabelPuts}

pub puts_standing : (name : Bor (List ℕ)) (old new : LabelTable) (standing : Standing) →
    tree.UpdatesBy (λ x y. slice_cmp nat_cmp x.now y.now) (λ k. slice_cmp nat_cmp name.now k.now) old new (Some standing) → LabelPuts old new name.now standing
puts_standing name old new standing u = λ q. btree_map_updates_str name.now old new (Some standing) u q

pub ruleset puts = puts_standing

-- ---- the first label of a name stays

pub or_none : (o : Option Standing) → o ≡ option_or o None
or_none None = refl
or_none (Some s) = refl

or_some : (o p : Option Standing) → is_some o ≡ true → o ≡ option_or o p
or_some None p h = absurd cc
or_some (Some s) p h = refl

none_or : (o p : Option Standing) → is_some o ≡ false → p ≡ option_or o p
none_or None p h = refl
none_or (Some s) p h = absurd cc

pub label_stays : (old : List ℕ → Option Standing) (name : List ℕ) (s : Standing) → is_some (old name) ≡ true → (other : List ℕ) →
    old other ≡ option_or (old other) (if bytes_eq name other then Some s else None)
label_stays old name s h other =
    elim (cases_Bool (bytes_eq name other)) [
      | inl same ↦ or_some (old other) _ (ap (λ (n : List ℕ). is_some (old n)) (sym ((bytes_eq-Decides name other).0 same)) ∙ h)
      | inr apart ↦ or_none (old other) ∙ ap (option_or (old other)) (sym (cond-false (bytes_eq name other) (Some s) None apart))
    ]

pub label_added : (old : List ℕ → Option Standing) (name : List ℕ) (s : Standing) → is_some (old name) ≡ false → (other : List ℕ) →
    update bytes_eq old name (Some s) other ≡ option_or (old other) (if bytes_eq name other then Some s else None)
label_added old name s h other =
    elim (cases_Bool (bytes_eq name other)) [
      | inl same ↦
          cond-true (bytes_eq name other) (Some s) (old other) same
          ∙ none_or (old other) (Some s) (ap (λ (n : List ℕ). is_some (old n)) (sym ((bytes_eq-Decides name other).0 same)) ∙ h)
          ∙ ap (option_or (old other)) (sym (cond-true (bytes_eq name other) (Some s) None same))
      | inr apart ↦
          cond-false (bytes_eq name other) (Some s) (old other) apart
          ∙ or_none (old other)
          ∙ ap (option_or (old other)) (sym (cond-false (bytes_eq name other) (Some s) None apart))
    ]
