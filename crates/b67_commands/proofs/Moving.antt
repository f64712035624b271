-- Where the commands of a console lead.
use Rattle.std.proofs.Common.{◌≡◌, refl, sym, ap, ◌∙◌, subst, inl, inr, ℕ, zero, suc, ◌+◌, ◌<◌, ◌≤◌, List, [], ◌∷◌, drop, Bool, true, false, Option, Some, arith}
use Rattle.std.specs.Prelude.{slice_get, if◌then◌else◌}
use Rattle.b67_commands.specs.declared.command.Command.TheVariants.{Go, Store, Show, Stack, Regs}
use Rattle.b67_commands.specs.Positions.{Stored, stores_under, to_store, IsStore, IsNextStore, StoresLeadToTheNext, PositionsAreWithin}

-- ---- one entry before

store_later : (entry : Option (List ℕ)) (rest : Stored) (name : List ℕ) (n : ℕ) → IsStore rest name n → IsStore (entry ∷ rest) name (suc n)
store_later entry rest name n (before, is, other, at, holds) = let same : suc n ≡ suc before + 1 = omega (arith, is) in (suc before, same, other, at, holds)

store_earlier : (entry : Option (List ℕ)) (rest : Stored) (name : List ℕ) (n : ℕ) → 0 < n → IsStore (entry ∷ rest) name (suc n) → IsStore rest name n
store_earlier entry rest name n some (zero, is, other, at, holds) = absurd (omega (arith, some, is))
store_earlier entry rest name n some (suc before, is, other, at, holds) = let same : n ≡ before + 1 = omega (arith, is) in (before, same, other, at, holds)

no_store_before : (entry : Option (List ℕ)) (rest : Stored) (name : List ℕ) → stores_under name entry ≡ false → IsStore (entry ∷ rest) name 1 → ⊥
no_store_before entry rest name lacks (zero, is, other, at, holds) =
    let same : entry ≡ other = cc in let wrong : true ≡ false = sym holds ∙ ap (stores_under name) (sym same) ∙ lacks in cc
no_store_before entry rest name lacks (suc before, is, other, at, holds) = absurd (omega (arith, is))

later : (entry : Option (List ℕ)) (rest : Stored) (name : List ℕ) (k n : ℕ) → IsNextStore rest name k n → IsNextStore (entry ∷ rest) name (suc k) (suc n)
later entry rest name k n next =
    record {
      within = omega (arith, next.within);
      least = least;
      is = elim next.is [
        | inl s ↦ inl (omega (arith, s.0), store_later entry rest name n s.1)
        | inr s ↦ inr (ap suc s.0, none s.1)
      ];
    }
  where
    least : (number : ℕ) → suc k < number → IsStore (entry ∷ rest) name number → suc n ≤ number
    least zero above s = absurd (omega (arith, above))
    least (suc m) above s =
        let some : 0 < m = omega (arith, above) in
        let less : n ≤ m = next.least m (omega (arith, above)) (store_earlier entry rest name m some s) in omega (arith, less)

    none : ((number : ℕ) → k < number → IsStore rest name number → ⊥) → (number : ℕ) → suc k < number → IsStore (entry ∷ rest) name number → ⊥
    none lacks zero above s = absurd (omega (arith, above))
    none lacks (suc m) above s =
        let some : 0 < m = omega (arith, above) in lacks m (omega (arith, above)) (store_earlier entry rest name m some s)

-- where the first entry does not store under the name, the next one that does after it is the next one at all
from_first : (entry : Option (List ℕ)) (rest : Stored) (name : List ℕ) (n : ℕ) → stores_under name entry ≡ false → IsNextStore (entry ∷ rest) name 1 n
    → IsNextStore (entry ∷ rest) name 0 n
from_first entry rest name n lacks next =
    record {
      within = next.within;
      least = least;
      is = elim next.is [ inl s ↦ inl (omega (arith, s.0), s.1) | inr s ↦ inr (s.0, none s.1) ];
    }
  where
    least : (number : ℕ) → 0 < number → IsStore (entry ∷ rest) name number → n ≤ number
    least zero above s = absurd (omega (arith, above))
    least (suc zero) above s = absurd (no_store_before entry rest name lacks s)
    least (suc (suc m)) above s = next.least (suc (suc m)) (omega arith) s

    none : ((number : ℕ) → 1 < number → IsStore (entry ∷ rest) name number → ⊥) → (number : ℕ) → 0 < number → IsStore (entry ∷ rest) name number → ⊥
    none absent zero above s = absurd (omega (arith, above))
    none absent (suc zero) above s = no_store_before entry rest name lacks s
    none absent (suc (suc m)) above s = absent (suc (suc m)) (omega arith) s

-- ---- the next store

first_is_it : (entry : Option (List ℕ)) (rest : Stored) (name : List ℕ) → stores_under name entry ≡ true → IsNextStore (entry ∷ rest) name 0 1
first_is_it entry rest name holds =
    record {
      within = omega arith;
      least = λ number above s. omega (arith, above);
      is = inl (omega arith, (0, refl, entry, refl, holds));
    }

nothing_next : (name : List ℕ) → IsNextStore [] name 0 0
nothing_next name =
    record {
      within = omega arith;
      least = λ number above s. omega arith;
      is = inr (refl, λ number above s. lacks s.0 s.2 s.3);
    }
  where
    lacks : (before : ℕ) (other : Option (List ℕ)) → slice_get {X = Option (List ℕ)} [] before ≡ Some other → ⊥
    lacks before other at = cc

by_entry : (entry : Option (List ℕ)) (rest : Stored) (name : List ℕ) (n : ℕ) (b : Bool) → stores_under name entry ≡ b → IsNextStore rest name 0 n
    → IsNextStore (entry ∷ rest) name 0 (if b then 1 else suc n)
by_entry entry rest name n true holds next = first_is_it entry rest name holds
by_entry entry rest name n false lacks next = from_first entry rest name (suc n) lacks (later entry rest name 0 n next)

next_from_first : (stored : Stored) (name : List ℕ) → IsNextStore stored name 0 (to_store name stored)
next_from_first [] name = nothing_next name
next_from_first (entry ∷ rest) name = by_entry entry rest name (to_store name rest) (stores_under name entry) refl (next_from_first rest name)

pub stores_lead : StoresLeadToTheNext
stores_lead stored name zero within =
    let same : to_store name stored ≡ 0 + to_store name stored = omega arith in
    subst (λ (n : ℕ). IsNextStore stored name 0 n) same (next_from_first stored name)
stores_lead [] name (suc k) within = absurd (omega (arith, within))
stores_lead (entry ∷ rest) name (suc k) within =
    let same : suc (k + to_store name (drop k rest)) ≡ suc k + to_store name (drop k rest) = omega arith in
    subst (λ (n : ℕ). IsNextStore (entry ∷ rest) name (suc k) n) same
    (later entry rest name k (k + to_store name (drop k rest)) (stores_lead rest name k (omega (arith, within))))

pub within_all : PositionsAreWithin
within_all stored k (Go n) within = omega arith
within_all stored k (Store name) within = (stores_lead stored name k within).within
within_all stored k Show within = within
within_all stored k (Stack p) within = within
within_all stored k (Regs p) within = within
