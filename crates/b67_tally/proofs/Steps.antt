-- The ghost steps of a tally: one is made, a place is added, and a number is raised beside its mark. Assumes `Logic`.
use mathlib.Core.Path.{◌≡◌}
use mathlib.Core.List.{List, [], ◌∷◌, ◌++◌}
use Prim.Native.Nat.{ℕ}
use seplogic.Ra.Ura.{Ura}
use lib.ListN.{length}
use base.Logic.{SProp, ent, sep, ex, emp, guard, upd, upd_i, via}
use base.Stored.{gnil, gnum}
use base.Fml.{Fml, ftrue, finv}
use types.Logic.{Logic, sem}
use types.Kit.{‵, raw, ◌⊛◌, later, ◌$◌, ◌∵◌, !, qed, by, move, keep, split, fjoin, fjoin3, suffices, done, use1, use2, settle, frame, assume, show, await, updating, now}
use types.Tokens.{name_new}
use denote.Steps.{nothing}
use Rattle.std.proofs.Common.{Some}
use Rattle.std.specs.Prelude.{slice_get, slice_set}
use Rattle.b67_tally.specs.Owned.{chain, half, tally_owns, mark_owns}
use Rattle.b67_tally.proofs.Places.{number_set, place_add}

module _ {M : Type 1} {𝓤 : Ura M} (𝓛 : Logic 𝓤) where
  open 𝓛 use {H}

  abbrev ⟦◌⟧ : Fml → SProp 𝓤
  ⟦ P ⟧ = sem 𝓛 P

  abbrev ◌∗◌ : SProp 𝓤 → SProp 𝓤 → SProp 𝓤
  P ∗ Q = sep 𝓤 P Q

  abbrev ◌⊢◌ : SProp 𝓤 → SProp 𝓤 → Type 1
  P ⊢ Q = ent 𝓤 P Q

  infix 26 ◌⊢◌
  infixr 35 ◌∗◌
  basic : (Q : SProp 𝓤) → upd 𝓤 Q ⊢ H.⇛ Q
  basic Q = qed 𝓛 (raw (upd 𝓤 Q) ∷ []) ∵ updating ! $ nothing ! $ use1 𝓛 (later (‵ (finv ftrue))) (𝓛.invs.inv_new ftrue) $ await ! tt $
      by ! (qed 𝓛 (‵ (finv ftrue) ∷ raw (upd 𝓤 Q) ∷ []) ∵ suffices ! _ (𝓛.invs.inv_acc ftrue Q) $ frame ! $ assume ! (‵ ftrue) $ move ! (1 ∷ []) $ settle 𝓛 (emp 𝓤 ∗ Q) (raw Q) $ suffices ! _ (upd_i 𝓤 (emp 𝓤 ∗ Q)) $ move ! (1 ∷ 0 ∷ []) $ done !)

  -- an open cell
  pub begins : emp 𝓤 ⊢ H.⇛ (ex 𝓤 (λ (γ : ℕ). ⟦ tally_owns γ [] ⟧))
  unfolding tally_owns
  begins = qed 𝓛 (‵ ftrue ∷ []) ∵ updating ! $ name_new ! tt gnil (λ γ. fjoin ! $ now ! $ show ! (λ (g : ℕ). ⟦ tally_owns g [] ⟧) γ $ keep ! (0 ∷ []) $ done !)

  -- a new place
  pub marks : (γ : ℕ) (xs : List ℕ) → ⟦ tally_owns γ xs ⟧ ⊢ H.⇛ (⟦ tally_owns γ (xs ++ 0 ∷ []) ⟧ ∗ ⟦ mark_owns γ (length xs) 0 ⟧)
  unfolding tally_owns mark_owns
  marks γ xs = qed 𝓛 (‵ (tally_owns γ xs) ∷ []) ∵ updating ! $ name_new ! tt gnil (λ δ. fjoin ! $ name_new ! tt (gnum 0) (λ n. fjoin3 ! $ move ! (1 ∷ 0 ∷ []) $
      use2 𝓛 (later (‵ (chain (xs ++ 0 ∷ []) γ) ⊛ ‵ (half (length xs) 0 γ))) (via 𝓤 _ (place_add 𝓛 xs 0 (n, δ) γ) (basic _)) $ await ! tt $ split ! $ now ! $ frame ! $ done !))

  -- the mark's number is the tally's at its place, and both go to m
  pub sets : (γ : ℕ) (xs : List ℕ) (i n m : ℕ)
      → ⟦ tally_owns γ xs ⟧ ∗ ⟦ mark_owns γ i n ⟧ ⊢ H.⇛ (guard 𝓤 (slice_get xs i ≡ Some n) (⟦ tally_owns γ (slice_set xs i m) ⟧ ∗ ⟦ mark_owns γ i m ⟧))
  unfolding tally_owns mark_owns
  sets γ xs i n m = via 𝓤 _ (number_set 𝓛 xs i n m γ) (basic _)
