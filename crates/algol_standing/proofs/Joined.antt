-- A process that waits for several events: it joins those who wait for each of them, once.
use Rattle.std.proofs.Common.{◌≡◌, ◌⊎◌, ℕ, List, [], ◌∷◌, Bool, true, false, refl, sym, ap, ◌∙◌, subst}
use Rattle.std.specs.Prelude.{if◌then◌else◌}
use Rattle.b67_deeds.specs.declared.EventTest.TheVariants as test
use Rattle.b67_deeds.specs.Events.{EventState, joined}
use Rattle.b67_deeds.specs.Deeds.{tests, deed}
use Rattle.algol_meaning.specs.Value.{Reference, Cell, event}
use Rattle.algol_meaning.specs.World.{cell_at, event_in, World}
use Rattle.algol_meaning.specs.Events.{event_at, change_event, same_reference, reference_is_among, joined_all}
use Rattle.b67_list.proofs.Truths.{false_true}
use Rattle.algol_standing.proofs.Pairs.{AllPairs, pairs_self, pairs_then}
use Rattle.algol_standing.proofs.Alike.{InstanceAlike, instance_self, instance_then}
use Rattle.algol_standing.proofs.Changed.{changed_alike}
use Rattle.algol_standing.proofs.EventCells.{same_self, same_or_not, not_same, among_first, among_more, among_later, cell_apart, event_back}

module _ (p : ℕ) where
  abbrev pub with_joined : World → Reference → World
  with_joined w t = change_event w t (deed (tests test.WaitAny) p (event_at w t)).change

  -- ---- what is true of the rest of the list

  -- ---- the events

  -- it was seen, or is not of the list
  pub joined_other : (w : World) (seen rs : List Reference) (s : Reference) → (reference_is_among seen s ≡ true) ⊎ (reference_is_among rs s ≡ false) →
      cell_at (joined_all w p seen rs) s ≡ cell_at w s
  joined_other w seen [] s o = refl
  joined_other w seen (t ∷ rs) s o = by (reference_is_among seen t) refl (λ o. joined_other w (t ∷ seen) rs s o) (λ o. joined_other (with_joined w t) (t ∷ seen) rs s o)
    where
      more : (same_reference t s ≡ true) ⊎ (same_reference t s ≡ false) → (reference_is_among seen s ≡ true) ⊎ (reference_is_among (t ∷ rs) s ≡ false) →
          (reference_is_among (t ∷ seen) s ≡ true) ⊎ (reference_is_among rs s ≡ false)
      more (◌⊎◌.inl e) o = ◌⊎◌.inl (among_first t seen s e)
      more (◌⊎◌.inr e) (◌⊎◌.inl f) = ◌⊎◌.inl (among_more t seen s e ∙ f)
      more (◌⊎◌.inr e) (◌⊎◌.inr f) = ◌⊎◌.inr (sym (among_more t rs s e) ∙ f)

      other : reference_is_among seen t ≡ false → (reference_is_among seen s ≡ true) ⊎ (reference_is_among (t ∷ rs) s ≡ false) → t ≡ s → ⊥
      other e (◌⊎◌.inl f) same = false_true (reference_is_among seen t) e (subst (λ u. reference_is_among seen u ≡ true) (sym same) f)
      other e (◌⊎◌.inr f) same = false_true (reference_is_among (t ∷ rs) s) f (among_first t rs s (subst (λ u. same_reference t u ≡ true) same (same_self t)))

      by : (b : Bool) → reference_is_among seen t ≡ b →
          ((reference_is_among (t ∷ seen) s ≡ true) ⊎ (reference_is_among rs s ≡ false) → cell_at (joined_all w p (t ∷ seen) rs) s ≡ cell_at w s) →
          ((reference_is_among (t ∷ seen) s ≡ true) ⊎ (reference_is_among rs s ≡ false) → cell_at (joined_all (with_joined w t) p (t ∷ seen) rs) s ≡ cell_at (with_joined w t) s) →
          cell_at (if b then joined_all w p (t ∷ seen) rs else (joined_all (with_joined w t) p (t ∷ seen) rs)) s ≡ cell_at w s
      by true e f g = f (more (same_or_not t s) o)
      by false e f g = g (more (same_or_not t s) o) ∙ cell_apart w t s (joined p (event_at w t)) (other e o)

  -- an event that is there then is one that the process has joined, or it was there
  pub joined_back : (w : World) (seen rs : List Reference) (s : Reference) (d : EventState) → cell_at (joined_all w p seen rs) s ≡ event d →
      ((reference_is_among rs s ≡ true) × (d ≡ joined p (event_at w s))) ⊎ (cell_at w s ≡ event d)
  joined_back w seen [] s d f = ◌⊎◌.inr f
  joined_back w seen (t ∷ rs) s d f = by (reference_is_among seen t) refl f (λ g. joined_back w (t ∷ seen) rs s d g) (λ g. joined_back (with_joined w t) (t ∷ seen) rs s d g)
    where
      Back : Type 0
      Back = ((reference_is_among (t ∷ rs) s ≡ true) × (d ≡ joined p (event_at w s))) ⊎ (cell_at w s ≡ event d)

      later : ((reference_is_among rs s ≡ true) × (d ≡ joined p (event_at w s))) ⊎ (cell_at w s ≡ event d) → Back
      later (◌⊎◌.inl g) = ◌⊎◌.inl (among_later t rs s g.0, g.1)
      later (◌⊎◌.inr g) = ◌⊎◌.inr g

      at_once : cell_at (with_joined w t) s ≡ event d → Back
      at_once g = which (event_back w t s (joined p (event_at w t)) d g)
        where
          which : ((t ≡ s) × (d ≡ joined p (event_at w t))) ⊎ ((t ≡ s → ⊥) × (cell_at w s ≡ event d)) → Back
          which (◌⊎◌.inl h) =
              ◌⊎◌.inl (
                among_first t rs s (subst (λ u. same_reference t u ≡ true) h.0 (same_self t)),
                h.1 ∙ ap (λ u. joined p (event_at w u)) h.0,
              )
          which (◌⊎◌.inr h) = ◌⊎◌.inr h.1

      by : (b : Bool) → reference_is_among seen t ≡ b → cell_at (if b then joined_all w p (t ∷ seen) rs else (joined_all (with_joined w t) p (t ∷ seen) rs)) s ≡ event d →
          (cell_at (joined_all w p (t ∷ seen) rs) s ≡ event d → ((reference_is_among rs s ≡ true) × (d ≡ joined p (event_at w s))) ⊎ (cell_at w s ≡ event d)) →
          (cell_at (joined_all (with_joined w t) p (t ∷ seen) rs) s ≡ event d →
          ((reference_is_among rs s ≡ true) × (d ≡ joined p (event_at (with_joined w t) s))) ⊎ (cell_at (with_joined w t) s ≡ event d)) → Back
      by true e g h k = later (h g)
      by false e g h k = which (same_or_not t s)
        where
          which : (same_reference t s ≡ true) ⊎ (same_reference t s ≡ false) → Back
          which (◌⊎◌.inl i) = at_once (sym (joined_other (with_joined w t) (t ∷ seen) rs s (◌⊎◌.inl (among_first t seen s i))) ∙ g)
          which (◌⊎◌.inr i) = apart (k g)
            where
              same : event_at (with_joined w t) s ≡ event_at w s
              same = ap (λ (c : Cell). event_in c) (cell_apart w t s (joined p (event_at w t)) (not_same t s i))

              apart : ((reference_is_among rs s ≡ true) × (d ≡ joined p (event_at (with_joined w t) s))) ⊎ (cell_at (with_joined w t) s ≡ event d) → Back
              apart (◌⊎◌.inl j) = ◌⊎◌.inl (among_more t rs s i ∙ j.0, j.1 ∙ ap (λ x. joined p x) same)
              apart (◌⊎◌.inr j) = at_once j

-- ---- instances

pub joined_instances : (p : ℕ) (w : World) (seen rs : List Reference) → AllPairs InstanceAlike w.instances (joined_all w p seen rs).instances
joined_instances p w seen [] = pairs_self InstanceAlike instance_self w.instances
joined_instances p w seen (t ∷ rs) = by (reference_is_among seen t) (joined_instances p w (t ∷ seen) rs) (joined_instances p (with_joined p w t) (t ∷ seen) rs)
  where
    by : (b : Bool) → AllPairs InstanceAlike w.instances (joined_all w p (t ∷ seen) rs).instances →
        AllPairs InstanceAlike (with_joined p w t).instances (joined_all (with_joined p w t) p (t ∷ seen) rs).instances →
        AllPairs InstanceAlike w.instances (if b then joined_all w p (t ∷ seen) rs else (joined_all (with_joined p w t) p (t ∷ seen) rs)).instances
    by true f g = f
    by false f g =
        pairs_then InstanceAlike instance_then w.instances (with_joined p w t).instances (joined_all (with_joined p w t) p (t ∷ seen) rs).instances
        (changed_alike w t (deed (tests test.WaitAny) p (event_at w t)).change) g
