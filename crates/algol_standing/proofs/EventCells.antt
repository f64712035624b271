-- Cells of events that are set: what is read afterwards.
use Rattle.std.proofs.Common.{◌≡◌, ◌⊎◌, ℕ, List, [], ◌∷◌, Option, None, Some, Bool, true, false, refl, sym, ap, ◌∙◌, subst}
use Rattle.std.specs.Prelude.{if◌then◌else◌, ◌==◌, ◌&&◌, ◌||◌, slice_get, slice_set, zero, suc}
use Rattle.b67_list.specs.Numbered.{numbered, set_numbered}
use Rattle.b67_list.proofs.Numbered.{numbered_set}
use Rattle.b67_list.proofs.Numbers.{number_itself, same_number}
use Rattle.b67_list.proofs.Truths.{and_both, false_true, or_left, or_second}
use Rattle.algol_tree.specs.Sorts.{same_name}
use Rattle.algol_tree.proofs.Names.{same_name_is, same_name_itself}
use Rattle.algol_meaning.specs.Value.{Reference, event}
use Rattle.b67_deeds.specs.Events.{EventState}
use Rattle.algol_meaning.specs.World.{NamedCell, Instance, or_no_instance, instance_at, cell_in, cell_at, cells_with, event_in, World}
use Rattle.algol_meaning.specs.Events.{event_at, set_event, change_event, same_reference, reference_is_among}
use Rattle.algol_laws.proofs.Cells.{numbered_other, with_other}
use Rattle.algol_standing.proofs.Lists.{same_or_other}
use Rattle.algol_standing.proofs.Pairs.{set_or}

no_event : (d : EventState) → cell_in [] [] ≡ event d → ⊥
no_event d e = cc

pub put_nowhere : {A : Type 0} (xs : List A) (k : ℕ) (y : A) → slice_get xs k ≡ None → slice_get (slice_set xs k y) k ≡ None
put_nowhere [] k y e = refl
put_nowhere (x ∷ xs) zero y e = cc
put_nowhere (x ∷ xs) (suc k) y e = put_nowhere xs k y e

-- nothing is set where nothing stands
set_nowhere : {A : Type 0} (xs : List A) (i : ℕ) (y : A) → numbered xs i ≡ None → numbered (set_numbered xs i y) i ≡ None
set_nowhere xs zero y e = refl
set_nowhere xs (suc k) y e = put_nowhere xs k y e

-- ---- the cell that is set

event_with : (cells : List NamedCell) (n : List ℕ) (e d : EventState) → cell_in (cells_with cells n (event e)) n ≡ event d → d ≡ e
event_with [] n e d f = cc
event_with (x ∷ cells) n e d f = by (same_name x.name n) refl (λ g. event_with cells n e d g) f
  where
    same : event e ≡ event d → d ≡ e
    same g = cc

    by : (b : Bool) → same_name x.name n ≡ b → (cell_in (cells_with cells n (event e)) n ≡ event d → d ≡ e) →
        cell_in (if b then record x { cell = event e } ∷ cells else x ∷ cells_with cells n (event e)) n ≡ event d → d ≡ e
    by true s h g = same (subst (λ b. (if b then event e else cell_in cells n) ≡ event d) s g)
    by false s h g = h (subst (λ b. (if b then x.cell else cell_in (cells_with cells n (event e)) n) ≡ event d) s g)

pub reference_same : (r s : Reference) → r.instance ≡ s.instance → r.name ≡ s.name → r ≡ s
reference_same r s e f = ap (λ (i : ℕ). record { instance = i; name = r.name }) e ∙ ap (λ (n : List ℕ). record { instance = s.instance; name = n }) f

pub event_set : (w : World) (r s : Reference) (e d : EventState) (y : Instance) → numbered w.instances r.instance ≡ Some y → cell_at (set_event w r e) s ≡ event d →
    ((r ≡ s) × (d ≡ e)) ⊎ ((r ≡ s → ⊥) × (cell_at w s ≡ event d))
event_set w r s e d y there f = by (same_or_other r.instance s.instance)
  where
    z : Instance
    z = record (instance_at w r.instance) { cells = cells_with ((instance_at w r.instance).cells) r.name (event e) }

    inside : r.instance ≡ s.instance → cell_in (cells_with ((instance_at w r.instance).cells) r.name (event e)) s.name ≡ event d
    inside same =
        ap (λ o. cell_in ((or_no_instance o).cells) s.name) (sym (numbered_set w.instances r.instance y z there))
        ∙ (ap (λ i. cell_in ((or_no_instance (numbered (set_numbered w.instances r.instance z) i)).cells) s.name) same ∙ f)

    named_by : (b : Bool) → same_name r.name s.name ≡ b → r.instance ≡ s.instance → ((r ≡ s) × (d ≡ e)) ⊎ ((r ≡ s → ⊥) × (cell_at w s ≡ event d))
    named_by true n same =
        let name : r.name ≡ s.name = same_name_is r.name s.name n in
        ◌⊎◌.inl (
          reference_same r s same name,
          event_with ((instance_at w r.instance).cells) r.name e d
              (subst (λ m. cell_in (cells_with ((instance_at w r.instance).cells) r.name (event e)) m ≡ event d) (sym name) (inside same)),
        )
    named_by false n same = ◌⊎◌.inr (
      λ g. other (ap (λ (t : Reference). t.name) g),
      ap (λ i. cell_in ((instance_at w i).cells) s.name) (sym same)
          ∙ (sym (with_other ((instance_at w r.instance).cells) r.name s.name (event e) other) ∙ inside same),
    )
      where
        other : r.name ≡ s.name → ⊥
        other g = false_true (same_name r.name s.name) n (subst (λ m. same_name r.name m ≡ true) g (same_name_itself r.name))

    by : (r.instance ≡ s.instance) ⊎ (r.instance ≡ s.instance → ⊥) → ((r ≡ s) × (d ≡ e)) ⊎ ((r ≡ s → ⊥) × (cell_at w s ≡ event d))
    by (◌⊎◌.inl same) = named_by (same_name r.name s.name) refl same
    by (◌⊎◌.inr other) = ◌⊎◌.inr (
      λ g. other (ap (λ (t : Reference). t.instance) g),
      ap (λ o. cell_in ((or_no_instance o).cells) s.name) (sym (numbered_other w.instances r.instance s.instance z other)) ∙ f,
    )

pub references : (r s : Reference) → (r ≡ s) ⊎ (r ≡ s → ⊥)
references r s = by (same_or_other r.instance s.instance)
  where
    named_by : (b : Bool) → same_name r.name s.name ≡ b → r.instance ≡ s.instance → (r ≡ s) ⊎ (r ≡ s → ⊥)
    named_by true n same = ◌⊎◌.inl (reference_same r s same (same_name_is r.name s.name n))
    named_by false n same =
        ◌⊎◌.inr
        (λ g. false_true (same_name r.name s.name) n (subst (λ m. same_name r.name m ≡ true) (ap (λ (t : Reference). t.name) g) (same_name_itself r.name)))

    by : (r.instance ≡ s.instance) ⊎ (r.instance ≡ s.instance → ⊥) → (r ≡ s) ⊎ (r ≡ s → ⊥)
    by (◌⊎◌.inl same) = named_by (same_name r.name s.name) refl same
    by (◌⊎◌.inr other) = ◌⊎◌.inr (λ g. other (ap (λ (t : Reference). t.instance) g))

-- ---- whether references are the same

pub same_is : (r s : Reference) → same_reference r s ≡ true → r ≡ s
same_is r s e =
    let both = and_both (r.instance == s.instance) (same_name r.name s.name) e in
    reference_same r s (same_number r.instance s.instance both.0) (same_name_is r.name s.name both.1)

pub same_self : (r : Reference) → same_reference r r ≡ true
same_self r = ap (λ b. b && same_name r.name r.name) (number_itself r.instance) ∙ same_name_itself r.name

pub same_or_not : (r s : Reference) → (same_reference r s ≡ true) ⊎ (same_reference r s ≡ false)
same_or_not r s = by (same_reference r s) refl
  where
    by : (b : Bool) → same_reference r s ≡ b → (same_reference r s ≡ true) ⊎ (same_reference r s ≡ false)
    by true e = ◌⊎◌.inl e
    by false e = ◌⊎◌.inr e

pub not_same : (r s : Reference) → same_reference r s ≡ false → r ≡ s → ⊥
not_same r s e f = false_true (same_reference r s) e (subst (λ t. same_reference r t ≡ true) f (same_self r))

pub among_first : (t : Reference) (rs : List Reference) (s : Reference) → same_reference t s ≡ true → reference_is_among (t ∷ rs) s ≡ true
among_first t rs s e = or_left (same_reference t s) (reference_is_among rs s) e

pub among_more : (t : Reference) (rs : List Reference) (s : Reference) → same_reference t s ≡ false → reference_is_among (t ∷ rs) s ≡ reference_is_among rs s
among_more t rs s e = or_second (same_reference t s) (reference_is_among rs s) e

pub among_later : (t : Reference) (rs : List Reference) (s : Reference) → reference_is_among rs s ≡ true → reference_is_among (t ∷ rs) s ≡ true
among_later t rs s e = by (same_reference t s) (reference_is_among rs s) e
  where
    by : (a b : Bool) → b ≡ true → (a || b) ≡ true
    by true b f = refl
    by false b f = f

-- ---- a cell that is set, and the others

pub cell_apart : (w : World) (t s : Reference) (e : EventState) → (t ≡ s → ⊥) → cell_at (set_event w t e) s ≡ cell_at w s
cell_apart w t s e other = by (set_or w.instances t.instance s.instance z)
  where
    z : Instance
    z = record (instance_at w t.instance) { cells = cells_with ((instance_at w t.instance).cells) t.name (event e) }

    by : (numbered (set_numbered w.instances t.instance z) s.instance ≡ numbered w.instances s.instance)
        ⊎ ((t.instance ≡ s.instance) × (numbered (set_numbered w.instances t.instance z) s.instance ≡ Some z)) →
        cell_at (set_event w t e) s ≡ cell_at w s
    by (◌⊎◌.inl h) = ap (λ o. cell_in ((or_no_instance o).cells) s.name) h
    by (◌⊎◌.inr h) =
        ap (λ o. cell_in ((or_no_instance o).cells) s.name) h.1
        ∙ (with_other ((instance_at w t.instance).cells) t.name s.name (event e) (λ g. other (reference_same t s h.0 g))
        ∙ ap (λ i. cell_in ((instance_at w i).cells) s.name) h.0)

-- the event of a cell that was set, which is there or not: a change that leaves one that nobody has as it is
module _ (change : EventState → EventState) (nobody_has : change (event_in (cell_in [] [])) ≡ event_in (cell_in [] [])) where
  changed_in : (cells : List NamedCell) (n : List ℕ) →
      event_in (cell_in (cells_with cells n (event (change (event_in (cell_in cells n))))) n) ≡ change (event_in (cell_in cells n))
  changed_in [] n = sym nobody_has
  changed_in (x ∷ cells) n = by (same_name x.name n) refl (changed_in cells n)
    where
      Changed : Bool → Type 0
      Changed b =
          event_in (cell_in (if b then record x { cell = event (change (event_in (if b then x.cell else cell_in cells n))) } ∷ cells
          else x ∷ cells_with cells n (event (change (event_in (if b then x.cell else cell_in cells n))))) n)
          ≡ change (event_in (if b then x.cell else cell_in cells n))

      by : (b : Bool) → same_name x.name n ≡ b →
          event_in (cell_in (cells_with cells n (event (change (event_in (cell_in cells n))))) n) ≡ change (event_in (cell_in cells n)) → Changed b
      by true e f =
          ap (λ b. event_in (if b then event (change (event_in x.cell)) else cell_in cells n)) e
      by false e f =
          ap (λ b. event_in (if b then x.cell else cell_in (cells_with cells n (event (change (event_in (cell_in cells n))))) n)) e ∙ f

  pub event_changes : (w : World) (t : Reference) → event_at (change_event w t (Some change)) t ≡ change (event_at w t)
  event_changes w t = by (numbered w.instances t.instance) refl
    where
      z : Instance
      z = record (instance_at w t.instance) { cells = cells_with ((instance_at w t.instance).cells) t.name (event (change (event_at w t))) }

      by : (o : Option Instance) → numbered w.instances t.instance ≡ o → event_at (change_event w t (Some change)) t ≡ change (event_at w t)
      by (Some y) e =
          ap (λ p. event_in (cell_in ((or_no_instance p).cells) t.name)) (numbered_set w.instances t.instance y z e)
          ∙ changed_in ((instance_at w t.instance).cells) t.name
      by None e =
          ap (λ p. event_in (cell_in ((or_no_instance p).cells) t.name)) (set_nowhere w.instances t.instance z e)
          ∙ (sym nobody_has ∙ ap (λ p. change (event_in (cell_in ((or_no_instance p).cells) t.name))) (sym e))

-- .. and where one is after another was set, that is it, or it was there
pub event_back : (w : World) (r s : Reference) (e d : EventState) → cell_at (set_event w r e) s ≡ event d →
    ((r ≡ s) × (d ≡ e)) ⊎ ((r ≡ s → ⊥) × (cell_at w s ≡ event d))
event_back w r s e d f = by (numbered w.instances r.instance) refl
  where
    z : Instance
    z = record (instance_at w r.instance) { cells = cells_with ((instance_at w r.instance).cells) r.name (event e) }

    nowhere : numbered w.instances r.instance ≡ None → r ≡ s → ⊥
    nowhere g same =
        no_event d (ap (λ p. cell_in ((or_no_instance p).cells) r.name) (sym (set_nowhere w.instances r.instance z g))
        ∙ (ap (λ (t : Reference). cell_at (set_event w r e) t) same ∙ f))

    by : (o : Option Instance) → numbered w.instances r.instance ≡ o → ((r ≡ s) × (d ≡ e)) ⊎ ((r ≡ s → ⊥) × (cell_at w s ≡ event d))
    by (Some y) g = event_set w r s e d y g f
    by None g = ◌⊎◌.inr (nowhere g, sym (cell_apart w r s e (nowhere g)) ∙ f)
