-- Worlds that change in an instance, a process, or by new ones: calls stay fitting.
use Rattle.std.proofs.Common.{◌≡◌, ◌⊎◌, ℕ, zero, suc, List, [], ◌∷◌, ◌++◌, length, Option, Some, None, true, false, refl, sym, ap, ◌∙◌, subst}
use Rattle.std.specs.Prelude.{slice_get}
use Rattle.b67_list.specs.Numbered.{numbered, set_numbered}
use Rattle.b67_list.proofs.Lists.{get_front}
use Rattle.b67_list.proofs.Numbers.{none_some}
use Rattle.algol_tree.specs.Sorts.{is_formal}
use Rattle.algol_tree.specs.Scopes.{Scopes}
use Rattle.algol_meaning.specs.Value.{Reference, Cell, simple, event, array, named, reference}
use Rattle.algol_meaning.specs.World.{NamedCell, Instance, or_no_instance, instance_at, cell_in, cells_with, with_instance, set_cell, add_cells, Part, Process, able, or_no_process, process_at, with_process, set_able, set_all_able, World}
use Rattle.algol_meaning.specs.Instances.{leave}
use Rattle.algol_calls.specs.Fits.{parameter_sort}
use Rattle.algol_standing.specs.Worlds.{held_in_rest}
use Rattle.algol_standing.specs.Fitting.{ParametersFit, parameters_at, IsPlainAt, LeadsRight, AllLeadRight, InstanceFits, PartFits, ProcessFits, WorldFits}
use Rattle.algol_standing.proofs.Lists.{some_same, false_true, get_last}
use Rattle.algol_standing.proofs.Pairs.{set_or}
use Rattle.algol_standing.proofs.Holding.{AreAll}
use Rattle.algol_standing.proofs.FitCells.{finds_with, finds_more, parameters_with, parameters_more}
use Rattle.algol_standing.proofs.EventCells.{put_nowhere}

-- each instance of w is one of v, of the same block
abbrev pub Extends : World → World → Type 0
Extends w v = (i : ℕ) (x : Instance) → numbered w.instances i ≡ Some x → (y : Instance) × (numbered v.instances i ≡ Some y) × (y.block ≡ x.block)

pub extends_self : (w v : World) → v.instances ≡ w.instances → Extends w v
extends_self w v e i x f = (x, ap (λ xs. numbered xs i) e ∙ f, refl)

pub extends_then : (u w v : World) → Extends u w → Extends w v → Extends u v
extends_then u w v f g i x e =
    let y = f i x e in
    let z = g i y.0 y.1 in
    (z.0, z.1, z.2 ∙ y.2)

-- what is set where nothing stood does not stand there
set_nowhere : {A B : Type 0} (xs : List A) (i : ℕ) (y z : A) → numbered xs i ≡ None → numbered (set_numbered xs i y) i ≡ Some z → B
set_nowhere xs zero y z e f = none_some f
set_nowhere xs (suc k) y z e f = none_some (sym (put_nowhere xs k y e) ∙ f)

module _ (sc : Scopes) where
  pub all_right : (w : World) (cells : List Cell) → AreAll (LeadsRight sc w) cells → AllLeadRight sc w cells
  all_right w [] i = tt
  all_right w (c ∷ cells) i = (i.0, all_right w cells i.1)

  pub right_all : (w : World) (cells : List Cell) → AllLeadRight sc w cells → AreAll (LeadsRight sc w) cells
  right_all w [] i = tt
  right_all w (c ∷ cells) i = (i.0, right_all w cells i.1)

  -- ---- what holds of a world holds of one with more instances

  module _ (w v : World) (more : Extends w v) where
    pub plain_too : (r : Reference) → IsPlainAt sc w r → IsPlainAt sc v r
    plain_too r h =
        let y = more r.instance h.instance h.is in
        record {
          instance = y.0;
          is = y.1;
          no_formal = subst (λ j. is_formal (parameter_sort (parameters_at sc j) r.name) ≡ false) (sym y.2) h.no_formal;
        }

    pub right_too : (c : Cell) → LeadsRight sc w c → LeadsRight sc v c
    right_too (reference r) h = plain_too r h
    right_too (named n) h = h
    right_too (simple u) h = tt
    right_too (event e) h = tt
    right_too (array a) h = tt

    pub all_too : (cells : List Cell) → AllLeadRight sc w cells → AllLeadRight sc v cells
    all_too [] h = tt
    all_too (c ∷ cells) h = (right_too c h.0, all_too cells h.1)

    pub instance_too : (x : Instance) → InstanceFits sc w x → InstanceFits sc v x
    instance_too x h = record { parameters = h.parameters; cells = λ n. right_too (cell_in x.cells n) (h.cells n) }

    pub part_too : (part : Part) → PartFits sc w part → PartFits sc v part
    part_too part h = record { rest = h.rest; holds = all_too (held_in_rest part.rest) h.holds }

    pub process_too : (q : Process) → ProcessFits sc w q → ProcessFits sc v q
    process_too q h =
        record { parts = λ part n. part_too part (h.parts part n); task = λ r e. plain_too r (h.task r e); waits = λ r e. plain_too r (h.waits r e) }

    -- the processes are the same
    pub same_processes : WorldFits sc w → v.processes ≡ w.processes → ((i : ℕ) (y : Instance) → numbered v.instances i ≡ Some y → InstanceFits sc v y) → WorldFits sc v
    same_processes fits e each =
        record { instances = each; processes = λ k q f. process_too q (fits.processes k q (ap (λ qs. numbered qs k) (sym e) ∙ f)) }

  -- ---- an instance that changes

  module _ (w : World) (fits : WorldFits sc w) (i : ℕ) (y : Instance) (was : (x : Instance) → numbered w.instances i ≡ Some x → (y.block ≡ x.block) × InstanceFits sc w y) where
    extends_with : Extends w (with_instance w i y)
    extends_with k z e = by (set_or w.instances i k y)
      where
        by : (numbered (set_numbered w.instances i y) k ≡ numbered w.instances k) ⊎ ((i ≡ k) × (numbered (set_numbered w.instances i y) k ≡ Some y)) →
            (x : Instance) × (numbered (set_numbered w.instances i y) k ≡ Some x) × (x.block ≡ z.block)
        by (◌⊎◌.inl h) = (z, h ∙ e, refl)
        by (◌⊎◌.inr h) = (y, h.1, (was z (subst (λ j. numbered w.instances j ≡ Some z) (sym h.0) e)).0)

    set_fits : (o : Option Instance) → numbered w.instances i ≡ o → (k : ℕ) (z : Instance) → i ≡ k → numbered (set_numbered w.instances i y) k ≡ Some z → z ≡ y → InstanceFits sc w z
    set_fits None e k z f g same = set_nowhere w.instances i y z e (subst (λ j. numbered (set_numbered w.instances i y) j ≡ Some z) (sym f) g)
    set_fits (Some x) e k z f g same = subst (λ t. InstanceFits sc w t) (sym same) (was x e).1

    pub with_fits : WorldFits sc (with_instance w i y)
    with_fits = same_processes w (with_instance w i y) extends_with fits refl each
      where
        each : (k : ℕ) (z : Instance) → numbered (set_numbered w.instances i y) k ≡ Some z → InstanceFits sc (with_instance w i y) z
        each k z e = instance_too w (with_instance w i y) extends_with z (by (set_or w.instances i k y))
          where
            by : (numbered (set_numbered w.instances i y) k ≡ numbered w.instances k) ⊎ ((i ≡ k) × (numbered (set_numbered w.instances i y) k ≡ Some y)) → InstanceFits sc w z
            by (◌⊎◌.inl h) = fits.instances k z (sym h ∙ e)
            by (◌⊎◌.inr h) = set_fits (numbered w.instances i) refl k z h.0 e (some_same e h.1)

    pub with_extends : Extends w (with_instance w i y)
    with_extends = extends_with

  module _ (w : World) (fits : WorldFits sc w) where
    -- an instance that is there, with other cells
    other_cells : (i : ℕ) (cells : List NamedCell) →
        ((x : Instance) → numbered w.instances i ≡ Some x → instance_at w i ≡ x → ParametersFit (parameters_at sc x.block) cells × ((n : List ℕ) → LeadsRight sc w (cell_in cells n))) →
        (x : Instance) → numbered w.instances i ≡ Some x →
        ((record (instance_at w i) { cells = cells }).block ≡ x.block) × InstanceFits sc w (record (instance_at w i) { cells = cells })
    other_cells i cells f x e =
        let same : instance_at w i ≡ x = ap or_no_instance e in
        let g = f x e same in
        (ap (λ (z : Instance). z.block) same, record { parameters = subst (λ (z : Instance). ParametersFit (parameters_at sc z.block) cells) (sym same) g.0; cells = g.1 })

    module _ (r : Reference) (c : Cell) (plain : IsPlainAt sc w r) (right : LeadsRight sc w c) where
      abbrev set : List NamedCell
      set = cells_with ((instance_at w r.instance).cells) r.name c

      set_was : (x : Instance) → numbered w.instances r.instance ≡ Some x → instance_at w r.instance ≡ x →
          ParametersFit (parameters_at sc x.block) set × ((n : List ℕ) → LeadsRight sc w (cell_in set n))
      set_was x e same =
          let h = fits.instances r.instance x e in
          let there : plain.instance ≡ x = some_same plain.is e in (
            subst (λ (z : Instance). ParametersFit (parameters_at sc x.block) (cells_with z.cells r.name c)) (sym same)
                (parameters_with (parameters_at sc x.block) x.cells r.name c
                (subst (λ (z : Instance). is_formal (parameter_sort (parameters_at sc z.block) r.name) ≡ false) there plain.no_formal) h.parameters),
            subst (λ (z : Instance). (n : List ℕ) → LeadsRight sc w (cell_in (cells_with z.cells r.name c) n)) (sym same)
                (finds_with (LeadsRight sc w) x.cells r.name c right h.cells),
          )

      pub set_cell_fits : WorldFits sc (set_cell w r c)
      set_cell_fits =
          with_fits w fits r.instance (record (instance_at w r.instance) { cells = set }) (other_cells r.instance set set_was)

      pub set_cell_extends : Extends w (set_cell w r c)
      set_cell_extends =
          with_extends w fits r.instance (record (instance_at w r.instance) { cells = set }) (other_cells r.instance set set_was)

    module _ (i : ℕ) (more : List NamedCell) (right : (n : List ℕ) → LeadsRight sc w (cell_in more n)) where
      abbrev added : List NamedCell
      added = (instance_at w i).cells ++ more

      added_was : (x : Instance) → numbered w.instances i ≡ Some x → instance_at w i ≡ x →
          ParametersFit (parameters_at sc x.block) added × ((n : List ℕ) → LeadsRight sc w (cell_in added n))
      added_was x e same =
          let h = fits.instances i x e in (
            subst (λ (z : Instance). ParametersFit (parameters_at sc x.block) (z.cells ++ more)) (sym same) (parameters_more (parameters_at sc x.block) x.cells more h.parameters),
            subst (λ (z : Instance). (n : List ℕ) → LeadsRight sc w (cell_in (z.cells ++ more) n)) (sym same) (finds_more (LeadsRight sc w) x.cells more h.cells right),
          )

      pub add_cells_fits : WorldFits sc (add_cells w i more)
      add_cells_fits = with_fits w fits i (record (instance_at w i) { cells = added }) (other_cells i added added_was)

      pub add_cells_extends : Extends w (add_cells w i more)
      add_cells_extends = with_extends w fits i (record (instance_at w i) { cells = added }) (other_cells i added added_was)

    left_was : (i : ℕ) (x : Instance) → numbered w.instances i ≡ Some x →
        ((record (instance_at w i) { left = true }).block ≡ x.block) × InstanceFits sc w (record (instance_at w i) { left = true })
    left_was i x e =
        let same : instance_at w i ≡ x = ap or_no_instance e in
        let h = subst (λ z. InstanceFits sc w z) (sym same) (fits.instances i x e) in
        (ap (λ (z : Instance). z.block) same, record { parameters = h.parameters; cells = h.cells })

    pub leave_one : (i : ℕ) → WorldFits sc (with_instance w i (record (instance_at w i) { left = true }))
    leave_one i = with_fits w fits i (record (instance_at w i) { left = true }) (left_was i)

    pub leave_extends : (i : ℕ) → Extends w (with_instance w i (record (instance_at w i) { left = true }))
    leave_extends i = with_extends w fits i (record (instance_at w i) { left = true }) (left_was i)

  pub leave_fits : (is : List ℕ) (w : World) → WorldFits sc w → WorldFits sc (leave w is) × Extends w (leave w is)
  leave_fits [] w fits = (fits, extends_self w w refl)
  leave_fits (i ∷ is) w fits =
      let one = with_instance w i (record (instance_at w i) { left = true }) in
      let all = leave_fits is one (leave_one w fits i) in
      (all.0, extends_then w one (leave one is) (leave_extends w fits i) all.1)

  -- ---- a new instance

  module _ (w : World) (fits : WorldFits sc w) (y : Instance) (v : World) (instances : v.instances ≡ w.instances ++ y ∷ []) (processes : v.processes ≡ w.processes) where
    front : (k : ℕ) (x : Instance) → numbered w.instances k ≡ Some x → numbered (w.instances ++ y ∷ []) k ≡ Some x
    front zero x e = none_some e
    front (suc k) x e = get_front w.instances (y ∷ []) k x e

    last : (k : ℕ) (x : Instance) → numbered (w.instances ++ y ∷ []) k ≡ Some x → (numbered w.instances k ≡ Some x) ⊎ (x ≡ y)
    last zero x e = none_some e
    last (suc k) x e = by (get_last w.instances y k x e)
      where
        by : (slice_get w.instances k ≡ Some x) ⊎ ((k ≡ length w.instances) × (x ≡ y)) → (slice_get w.instances k ≡ Some x) ⊎ (x ≡ y)
        by (◌⊎◌.inl f) = ◌⊎◌.inl f
        by (◌⊎◌.inr f) = ◌⊎◌.inr f.1

    pub new_extends : Extends w v
    new_extends k x e = (x, ap (λ xs. numbered xs k) instances ∙ front k x e, refl)

    pub new_fits : InstanceFits sc w y → WorldFits sc v
    new_fits h = same_processes w v new_extends fits processes each
      where
        each : (k : ℕ) (x : Instance) → numbered v.instances k ≡ Some x → InstanceFits sc v x
        each k x e = instance_too w v new_extends x (by (last k x (ap (λ xs. numbered xs k) (sym instances) ∙ e)))
          where
            by : (numbered w.instances k ≡ Some x) ⊎ (x ≡ y) → InstanceFits sc w x
            by (◌⊎◌.inl f) = fits.instances k x f
            by (◌⊎◌.inr f) = subst (λ z. InstanceFits sc w z) (sym f) h

  -- ---- processes

  pub process_fits : (w : World) (p : ℕ) (q : Process) → WorldFits sc w → ProcessFits sc w q → WorldFits sc (with_process w p q)
  process_fits w p q fits h = record { instances = λ k x e. instance_too w (with_process w p q) same x (fits.instances k x e); processes = each }
    where
      same : Extends w (with_process w p q)
      same = extends_self w (with_process w p q) refl

      each : (k : ℕ) (y : Process) → numbered (set_numbered w.processes p q) k ≡ Some y → ProcessFits sc (with_process w p q) y
      each k y e = process_too w (with_process w p q) same y (by (set_or w.processes p k q))
        where
          by : (numbered (set_numbered w.processes p q) k ≡ numbered w.processes k) ⊎ ((p ≡ k) × (numbered (set_numbered w.processes p q) k ≡ Some q)) → ProcessFits sc w y
          by (◌⊎◌.inl f) = fits.processes k y (sym f ∙ e)
          by (◌⊎◌.inr f) = subst (λ z. ProcessFits sc w z) (some_same f.1 e) h

  -- a process that is there, or not
  pub its_fits : (w : World) (o : Option Process) (p : ℕ) → WorldFits sc w → numbered w.processes p ≡ o → ProcessFits sc w (process_at w p)
  its_fits w (Some q) p fits e = subst (λ z. ProcessFits sc w z) (sym (ap or_no_process e)) (fits.processes p q e)
  its_fits w None p fits e =
      subst (λ z. ProcessFits sc w z) (sym (ap or_no_process e))
      (record { parts = λ x n. absurd n; task = λ r f. none_some f; waits = λ r f. false_true f })

  -- .. and is able
  able_one : (w : World) (p : ℕ) → WorldFits sc w → WorldFits sc (set_able w p)
  able_one w p fits =
      let h = its_fits w (numbered w.processes p) p fits refl in
      process_fits w p (record (process_at w p) { state = able }) fits (record { parts = h.parts; task = h.task; waits = λ r f. false_true f })

  pub able_fits : (ps : List ℕ) (w : World) → WorldFits sc w → WorldFits sc (set_all_able w ps)
  able_fits [] w fits = fits
  able_fits (p ∷ ps) w fits = able_fits ps (set_able w p) (able_one w p fits)
