-- Worlds that change in an instance, a process, or by new ones: nobody comes to more of an instance than before.
use Rattle.std.proofs.Common.{◌≡◌, ◌⊎◌, ℕ, suc, List, [], ◌∷◌, ◌++◌, length, Option, Some, None, Bool, true, false, refl, sym, ap, ◌∙◌, subst}
use Rattle.std.specs.Prelude.{if◌then◌else◌}
use Rattle.b67_list.specs.Numbered.{numbered, set_numbered}
use Rattle.b67_list.proofs.Numbers.{none_some}
use Rattle.b67_deeds.specs.declared.EventTest.TheVariants as test
use Rattle.b67_deeds.specs.Events.{EventState, left_by}
use Rattle.b67_deeds.specs.Deeds.{tests, deed}
use Rattle.algol_tree.specs.declared.tree.Kind.{Kind}
use Rattle.algol_tree.specs.declared.tree.Named.{Named}
use Rattle.algol_tree.specs.Plain as tree
use Rattle.algol_tree.specs.Plain.{PDecls}
use Rattle.algol_tree.specs.Blocks.{Block}
use Rattle.algol_tree.specs.Sorts.{Parameter, same_name}
use Rattle.algol_tree.specs.Scopes.{Scopes}
use Rattle.algol_meaning.specs.Value.{Value, Reference, Cell, simple, event}
use Rattle.algol_meaning.specs.World.{NamedCell, Instance, or_no_instance, instance_at, cell_in, cells_with, with_instance, set_cell, add_cells, Part, Process, able, no_process, or_no_process, process_at, with_process, set_able, set_all_able, World}
use Rattle.algol_meaning.specs.Events.{event_at, set_event, change_event, reference_is_among, joined_all, list_in, forgotten, woken_by, withdrawn, all_withdrawn}
use Rattle.algol_meaning.specs.Critical.{is_evaluation}
use Rattle.algol_meaning.specs.Instances.{parameter_cells, initial_cells, result_cells, variable_cells, fresh_cells, leave}
use Rattle.algol_paths.specs.Arrays.{all_to_make}
use Rattle.algol_standing.specs.Worlds.{IsAmongParts}
use Rattle.algol_standing.specs.Lows.{LeadsLow, CellLow, AllLow, CellsLow, InstanceLow, PartLow}
use Rattle.algol_standing.proofs.Lists.{some_same, false_true}
use Rattle.algol_standing.proofs.Pairs.{set_or}
use Rattle.algol_standing.proofs.Holding.{AreAll}
use Rattle.algol_standing.proofs.Stacks.{numbered_cases, numbered_last}

-- ---- cells

module _ (sc : Scopes) (b i : ℕ) where
  pub cells_with_low : (cells : List NamedCell) (name : List ℕ) (c : Cell) → CellLow sc b i c → CellsLow sc b i cells → CellsLow sc b i (cells_with cells name c)
  cells_with_low [] name c l h = tt
  cells_with_low (d ∷ cells) name c l h = by (same_name d.name name) (cells_with_low cells name c l h.1)
    where
      by : (t : Bool) → CellsLow sc b i (cells_with cells name c) → CellsLow sc b i (if t then record d { cell = c } ∷ cells else d ∷ cells_with cells name c)
      by true m = (l, h.1)
      by false m = (h.0, m)

  pub more_low : (cells more : List NamedCell) → CellsLow sc b i cells → CellsLow sc b i more → CellsLow sc b i (cells ++ more)
  more_low [] more h m = m
  more_low (d ∷ cells) more h m = (h.0, more_low cells more h.1 m)

  pub cell_in_low : (cells : List NamedCell) (name : List ℕ) → CellsLow sc b i cells → CellLow sc b i (cell_in cells name)
  cell_in_low [] name h = tt
  cell_in_low (d ∷ cells) name h = by (same_name d.name name) (cell_in_low cells name h.1)
    where
      by : (t : Bool) → CellLow sc b i (cell_in cells name) → CellLow sc b i (if t then d.cell else cell_in cells name)
      by true m = h.0
      by false m = m

  -- ---- those of a new instance

  parameters_low : (ps : List Parameter) (cells : List Cell) → AllLow sc b i cells → CellsLow sc b i (parameter_cells ps cells)
  parameters_low [] cells h = tt
  parameters_low (p ∷ ps) [] h = tt
  parameters_low (p ∷ ps) (c ∷ cells) h = (h.0, parameters_low ps cells h.1)

  initial_low : (kind : Kind) (ns : List Named) → CellsLow sc b i (initial_cells kind ns)
  initial_low kind [] = tt
  initial_low kind (n ∷ ns) = (tt, initial_low kind ns)

  result_low : (o : Option Kind) (name : List ℕ) → CellsLow sc b i (result_cells o name)
  result_low None name = tt
  result_low (Some kind) name = (tt, tt)

  variables_low : (ds : PDecls) → CellsLow sc b i (variable_cells ds)
  variables_low tree.no_decls = tt
  variables_low (tree.decls (tree.simple kind ns) ds) = more_low (initial_cells kind ns) (variable_cells ds) (initial_low kind ns) (variables_low ds)
  variables_low (tree.decls _ ds) = variables_low ds

  pub fresh_low : (block : Block) (cells : List Cell) → AllLow sc b i cells → CellsLow sc b i (fresh_cells block cells)
  fresh_low block cells h =
      more_low (parameter_cells block.parameters cells ++ result_cells block.result block.name) (variable_cells block.decls)
      (more_low (parameter_cells block.parameters cells) (result_cells block.result block.name) (parameters_low block.parameters cells h) (result_low block.result block.name))
      (variables_low block.decls)

-- ---- worlds

-- where X holds
module _ (sc : Scopes) (b i : ℕ) (X : Type 0) where
  abbrev pub Low : Cell → Type 0
  Low c = X → CellLow sc b i c

  pub plain_low : (v : Value) → Low (simple v)
  plain_low v = λ x. tt

  pub low_all : (cells : List Cell) → AreAll Low cells → X → AllLow sc b i cells
  low_all [] h x = tt
  low_all (c ∷ cells) h x = (h.0 x, low_all cells h.1 x)

  pub all_low : (cells : List Cell) → (X → AllLow sc b i cells) → AreAll Low cells
  all_low [] h = tt
  all_low (c ∷ cells) h = (λ x. (h x).0, all_low cells (λ x. (h x).1))

  -- X is so where the part has still to make some of what the block of i declares
  pub record GoesLow (y : Part) : Type 0 where
    pub low : X → PartLow sc b i y
    pub makes : is_evaluation y.purpose ≡ false → y.instance ≡ i → (all_to_make y.rest ≡ [] → ⊥) → X

  pub record LowIf (w : World) : Type 0 where
    pub instances : (j : ℕ) (x : Instance) → numbered w.instances j ≡ Some x → x.left ≡ false → X → InstanceLow sc b i x
    pub parts : (k : ℕ) (q : Process) (y : Part) → numbered w.processes k ≡ Some q → IsAmongParts q.todo y → GoesLow y
    pub tasks : (k : ℕ) (q : Process) (r : Reference) → numbered w.processes k ≡ Some q → q.task ≡ Some r → X → LeadsLow sc b i r

  -- nothing of instances and processes changes
  pub same_low : (w v : World) → v.instances ≡ w.instances → v.processes ≡ w.processes → LowIf w → LowIf v
  same_low w v e f h =
      record {
        instances = λ j x g. h.instances j x (ap (λ xs. numbered xs j) (sym e) ∙ g);
        parts = λ k q y g. h.parts k q y (ap (λ qs. numbered qs k) (sym f) ∙ g);
        tasks = λ k q r g. h.tasks k q r (ap (λ qs. numbered qs k) (sym f) ∙ g);
      }

  -- ---- a process that changes

  abbrev pub TaskLow : Process → Type 0
  TaskLow q = (r : Reference) → q.task ≡ Some r → X → LeadsLow sc b i r

  abbrev pub PartsLow : List Part → Type 0
  PartsLow parts = (y : Part) → IsAmongParts parts y → GoesLow y

  pub process_low : (w : World) (p : ℕ) (q : Process) → LowIf w → PartsLow q.todo → TaskLow q → LowIf (with_process w p q)
  process_low w p q h parts task = record { instances = h.instances; parts = λ k z y e n. in_parts k z y n (was k z e); tasks = λ k z r e f. in_task k z r f (was k z e) }
    where
      was : (k : ℕ) (z : Process) → numbered (set_numbered w.processes p q) k ≡ Some z → (numbered w.processes k ≡ Some z) ⊎ (z ≡ q)
      was k z e = by (set_or w.processes p k q)
        where
          by : (numbered (set_numbered w.processes p q) k ≡ numbered w.processes k) ⊎ ((p ≡ k) × (numbered (set_numbered w.processes p q) k ≡ Some q)) →
              (numbered w.processes k ≡ Some z) ⊎ (z ≡ q)
          by (◌⊎◌.inl f) = ◌⊎◌.inl (sym f ∙ e)
          by (◌⊎◌.inr f) = ◌⊎◌.inr (some_same e f.1)

      in_parts : (k : ℕ) (z : Process) (y : Part) → IsAmongParts z.todo y → (numbered w.processes k ≡ Some z) ⊎ (z ≡ q) → GoesLow y
      in_parts k z y n (◌⊎◌.inl f) = h.parts k z y f n
      in_parts k z y n (◌⊎◌.inr f) = parts y (subst (λ (t : Process). IsAmongParts t.todo y) f n)

      in_task : (k : ℕ) (z : Process) (r : Reference) → z.task ≡ Some r → (numbered w.processes k ≡ Some z) ⊎ (z ≡ q) → X → LeadsLow sc b i r
      in_task k z r g (◌⊎◌.inl f) = h.tasks k z r f g
      in_task k z r g (◌⊎◌.inr f) = task r (ap (λ (t : Process). t.task) (sym f) ∙ g)

  -- only its state does
  state_low : (w : World) (p : ℕ) (o : Option Process) → LowIf w → numbered w.processes p ≡ o → PartsLow (process_at w p).todo × TaskLow (process_at w p)
  state_low w p (Some q) h e =
      let same : process_at w p ≡ q = ap or_no_process e in
      (λ y n. h.parts p q y e (subst (λ (z : Process). IsAmongParts z.todo y) same n), λ r f. h.tasks p q r e (ap (λ (z : Process). z.task) (sym same) ∙ f))
  state_low w p None h e =
      let same : process_at w p ≡ no_process = ap or_no_process e in
      (λ y n. absurd (subst (λ (z : Process). IsAmongParts z.todo y) same n), λ r f. none_some (ap (λ (z : Process). z.task) (sym same) ∙ f))

  pub able_low : (ps : List ℕ) (w : World) → LowIf w → LowIf (set_all_able w ps)
  able_low [] w h = h
  able_low (p ∷ ps) w h =
      let its = state_low w p (numbered w.processes p) h refl in
      able_low ps (set_able w p) (process_low w p (record (process_at w p) { state = able }) h its.0 its.1)

  -- ---- an instance that changes

  pub instance_low : (w : World) (j : ℕ) (y : Instance) → LowIf w → ((x : Instance) → numbered w.instances j ≡ Some x → y.left ≡ false → X → InstanceLow sc b i y) →
      LowIf (with_instance w j y)
  instance_low w j y h new = record { instances = λ k z e. by k z (numbered_cases w.instances j k y z e); parts = h.parts; tasks = h.tasks }
    where
      by : (k : ℕ) (z : Instance) → ((j ≡ k) × (z ≡ y) × (x : Instance) × (numbered w.instances k ≡ Some x)) ⊎ ((j ≡ k → ⊥) × (numbered w.instances k ≡ Some z)) →
          z.left ≡ false → X → InstanceLow sc b i z
      by k z (◌⊎◌.inl f) s t =
          subst (λ u. InstanceLow sc b i u) (sym f.1) (new f.2 (ap (λ m. numbered w.instances m) f.0 ∙ f.3) (ap (λ (u : Instance). u.left) (sym f.1) ∙ s) t)
      by k z (◌⊎◌.inr f) s t = h.instances k z f.1 s t

  -- .. as it was but for its cells
  cells_low : (w : World) (j : ℕ) (cells : List NamedCell) → LowIf w → (X → CellsLow sc b i (instance_at w j).cells → CellsLow sc b i cells) →
      LowIf (with_instance w j (record (instance_at w j) { cells = cells }))
  cells_low w j cells h more = instance_low w j (record (instance_at w j) { cells = cells }) h new
    where
      new : (x : Instance) → numbered w.instances j ≡ Some x → (instance_at w j).left ≡ false → X → InstanceLow sc b i (record (instance_at w j) { cells = cells })
      new x e s t =
          let same : instance_at w j ≡ x = ap or_no_instance e in
          let old : InstanceLow sc b i (instance_at w j) = subst (λ u. InstanceLow sc b i u) (sym same) (h.instances j x e (ap (λ (u : Instance). u.left) (sym same) ∙ s) t) in
          record { childless = old.childless; cells = more t old.cells }

  pub set_cell_low : (w : World) (r : Reference) (c : Cell) → Low c → LowIf w → LowIf (set_cell w r c)
  set_cell_low w r c l h =
      cells_low w r.instance (cells_with ((instance_at w r.instance).cells) r.name c) h (λ t m. cells_with_low sc b i ((instance_at w r.instance).cells) r.name c (l t) m)

  -- ---- events

  event_low : (w : World) (r : Reference) (e : EventState) → LowIf w → LowIf (set_event w r e)
  event_low w r e h = set_cell_low w r (event e) (λ t. tt) h

  pub changed_low : (w : World) (r : Reference) (c : Option (EventState → EventState)) → LowIf w → LowIf (change_event w r c)
  changed_low w r None h = h
  changed_low w r (Some change) h = event_low w r (change (event_at w r)) h

  forgotten_low : (rs : List Reference) (w : World) (p : ℕ) → LowIf w → LowIf (forgotten w p rs)
  forgotten_low [] w p h = h
  forgotten_low (r ∷ rs) w p h = forgotten_low rs (change_event w r (Some (left_by p))) p (changed_low w r (Some (left_by p)) h)

  pub withdrawn_low : (ps : List ℕ) (w : World) (r : Reference) → LowIf w → LowIf (all_withdrawn w r ps)
  withdrawn_low [] w r h = h
  withdrawn_low (p ∷ ps) w r h =
      let its = state_low w p (numbered w.processes p) h refl in
      withdrawn_low ps (withdrawn w r p) r
      (process_low (forgotten w p (list_in (process_at w p).state)) p (record (process_at w p) { woken = woken_by r (process_at w p) })
      (forgotten_low (list_in (process_at w p).state) w p h) its.0 its.1)

  pub joined_low : (rs seen : List Reference) (w : World) (p : ℕ) → LowIf w → LowIf (joined_all w p seen rs)
  joined_low [] seen w p h = h
  joined_low (r ∷ rs) seen w p h =
      by (reference_is_among seen r) (joined_low rs (r ∷ seen) w p h) (joined_low rs (r ∷ seen) v p (changed_low w r (deed (tests test.WaitAny) p (event_at w r)).change h))
    where
      v : World
      v = change_event w r (deed (tests test.WaitAny) p (event_at w r)).change

      by : (d : Bool) → LowIf (joined_all w p (r ∷ seen) rs) → LowIf (joined_all v p (r ∷ seen) rs) →
          LowIf (if d then joined_all w p (r ∷ seen) rs else (joined_all v p (r ∷ seen) rs))
      by true f g = f
      by false f g = g

  pub add_cells_low : (w : World) (j : ℕ) (more : List NamedCell) → CellsLow sc b i more → LowIf w → LowIf (add_cells w j more)
  add_cells_low w j more l h = cells_low w j ((instance_at w j).cells ++ more) h (λ t m. more_low sc b i ((instance_at w j).cells) more m l)

  pub leave_low : (is : List ℕ) (w : World) → LowIf w → LowIf (leave w is)
  leave_low [] w h = h
  leave_low (j ∷ is) w h =
      let gone = record (instance_at w j) { left = true } in
      leave_low is (with_instance w j gone) (instance_low w j gone h (λ x e s t. false_true (sym s)))

  -- ---- new ones

  pub new_instance_low : (w v : World) (y : Instance) → v.instances ≡ w.instances ++ y ∷ [] → v.processes ≡ w.processes → (X → InstanceLow sc b i y) → LowIf w → LowIf v
  new_instance_low w v y e f new h =
      record {
        instances = λ j x g. by j x (numbered_last w.instances y j x (ap (λ xs. numbered xs j) (sym e) ∙ g));
        parts = λ k q x g. h.parts k q x (ap (λ qs. numbered qs k) (sym f) ∙ g);
        tasks = λ k q r g. h.tasks k q r (ap (λ qs. numbered qs k) (sym f) ∙ g);
      }
    where
      by : (j : ℕ) (x : Instance) → (numbered w.instances j ≡ Some x) ⊎ ((j ≡ suc (length w.instances)) × (x ≡ y)) → x.left ≡ false → X → InstanceLow sc b i x
      by j x (◌⊎◌.inl g) s t = h.instances j x g s t
      by j x (◌⊎◌.inr g) s t = subst (λ u. InstanceLow sc b i u) (sym g.1) (new t)

  pub new_process_low : (w v : World) (q : Process) → v.instances ≡ w.instances → v.processes ≡ w.processes ++ q ∷ [] → PartsLow q.todo → TaskLow q → LowIf w → LowIf v
  new_process_low w v q e f parts task h =
      record {
        instances = λ j x g. h.instances j x (ap (λ xs. numbered xs j) (sym e) ∙ g);
        parts = λ k z y g n. in_parts k z y n (numbered_last w.processes q k z (ap (λ qs. numbered qs k) (sym f) ∙ g));
        tasks = λ k z r g n. in_task k z r n (numbered_last w.processes q k z (ap (λ qs. numbered qs k) (sym f) ∙ g));
      }
    where
      in_parts : (k : ℕ) (z : Process) (y : Part) → IsAmongParts z.todo y → (numbered w.processes k ≡ Some z) ⊎ ((k ≡ suc (length w.processes)) × (z ≡ q)) → GoesLow y
      in_parts k z y n (◌⊎◌.inl g) = h.parts k z y g n
      in_parts k z y n (◌⊎◌.inr g) = parts y (subst (λ (t : Process). IsAmongParts t.todo y) g.1 n)

      in_task : (k : ℕ) (z : Process) (r : Reference) → z.task ≡ Some r → (numbered w.processes k ≡ Some z) ⊎ ((k ≡ suc (length w.processes)) × (z ≡ q)) → X → LeadsLow sc b i r
      in_task k z r n (◌⊎◌.inl g) = h.tasks k z r g n
      in_task k z r n (◌⊎◌.inr g) = task r (ap (λ (t : Process). t.task) (sym g.1) ∙ n)
