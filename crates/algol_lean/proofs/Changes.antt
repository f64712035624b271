-- The changes of a world keep another one alike but for the cells of the instances that are left.
use Rattle.std.proofs.Common.{◌≡◌, refl, sym, ap, ◌∙◌, subst, ℕ, List, [], ◌∷◌, ◌++◌, Option, Some, None, Bool, true, false, map}
use Rattle.std.specs.Prelude.{if◌then◌else◌}
use Rattle.b67_list.specs.Numbered.{numbered, set_numbered}
use Rattle.b67_deeds.specs.declared.EventTest.TheVariants as test
use Rattle.b67_deeds.specs.Events.{EventState, left_by, joined}
use Rattle.b67_deeds.specs.Deeds.{tests, Deed, deed}
use Rattle.algol_meaning.specs.Value.{Reference, Cell, event}
use Rattle.algol_meaning.specs.World.{NamedCell, Instance, instance_at, able, Process, WorldFault, World, cell_in, cell_at, cells_with, with_instance, set_cell, add_cells, event_in, or_no_process, process_at, with_process, set_able, set_all_able}
use Rattle.algol_meaning.specs.Instances.{leave}
use Rattle.algol_meaning.specs.Events.{event_at, change_event, set_event, reference_is_among, joined_all, list_in, forgotten, woken_by, withdrawn, all_withdrawn, released}
use Rattle.algol_laws.specs.Reading.{Outline, outline, Bare, bare}
use Rattle.algol_lean.specs.Lean.{IsLean, Lean}
use Rattle.algol_lean.proofs.Lists.{all_lean_self, lean_numbered, lean_set, outlines_lean}

pub world_self : (w : World) → Lean w w
world_self w = record { instances = all_lean_self w.instances; processes = refl; output = refl; fault = refl }

-- ---- what is the same

same_bare : (os rs : List Outline) (ps qs : List Process) (ls ms : List (List ℕ)) (f g : Option WorldFault) → os ≡ rs → ps ≡ qs → ls ≡ ms → f ≡ g →
    ◌≡◌ {A = Bare} (record { instances = os; processes = ps; output = ls; fault = f }) (record { instances = rs; processes = qs; output = ms; fault = g })
same_bare os rs ps qs ls ms f g eo ep el ef i = record { instances = eo i; processes = ep i; output = el i; fault = ef i }

pub bare_lean : (w v : World) → Lean w v → bare v ≡ bare w
bare_lean w v l =
    same_bare (map outline v.instances) (map outline w.instances) v.processes w.processes v.output w.output v.fault w.fault
    (outlines_lean w.instances v.instances l.instances) l.processes l.output l.fault

pub instance_lean : (w v : World) → Lean w v → (i : ℕ) → IsLean (instance_at w i) (instance_at v i)
instance_lean w v l i = lean_numbered w.instances v.instances l.instances i

pub cell_lean : (w v : World) → Lean w v → (r : Reference) → (instance_at w r.instance).left ≡ false → cell_at v r ≡ cell_at w r
cell_lean w v l r e = ap (λ (cells : List NamedCell). cell_in cells r.name) ((instance_lean w v l r.instance).cells e)

pub process_same : (w v : World) → Lean w v → (p : ℕ) → process_at v p ≡ process_at w p
process_same w v l p = ap (λ (qs : List Process). or_no_process (numbered qs p)) l.processes

-- ---- changes of instances

with_lean : (w v : World) → Lean w v → (i : ℕ) (x y : Instance) → IsLean x y → Lean (with_instance w i x) (with_instance v i y)
with_lean w v l i x y m =
    record { instances = lean_set w.instances v.instances l.instances i x y m; processes = l.processes; output = l.output; fault = l.fault }

-- Another content of a cell: the same one, unless its instance is left.
pub set_lean : (w v : World) → Lean w v → (r : Reference) (c d : Cell) → ((instance_at w r.instance).left ≡ false → d ≡ c) → Lean (set_cell w r c) (set_cell v r d)
set_lean w v l r c d same =
    with_lean w v l r.instance (record (instance_at w r.instance) { cells = cells_with ((instance_at w r.instance).cells) r.name c })
    (record (instance_at v r.instance) { cells = cells_with ((instance_at v r.instance).cells) r.name d })
    (record {
      alike = (instance_lean w v l r.instance).alike;
      cells = λ e. ap (λ (cells : List NamedCell). cells_with cells r.name d) ((instance_lean w v l r.instance).cells e)
          ∙ ap (λ (x : Cell). cells_with ((instance_at w r.instance).cells) r.name x) (same e);
    })

pub add_lean : (w v : World) → Lean w v → (i : ℕ) (cells : List NamedCell) → Lean (add_cells w i cells) (add_cells v i cells)
add_lean w v l i cells =
    with_lean w v l i (record (instance_at w i) { cells = (instance_at w i).cells ++ cells }) (record (instance_at v i) { cells = (instance_at v i).cells ++ cells })
    (record {
      alike = (instance_lean w v l i).alike;
      cells = λ e. ap (λ (cs : List NamedCell). cs ++ cells) ((instance_lean w v l i).cells e);
    })

pub leave_lean : (is : List ℕ) (w v : World) → Lean w v → Lean (leave w is) (leave v is)
leave_lean [] w v l = l
leave_lean (i ∷ is) w v l =
    leave_lean is (with_instance w i (record (instance_at w i) { left = true })) (with_instance v i (record (instance_at v i) { left = true }))
    (with_lean w v l i (record (instance_at w i) { left = true }) (record (instance_at v i) { left = true })
    (record {
      alike = ap (λ (o : Outline). record o { left = true }) (instance_lean w v l i).alike;
      cells = λ e. cc;
    }))

-- ---- changes of processes

pub process_lean : (w v : World) → Lean w v → (p : ℕ) (q : Process) → Lean (with_process w p q) (with_process v p q)
process_lean w v l p q =
    record { instances = l.instances; processes = ap (λ (qs : List Process). set_numbered qs p q) l.processes; output = l.output; fault = l.fault }

able_lean : (ps : List ℕ) (w v : World) → Lean w v → Lean (set_all_able w ps) (set_all_able v ps)
able_lean [] w v l = l
able_lean (p ∷ ps) w v l =
    able_lean ps (set_able w p) (set_able v p)
    (record {
      instances = l.instances;
      processes = ap (λ (qs : List Process). set_numbered qs p (record (or_no_process (numbered qs p)) { state = able })) l.processes;
      output = l.output;
      fault = l.fault;
    })

-- ---- changes of events

event_lean : (w v : World) → Lean w v → (r : Reference) (f : EventState → EventState) → Lean (set_event w r (f (event_at w r))) (set_event v r (f (event_at v r)))
event_lean w v l r f =
    set_lean w v l r (event (f (event_at w r))) (event (f (event_at v r))) (λ e. ap (λ (c : Cell). event (f (event_in c))) (cell_lean w v l r e))

change_lean : (w v : World) → Lean w v → (r : Reference) (o : Option (EventState → EventState)) → Lean (change_event w r o) (change_event v r o)
change_lean w v l r None = l
change_lean w v l r (Some f) = event_lean w v l r f

forgotten_lean : (rs : List Reference) (p : ℕ) (w v : World) → Lean w v → Lean (forgotten w p rs) (forgotten v p rs)
forgotten_lean [] p w v l = l
forgotten_lean (r ∷ rs) p w v l =
    forgotten_lean rs p (change_event w r (Some (left_by p))) (change_event v r (Some (left_by p))) (change_lean w v l r (Some (left_by p)))

one_withdrawn_lean : (w v : World) → Lean w v → (r : Reference) (p : ℕ) → Lean (withdrawn w r p) (withdrawn v r p)
one_withdrawn_lean w v l r p =
    subst (λ (q : Process). Lean (withdrawn w r p) (with_process (forgotten v p (list_in q.state)) p (record q { woken = woken_by r q }))) (sym (process_same w v l p))
    (process_lean (forgotten w p (list_in (process_at w p).state)) (forgotten v p (list_in (process_at w p).state))
    (forgotten_lean (list_in (process_at w p).state) p w v l) p (record (process_at w p) { woken = woken_by r (process_at w p) }))

withdrawn_lean : (ps : List ℕ) (w v : World) → Lean w v → (r : Reference) → Lean (all_withdrawn w r ps) (all_withdrawn v r ps)
withdrawn_lean [] w v l r = l
withdrawn_lean (p ∷ ps) w v l r = withdrawn_lean ps (withdrawn w r p) (withdrawn v r p) (one_withdrawn_lean w v l r p) r

pub released_lean : (w v : World) → Lean w v → (r : Reference) (d : Deed) → Lean (released w r d).world (released v r d).world
released_lean w v l r d =
    able_lean d.frees (all_withdrawn (change_event w r d.change) r d.withdraws) (all_withdrawn (change_event v r d.change) r d.withdraws)
    (withdrawn_lean d.withdraws (change_event w r d.change) (change_event v r d.change) (change_lean w v l r d.change) r)

pub joined_lean : (p : ℕ) (seen rs : List Reference) (w v : World) → Lean w v → Lean (joined_all w p seen rs) (joined_all v p seen rs)
joined_lean p seen [] w v l = l
joined_lean p seen (r ∷ rs) w v l =
    by (reference_is_among seen r) (joined_lean p (r ∷ seen) rs w v l) (joined_lean p (r ∷ seen) rs (next w) (next v) (event_lean w v l r (λ (e : EventState). joined p e)))
  where
    next : World → World
    next u = change_event u r (deed (tests test.WaitAny) p (event_at u r)).change

    by : (b : Bool) → Lean (joined_all w p (r ∷ seen) rs) (joined_all v p (r ∷ seen) rs) → Lean (joined_all (next w) p (r ∷ seen) rs) (joined_all (next v) p (r ∷ seen) rs) →
        Lean (if b then joined_all w p (r ∷ seen) rs else (joined_all (next w) p (r ∷ seen) rs)) (if b then joined_all v p (r ∷ seen) rs else (joined_all (next v) p (r ∷ seen) rs))
    by true f g = f
    by false f g = g
