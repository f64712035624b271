-- What one action leaves as it is.
use Rattle.std.specs.Prelude.{◌≡◌, ◌≢◌, ℕ, zero, suc, Bool, true, false, if◌then◌else◌, List, [], ◌∷◌, ◌++◌, Option, Some, None}
use Rattle.b67_list.specs.Numbered.{numbered}
use Rattle.algol_tree.specs.Sorts.{same_name}
use Rattle.algol_tree.specs.Scopes.{Scopes}
use Rattle.algol_meaning.specs.Value.{Reference}
use Rattle.algol_meaning.specs.World.{NamedCell, cell_in, Instance, able, Part, Process, World, followed, or_no_process, process_at}
use Rattle.algol_meaning.specs.Critical.{process_is_one_of}
use Rattle.algol_meaning.specs.Rest.{Place, own, there, element_of}
use Rattle.algol_meaning.specs.Events.{event_at, first_happened, list_in, woken_by}
use Rattle.b67_deeds.specs.declared.EventAct.TheVariants as act
use Rattle.b67_deeds.specs.Events.{EventState}
use Rattle.b67_deeds.specs.Deeds.{EventDeed, acts, Deed, deed, is_of_several}
use Rattle.algol_tree.specs.declared.tree.Named.{Named}
use Rattle.algol_meaning.specs.Asks as asks
use Rattle.algol_meaning.specs.Asks.{Ask, ask}
use Rattle.b67_deeds.specs.declared.Letter.TheVariants as actions
use Rattle.b67_deeds.specs.declared.Letter.{Letter}
use Rattle.algol_meaning.specs.Choice.{here, all_followed, choice}
use Rattle.algol_meaning.specs.Run.{run_from}

-- a cell of that name is there
abbrev pub cell_is_there : List NamedCell → List ℕ → Bool
cell_is_there [] name = false
cell_is_there (c ∷ cells) name = if same_name c.name name then true else cell_is_there cells name

-- An instance, which was x, is now y: it is of the same block, with the same parent, in the same stack; one that was left stays left, and
-- each cell stays there.
pub record InstanceGrown (x y : Instance) : Type 0 where
  pub block : y.block ≡ x.block
  pub parent : y.parent ≡ x.parent
  pub process : y.process ≡ x.process
  pub left : x.left ≡ true → y.left ≡ true
  pub cells : (name : List ℕ) → cell_is_there x.cells name ≡ true → cell_is_there y.cells name ≡ true

-- the cell is none of those that are stored
abbrev pub IsNoneOf : List Reference → Reference → Type 0
IsNoneOf [] r = Unit {0}
IsNoneOf (s ∷ stored) r = (s ≢ r) × IsNoneOf stored r

-- Instance i has grown, and but for the cells that are stored each cell that was there holds what it held.
pub record InstanceKept (stored : List Reference) (i : ℕ) (x y : Instance) : Type 0 where
  pub grown : InstanceGrown x y
  pub values : (name : List ℕ) → cell_is_there x.cells name ≡ true → IsNoneOf stored (record { instance = i; name = name }) →
      cell_in y.cells name ≡ cell_in x.cells name

-- A process, which was q, is now r: its critical instance and its task stay.
pub record ProcessGrown (q r : Process) : Type 0 where
  pub critical : r.critical ≡ q.critical
  pub task : r.task ≡ q.task

-- the processes that an action releases, and the woken number that one of them has then, which is process j and was q
pub record Freed : Type 0 where
  pub processes : List ℕ
  pub woken : ℕ → Process → ℕ

-- it is as it was
abbrev pub stays_woken : ℕ → Process → ℕ
stays_woken j q = q.woken

-- of those who wait for no other event either, it is the place of the event at r in their lists
abbrev pub woken_of : Reference → List ℕ → ℕ → Process → ℕ
woken_of r withdrawn j q = if process_is_one_of withdrawn j then woken_by r q else q.woken

abbrev pub nobody : Freed
nobody = record { processes = []; woken = stays_woken }

-- After an action of process p, process j, where it is another one, is as it was; if it is released, it keeps what it has to do, is able, and
-- has that woken number.
pub record ProcessKept (p : ℕ) (those : Freed) (j : ℕ) (q r : Process) : Type 0 where
  pub grown : ProcessGrown q r
  pub freed : j ≢ p → process_is_one_of those.processes j ≡ true → (r.todo ≡ q.todo) × (r.state ≡ able) × (r.woken ≡ those.woken j q)
  pub other : j ≢ p → process_is_one_of those.processes j ≡ false → r ≡ q

-- nothing that was there is lost
pub record Grown (w after : World) : Type 0 where
  pub instances : (i : ℕ) (x : Instance) → numbered w.instances i ≡ Some x →
      (y : Instance) × (numbered after.instances i ≡ Some y) × InstanceGrown x y
  pub processes : (j : ℕ) (q : Process) → numbered w.processes j ≡ Some q →
      (r : Process) × (numbered after.processes j ≡ Some r) × ProcessGrown q r
  pub output : (lines : List (List ℕ)) × (after.output ≡ w.output ++ lines)

-- a world before an action of process p and after it
pub record WorldKept (p : ℕ) (those : Freed) (stored : List Reference) (w after : World) : Type 0 where
  pub instances : (i : ℕ) (x : Instance) → numbered w.instances i ≡ Some x →
      (y : Instance) × (numbered after.instances i ≡ Some y) × InstanceKept stored i x y
  pub processes : (j : ℕ) (q : Process) → numbered w.processes j ≡ Some q →
      (r : Process) × (numbered after.processes j ≡ Some r) × ProcessKept p those j q r
  pub output : (lines : List (List ℕ)) × (after.output ≡ w.output ++ lines)

-- ---- the cells that an action stores

-- the cell, if there is one
abbrev pub if_any : Option Reference → List Reference
if_any None = []
if_any (Some r) = r ∷ []

-- these, if there is no such number
abbrev pub where_none : Option ℕ → List Reference → List Reference
where_none None rs = rs
where_none (Some n) rs = []

-- the cell of an event that changes
abbrev pub changed_cells : Option (EventState → EventState) → Reference → List Reference
changed_cells None r = []
changed_cells (Some change) r = r ∷ []

-- the events of the lists in which these wait
abbrev pub lists_of : List Process → List ℕ → List Reference
lists_of qs [] = []
lists_of qs (p ∷ ps) = list_in (or_no_process (numbered qs p)).state ++ lists_of qs ps

-- what is done with the event at r stores that, where it changes, and all events for which those wait who wait for no other event either
abbrev pub stored_by_release : World → Reference → Deed → List Reference
stored_by_release w r d = changed_cells d.change r ++ lists_of w.processes d.withdraws

module _ (sc : Scopes) (w : World) (p : ℕ) (q : Process) (part : Part) (outer : List Part) where
  abbrev pub cell_of_place : Place → Reference
  cell_of_place (own n) = here sc w p q part outer n
  cell_of_place (there r) = r
  cell_of_place (element_of r ks) = r

  -- the end of a process causes its task's event
  abbrev pub stored_by_end : Option Reference → List Reference
  stored_by_end None = []
  stored_by_end (Some r) = stored_by_release w r (deed (acts act.Cause) p (event_at w r))

  -- .. where this is the process's last part
  abbrev pub task_at_end : List Part → List Reference
  task_at_end [] = stored_by_end q.task
  task_at_end (next ∷ parts) = []

  abbrev pub stored_by_first : EventDeed → List Named → List Reference
  stored_by_first x [] = []
  stored_by_first x (n ∷ ns) =
      stored_by_release w (followed w (here sc w p q part outer n)) (deed x p (event_at w (followed w (here sc w p q part outer n))))

  -- who waits for several events joins those who wait for them, where none has happened
  abbrev pub stored_by_several : ℕ → List Reference → List Reference
  stored_by_several zero rs = where_none (first_happened w rs) rs
  stored_by_several (suc n) rs = []

  abbrev pub stored_by_deed : EventDeed → List Named → List Reference
  stored_by_deed x ns = if is_of_several x then stored_by_several q.woken (all_followed sc w p q part outer ns) else stored_by_first x ns

  -- a store names its variable or array, a deed its events, the end of a process its task
  abbrev pub stored_by : Ask → List Reference
  stored_by (asks.stores x v) = cell_of_place x ∷ []
  stored_by (asks.event_deed x ns) = stored_by_deed x ns
  stored_by (asks.leaves a) = task_at_end outer
  stored_by _ = []

  -- ---- and the woken numbers of those who are released

  abbrev pub woken_by_end : Option Reference → ℕ → Process → ℕ
  woken_by_end None = stays_woken
  woken_by_end (Some r) = woken_of r (deed (acts act.Cause) p (event_at w r)).withdraws

  abbrev pub woken_at_end : List Part → ℕ → Process → ℕ
  woken_at_end [] = woken_by_end q.task
  woken_at_end (next ∷ parts) = stays_woken

  abbrev pub woken_by_first : EventDeed → List Named → ℕ → Process → ℕ
  woken_by_first x [] = stays_woken
  woken_by_first x (n ∷ ns) =
      woken_of (followed w (here sc w p q part outer n)) (deed x p (event_at w (followed w (here sc w p q part outer n)))).withdraws

  abbrev pub woken_by_deed : EventDeed → List Named → ℕ → Process → ℕ
  woken_by_deed x ns = if is_of_several x then stays_woken else woken_by_first x ns

  abbrev pub woken_by_ask : Ask → ℕ → Process → ℕ
  woken_by_ask (asks.event_deed x ns) = woken_by_deed x ns
  woken_by_ask (asks.leaves a) = woken_at_end outer
  woken_by_ask _ = stays_woken

abbrev pub stored_in : Scopes → World → ℕ → Process → List Part → List Reference
stored_in sc w p q [] = []
stored_in sc w p q (part ∷ outer) = stored_by sc w p q part outer (ask part.rest)

abbrev pub woken_in : Scopes → World → ℕ → Process → List Part → ℕ → Process → ℕ
woken_in sc w p q [] = stays_woken
woken_in sc w p q (part ∷ outer) = woken_by_ask sc w p q part outer (ask part.rest)

-- the cells, of those that are there, that the action of process p may change
unfoldable pub stored_cells : Scopes → World → ℕ → List Reference
stored_cells sc w p = stored_in sc w p (process_at w p) (process_at w p).todo

-- whom the action of process p releases
unfoldable pub freed_by : Scopes → World → ℕ → Freed
freed_by sc w p = record { processes = (choice sc w p).released; woken = woken_in sc w p (process_at w p) (process_at w p).todo }

-- the actions that may change a cell that is there
abbrev pub stores : Letter → Bool
stores actions.Store = true
stores actions.ElementStore = true
stores actions.Wait = true
stores actions.Cause = true
stores actions.Reset = true
stores actions.Procure = true
stores actions.Liberate = true
stores actions.WaitAny = true
stores actions.CauseAndReset = true
stores actions.Fix = true
stores actions.End = true
stores _ = false

-- ---- the laws

-- An action of process p leaves all as it is but for its own parts, the processes that it releases, the cells that it stores, and what it
-- adds: instances, processes, cells and lines.
abbrev pub EachActionKeeps : Type 0
EachActionKeeps =
    (sc : Scopes) (w : World) (p : ℕ) → WorldKept p (freed_by sc w p) (stored_cells sc w p) w (choice sc w p).world

-- The letter says whether a cell is stored: an action with another letter leaves every cell that is there as it is.
abbrev pub OnlyStoresStore : Type 0
OnlyStoresStore =
    (sc : Scopes) (w : World) (p : ℕ) → stores (choice sc w p).action ≡ false → WorldKept p (freed_by sc w p) [] w (choice sc w p).world

-- Along a run nothing that was there is lost.
abbrev pub EachRunGrows : Type 0
EachRunGrows = (sc : Scopes) (h : List ℕ) (w after : World) → run_from sc h (Some w) ≡ Some after → Grown w after
