-- What one action reads.
use Rattle.std.specs.Prelude.{◌≡◌, ℕ, zero, suc, Bool, if◌then◌else◌, List, [], ◌∷◌, Option, map}
use Rattle.algol_tree.specs.declared.tree.Named.{Named}
use Rattle.algol_tree.specs.Scopes.{Scopes}
use Rattle.b67_deeds.specs.Deeds.{EventDeed, is_of_several}
use Rattle.algol_meaning.specs.Value.{Reference}
use Rattle.algol_meaning.specs.World.{Instance, Part, Process, WorldFault, World, cell_at, followed, process_at}
use Rattle.algol_meaning.specs.Arrays.{live_elements}
use Rattle.algol_meaning.specs.Asks as asks
use Rattle.algol_meaning.specs.Asks.{Ask, ask}
use Rattle.b67_deeds.specs.declared.Letter.{Letter}
use Rattle.algol_meaning.specs.Choice.{Choice, here, choice}
use Rattle.algol_laws.specs.Kept.{if_any}

-- ---- worlds but for what their cells hold

-- an instance without its cells
pub record Outline : Type 0 where
  pub block : ℕ
  pub parent : ℕ
  pub process : ℕ
  pub left : Bool

abbrev pub outline : Instance → Outline
outline x = record { block = x.block; parent = x.parent; process = x.process; left = x.left }

-- a world without what its cells hold
pub record Bare : Type 0 where
  pub instances : List Outline
  pub processes : List Process
  pub output : List (List ℕ)
  pub fault : Option WorldFault

abbrev pub bare : World → Bare
bare w = record { instances = map outline w.instances; processes = w.processes; output = w.output; fault = w.fault }

-- what an action comes to, without what cells hold
pub record Told : Type 0 where
  pub action : Letter
  pub released : List ℕ
  pub started : Option ℕ
  pub after : Bare

abbrev pub told_choice : Choice → Told
told_choice c = record { action = c.action; released = c.released; started = c.started; after = bare c.world }

-- the same world, but that its cells hold these
abbrev pub with_cells_of : World → List Instance → World
with_cells_of w instances = record w { instances = instances }

-- ---- the cells that an action reads

module _ (sc : Scopes) (w : World) (p : ℕ) (q : Process) (part : Part) (outer : List Part) where
  -- a cell and, where it is a Reference, the cell that it leads to
  abbrev pub led_to : Reference → List Reference
  led_to r = r ∷ followed w r ∷ []

  -- the end of a process reads the event of its task
  abbrev pub read_by_leaving : List Part → List Reference
  read_by_leaving [] = if_any q.task
  read_by_leaving (next ∷ parts) = []

  abbrev pub read_by_first : List Named → List Reference
  read_by_first [] = []
  read_by_first (n ∷ ns) = led_to (here sc w p q part outer n)

  abbrev pub all_led_to : List Named → List Reference
  all_led_to [] = []
  all_led_to (n ∷ ns) = here sc w p q part outer n ∷ followed w (here sc w p q part outer n) ∷ all_led_to ns

  -- who was released goes on by its woken number, and reads no event
  abbrev pub read_by_several : ℕ → List Named → List Reference
  read_by_several zero ns = all_led_to ns
  read_by_several (suc n) ns = []

  -- a deed reads the event with which it is done, or all of several
  abbrev pub read_by_deed : EventDeed → List Named → List Reference
  read_by_deed x ns = if is_of_several x then read_by_several q.woken ns else read_by_first ns

  abbrev pub read_by : Ask → List Reference
  read_by (asks.reads n) = led_to (here sc w p q part outer n)
  read_by (asks.reads_element n ks v) = led_to (here sc w p q part outer n)
  read_by (asks.indexes n ks v) = led_to (here sc w p q part outer n)
  read_by (asks.passes n) = here sc w p q part outer n ∷ []
  read_by (asks.resolves n) = here sc w p q part outer n ∷ []
  read_by (asks.reads_result name) = record { instance = part.instance; name = name } ∷ []
  read_by (asks.leaves a) = read_by_leaving outer
  read_by (asks.event_deed x ns) = read_by_deed x ns
  read_by _ = []

abbrev pub read_in : Scopes → World → ℕ → Process → List Part → List Reference
read_in sc w p q [] = []
read_in sc w p q (part ∷ outer) = read_by sc w p q part outer (ask part.rest)

-- the cells that the action of process p reads
unfoldable pub read_cells : Scopes → World → ℕ → List Reference
read_cells sc w p = read_in sc w p (process_at w p) (process_at w p).todo

-- these cells hold the same in both
abbrev pub SameCells : World → World → List Reference → Type 0
SameCells w v [] = Unit {0}
SameCells w v (r ∷ rs) = (cell_at v r ≡ cell_at w r) × SameCells w v rs

-- ---- the law

-- What an action of process p comes to depends on no cell but those that it reads, and on how many elements the arrays have that live:
-- where the others hold something else, it is the same action with the same letter, which releases and starts the same, and all after it
-- is the same but for what cells hold.
abbrev pub EachActionReads : Type 0
EachActionReads =
    (sc : Scopes) (w : World) (instances : List Instance) (p : ℕ) → map outline instances ≡ map outline w.instances →
    live_elements instances ≡ live_elements w.instances → SameCells w (with_cells_of w instances) (read_cells sc w p) →
    told_choice (choice sc (with_cells_of w instances) p) ≡ told_choice (choice sc w p)
