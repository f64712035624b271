-- Runs of a source under a schedule, the legal schedules, and the end of a world.
use Rattle.std.specs.Prelude.{◌≡◌, ℕ, ◌&&◌, ◌||◌, not, if◌then◌else◌, Bool, false, List, [], ◌∷◌, Option, Some, None}
use Rattle.algol_tree.specs.Plain.{PProgram}
use Rattle.b67_num.specs.declared.FaultKind.{FaultKind}
use Rattle.algol_tree.specs.Blocks.{block_numbered}
use Rattle.algol_tree.specs.Scopes.{Scopes, scopes_of}
use Rattle.algol_meaning.specs.Statements.{items_of, settle_items}
use Rattle.algol_meaning.specs.World.{block, Process, able, is_able, lives, WorldFault, World, process_at}
use Rattle.algol_meaning.specs.Instances.{fresh_cells}
use Rattle.algol_meaning.specs.Choice.{choice}

-- ---- the first world: process 1 only at the outer block

unfoldable pub start : Scopes → World
start sc =
    record {
      instances = record { block = 0; parent = 0; process = 1; cells = fresh_cells (block_numbered sc.blocks 0) []; left = false } ∷ [];
      processes =
          record {
            todo = record { instance = 1; purpose = block; rest = settle_items sc (items_of (block_numbered sc.blocks 0)) } ∷ [];
            critical = None;
            task = None;
            state = able;
            woken = 0;
          } ∷ [];
      output = [];
      fault = None;
    }

-- ---- the end of a world

pub data End : Type 0 where
  finished : End
  fault : FaultKind → ℕ → End
  all_waiting : End

abbrev pub some_able : List Process → Bool
some_able [] = false
some_able (q ∷ qs) = is_able q.state || some_able qs

abbrev pub some_lives : List Process → Bool
some_lives [] = false
some_lives (q ∷ qs) = lives q.state || some_lives qs

abbrev pub end_by : Option WorldFault → List Process → Option End
end_by (Some f) processes = Some (fault f.kind f.process)
end_by None processes = if some_lives processes && not (some_able processes) then Some all_waiting else None

-- the first that holds: process 1 has ended; a fault is kept; a process lives and none is able
unfoldable pub end_of : World → Option End
end_of w = if lives ((process_at w 1).state) then end_by w.fault w.processes else Some finished

-- ---- runs

abbrev pub goes_on : Option End → Bool → Bool
goes_on None able_now = able_now
goes_on (Some e) able_now = false

-- the process is able and the world has no end
unfoldable pub may_go : World → ℕ → Bool
may_go w p = goes_on (end_of w) (is_able ((process_at w p).state))

-- the world after one entry of a schedule, where it is legal
unfoldable pub after_entry : Scopes → World → ℕ → Option World
after_entry sc w p = if may_go w p then Some ((choice sc w p).world) else None

abbrev pub run_from : Scopes → List ℕ → Option World → Option World
run_from sc h None = None
run_from sc [] (Some w) = Some w
run_from sc (p ∷ h) (Some w) = run_from sc h (after_entry sc w p)

-- the world after one choice per entry, none where an entry is not able when it comes or follows an end
unfoldable pub run : PProgram → List ℕ → Option World
run tree h = run_from (scopes_of tree) h (Some (start (scopes_of tree)))

-- each entry is able when it comes, and none follows an end
abbrev pub Legal : PProgram → List ℕ → Type 0
Legal tree h = (w : World) × (run tree h ≡ Some w)
