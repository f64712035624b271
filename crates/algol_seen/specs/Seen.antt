-- What the code tells of an action.
use Rattle.std.specs.Prelude.{◌≡◌, ℕ, true, false, Option, Some, None}
use Rattle.algol_tree.specs.Scopes.{Scopes}
use Rattle.algol_meaning.specs.World.{World}
use Rattle.algol_meaning.specs.Choice.{choice}
use Rattle.algol_meaning.specs.Run.{end_of, may_go}
use Rattle.algol_run.specs.Stepping.{is_kept}
use Rattle.b67_race.specs.Entries as entries
use Rattle.b67_race.specs.Entries.{Done}
use Rattle.b67_race.specs.Cells.{at_of}
use Rattle.algol_seen.specs.Accesses.{done_of}
use Rattle.algol_seen.specs.declared.names.CellName.{CellName}
use Rattle.algol_seen.specs.declared.names.Access.{Access}
use Rattle.algol_seen.specs.declared.names.Signal.{Signal}
use Rattle.algol_seen.specs.declared.names.Signal.TheVariants as signals
use Rattle.algol_seen.specs.declared.seen.Seen.{Seen}

abbrev pub cell_name : CellName → entries.CellName
cell_name c = record { instance = c.instance; name = c.name.now; at = at_of c.element }

abbrev pub access : Option Access → Option entries.Access
access None = None
access (Some a) = Some (record { cell = cell_name a.cell; storing = a.storing })

abbrev pub signal : Signal → entries.Signal
signal signals.Nothing = entries.nothing
signal (signals.Sets c) = entries.sets (cell_name c)
signal (signals.GoesBy c) = entries.goes_by (cell_name c)
signal (signals.Frees c) = entries.frees (cell_name c)
signal (signals.Takes c) = entries.takes (cell_name c)

-- what is told that a process did
abbrev pub told_done : ℕ → Seen → Done
told_done p s = record { process = p; access = access s.access; signal = signal s.signal; released = s.released; started = s.started }

-- What is told of a process that goes: its action, what it did, and whether the world has an end then.
pub record ProcessIsSeen (sc : Scopes) (w : World) (p : ℕ) (after : World) (s : Seen) : Type 0 where
  pub may : may_go w p ≡ true
  pub world : after ≡ (choice sc w p).world
  pub done : told_done p s ≡ done_of sc w p
  pub letter : s.letter ≡ (choice sc w p).action
  pub ended : s.ended ≡ is_kept (end_of after)

-- What is told of a step: nothing exactly where the process may not go, and then the world is as it was.
abbrev pub SeenStep : Scopes → World → ℕ → World → Option Seen → Type 0
SeenStep sc w p after None = (may_go w p ≡ false) × (after ≡ w)
SeenStep sc w p after (Some s) = ProcessIsSeen sc w p after s
