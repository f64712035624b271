-- What an action that is told to access a cell, or to do something with an event, is.
use Rattle.std.specs.Prelude.{◌≡◌, ◌⊎◌, ℕ, if◌then◌else◌, Bool, true, false, List, [], ◌∷◌, Option, Some, None}
use Rattle.b67_deeds.specs.declared.Letter.{Letter}
use Rattle.b67_deeds.specs.declared.Letter.TheVariants as letter
use Rattle.algol_tree.specs.Scopes.{Scopes}
use Rattle.algol_meaning.specs.Value.{Reference}
use Rattle.algol_meaning.specs.World.{World}
use Rattle.algol_meaning.specs.Events.{event_at}
use Rattle.algol_meaning.specs.Choice.{choice}
use Rattle.algol_laws.specs.Kept.{stored_cells}
use Rattle.algol_laws.specs.Reading.{read_cells}
use Rattle.b67_race.specs.Entries.{CellName, Signal, nothing, sets, goes_by, frees, takes, Access}
use Rattle.algol_seen.specs.Accesses.{next_access, next_signal}

-- what a cell is, or is an element of
abbrev pub holder : CellName → Reference
holder c = record { instance = c.instance; name = c.name }

abbrev pub IsOneOf : List Reference → Reference → Type 0
IsOneOf [] r = ⊥
IsOneOf (s ∷ rs) r = (s ≡ r) ⊎ IsOneOf rs r

-- ---- accesses

-- the letter of an action that stores or reads, a whole cell or an element
abbrev pub letter_by_access : Bool → Option ℕ → Letter
letter_by_access true None = letter.Store
letter_by_access true (Some n) = letter.ElementStore
letter_by_access false None = letter.Read
letter_by_access false (Some n) = letter.ElementRead

-- The letter says so; a cell that is stored, or whose element is, is the only one that the action may change, and an action that reads changes
-- none; and a cell that is read is one of those on which the action depends.
pub record IsAccess (sc : Scopes) (w : World) (p : ℕ) (a : Access) : Type 0 where
  pub letter : (choice sc w p).action ≡ letter_by_access a.storing a.cell.at
  pub stored : stored_cells sc w p ≡ (if a.storing then holder a.cell ∷ [] else [])
  pub read : a.storing ≡ false → IsOneOf (read_cells sc w p) (holder a.cell)

-- whether an action with this letter reads or stores a whole cell
abbrev pub is_of_whole : Letter → Bool
is_of_whole letter.Read = true
is_of_whole letter.Store = true
is_of_whole _ = false

-- What an action is told to read or store it does; and where it is told to do neither, its letter is not that of a read or a store of a whole
-- cell.
pub record AccessesTell (sc : Scopes) (w : World) (p : ℕ) : Type 0 where
  pub some : (a : Access) → next_access sc w p ≡ Some a → IsAccess sc w p a
  pub none : next_access sc w p ≡ None → is_of_whole (choice sc w p).action ≡ false

-- ---- events

-- what the action with that letter finds of the event, of which it is told to do this with it
abbrev pub IsSignal : World → Letter → Signal → Type 0
IsSignal w l nothing = (l ≡ letter.Cause → ⊥)
IsSignal w l (sets c) = (l ≡ letter.Cause) ⊎ (l ≡ letter.End)
IsSignal w l (goes_by c) = ((l ≡ letter.Wait) ⊎ (l ≡ letter.WaitAny)) × ((event_at w (holder c)).happened ≡ true)
IsSignal w l (frees c) = (l ≡ letter.Liberate) × ((event_at w (holder c)).available ≡ false) × ((event_at w (holder c)).procurers ≡ [])
IsSignal w l (takes c) = ((l ≡ letter.Procure) ⊎ (l ≡ letter.Fix)) × ((event_at w (holder c)).available ≡ true)

-- ---- the laws

abbrev pub EachAccessIsTold : Type 0
EachAccessIsTold = (sc : Scopes) (w : World) (p : ℕ) → AccessesTell sc w p

abbrev pub EachSignalIsTold : Type 0
EachSignalIsTold = (sc : Scopes) (w : World) (p : ℕ) → IsSignal w (choice sc w p).action (next_signal sc w p)
