-- Where a walk over a schedule stands that notes what the entries store.
use Rattle.std.specs.Prelude.{◌≡◌, ℕ, List, ◌++◌, length, Some}
use Rattle.algol_tree.specs.Scopes.{Scopes}
use Rattle.algol_meaning.specs.World.{World}
use Rattle.algol_meaning.specs.Run.{run_from}
use Rattle.algol_lean.specs.Beside.{RunsBeside}
use Rattle.b67_commands.specs.declared.command.Command.{Command}
use Rattle.b67_commands.specs.declared.noting.Note.{Note}
use Rattle.b67_commands.specs.Noting.{notes_of}
use Rattle.b67_storing.specs.Stores.{stored_from}

-- From a world on, so many entries of a schedule were made, and these are left; the world after them may go beside `now`, and what they store
-- under names for which commands look is noted.
pub record StandsNoted (sc : Scopes) (commands : List Command) (w : World) (given : List ℕ) (now : World) (notes : List Note) (count : ℕ) (left : List ℕ) : Type 0 where
  pub done : List ℕ
  pub split : given ≡ done ++ left
  pub world : World
  pub legal : run_from sc done (Some w) ≡ Some world
  pub beside : RunsBeside sc world now
  pub noted : notes ≡ notes_of commands (stored_from sc w done)
  pub counts : count ≡ length done
