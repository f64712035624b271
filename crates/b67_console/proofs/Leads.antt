-- Where the commands lead, by the notes of a walk over the whole schedule.
use Rattle.std.proofs.Common.{◌≡◌, refl, sym, ◌∙◌, subst, ℕ, List, [], Some, append-nil}
use Rattle.algol_tree.specs.Plain.{PProgram}
use Rattle.algol_tree.specs.Scopes.{Scopes, scopes_of}
use Rattle.algol_meaning.specs.World.{World}
use Rattle.algol_meaning.specs.Run.{run, run_from, start}
use Rattle.algol_lean.specs.Beside.{RunsBeside}
use Rattle.algol_lean.proofs.InUse.{run_is}
use Rattle.b67_commands.specs.declared.command.Command.{Command}
use Rattle.b67_commands.specs.declared.noting.Note.{Note}
use Rattle.b67_commands.specs.Positions.{positions}
use Rattle.b67_commands.specs.Noting.{ArePositions}
use Rattle.b67_storing.specs.Stores.{stored_from, stored_by}
use Rattle.b67_storing.specs.Walking.{StandsNoted}
use Rattle.b67_storing.proofs.Standing.{length_stored}

-- the notes are those of all that is stored
pub positions_so :
    (tree : PProgram) (h : List ℕ) (end now v : World) (sc : Scopes) (commands : List Command) (none notes items : List Note) (all : ℕ) (at : List ℕ) → run tree h ≡ Some end → sc ≡ scopes_of tree
    → RunsBeside sc (start (scopes_of tree)) v → none ≡ [] → items ≡ notes
    → ((w end : World) (given : List ℕ) → run_from sc given (Some w) ≡ Some end → StandsNoted sc commands w given v none 0 h → StandsNoted sc commands w given now notes all [])
    → ArePositions commands items all at → at ≡ positions (stored_by tree h) 0 commands
positions_so tree h end now v sc commands none notes items all at legal same beside empty is goes are =
    subst (λ (xs : List ℕ). at ≡ positions (stored_from (scopes_of tree) (start (scopes_of tree)) xs) 0 commands) (sym whole)
    (are (stored_from (scopes_of tree) (start (scopes_of tree)) s.done) (is ∙ s.noted) (s.counts ∙ sym (length_stored (scopes_of tree) (start (scopes_of tree)) s.done)))
  where
    s : StandsNoted (scopes_of tree) commands (start (scopes_of tree)) h now notes all []
    s =
        subst (λ (k : Scopes). StandsNoted k commands (start (scopes_of tree)) h now notes all []) same
        (goes (start (scopes_of tree)) end h
        (subst (λ (k : Scopes). run_from k h (Some (start (scopes_of tree))) ≡ Some end) (sym same) (sym (run_is tree h) ∙ legal))
        (record { done = []; split = refl; world = start (scopes_of tree); legal = refl; beside = beside; noted = empty; counts = refl }))

    whole : h ≡ s.done
    whole = s.split ∙ append-nil s.done
