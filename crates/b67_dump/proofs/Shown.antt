-- From a walk to what is shown.
use Rattle.std.proofs.Common.{◌≡◌, ap, ◌∙◌, ℕ, List}
use Rattle.algol_tree.specs.Plain.{PProgram}
use Rattle.algol_tree.specs.Scopes.{Scopes, scopes_of}
use Rattle.algol_meaning.specs.World.{World}
use Rattle.algol_meaning.specs.Run.{start}
use Rattle.b67_judge.specs.Judging.{IsFirstIllegal}
use Rattle.b67_judge.specs.Walked.{WalksBeside}
use Rattle.b67_judge.specs.declared.walking.Walked.TheVariants.{Whole, Stopped}
use Rattle.algol_lean.proofs.InUse.{run_is}
use Rattle.b67_dump.specs.Snapshots.{snapshot}
use Rattle.b67_dump.specs.Dumps.{IsShownAfter}
use Rattle.b67_dump.proofs.Lean.{snapshots_lean}

module _ (tree : PProgram) (done : List ℕ) (now : World) where
  pub illegal_so : (number : ℕ) → WalksBeside (scopes_of tree) done (start (scopes_of tree)) now (Stopped number) → IsFirstIllegal tree done number
  illegal_so number t =
      record {
        done = t.walks.done;
        process = t.walks.process;
        left = t.walks.left;
        split = t.walks.split;
        world = t.after;
        legal = run_is tree t.walks.done ∙ t.walks.legal;
        stays = t.walks.stays;
        is = t.walks.is;
      }

  pub shown_so :
      (sc : Scopes) (lines : List (List ℕ)) → sc ≡ scopes_of tree → WalksBeside (scopes_of tree) done (start (scopes_of tree)) now Whole → lines ≡ snapshot sc now
      → IsShownAfter tree done lines
  shown_so sc lines e t shows =
      record {
        world = t.after;
        legal = run_is tree done ∙ t.walks;
        shows = shows ∙ ap (λ (k : Scopes). snapshot k now) e ∙ snapshots_lean (scopes_of tree) t.after now t.beside.lean;
      }
