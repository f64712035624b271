-- What the command `outcomes` answers: everything that a source can come to.
use Rattle.std.specs.Prelude.{ℕ, Bool, true, false, List}
use Rattle.algol_tree.specs.Plain.{PProgram}
use Rattle.b67_outcomes_all.specs.Outcomes.{TellsOutcomes}
use Rattle.b67_desk.specs.declared.status.Status.{Status}
use Rattle.b67_desk.specs.declared.status.Status.TheVariants as status

-- the status under which outcomes are told: whether some may be missing
abbrev pub cut_status : Bool → Status
cut_status true = status.Cut
cut_status false = status.Finished

-- `outcomes`: those of the source, of which so many states are kept at most
pub data Explores (most : ℕ) (tree : PProgram) : List ℕ → Status → Type 0 where
  explored : (text : List ℕ) (cut : Bool) → TellsOutcomes tree most text cut → Explores most tree text (cut_status cut)
