-- What the states that a search keeps say of the source.
use Rattle.std.specs.Prelude.{◌≡◌, ◌⊎◌, ℕ, ◌<◌, ◌≤◌, true, List, [], ◌∷◌, ◌++◌, length, reverse, Some, slice_get}
use Rattle.algol_tree.specs.Plain.{PProgram}
use Rattle.algol_meaning.specs.World.{World}
use Rattle.algol_meaning.specs.Run.{run, end_of, may_go, End}
use Rattle.b67_segment.specs.declared.code.Code.{Code}
use Rattle.b67_store.specs.Store.{stack_limit}
use Rattle.b67_table.specs.Image.{Image}
use Rattle.b67_table.specs.Ending.{image_end}
use Rattle.b67_table.specs.Runs.{TableRun}
use Rattle.b67_faithful.specs.Agreement.{end_as}
use Rattle.b67_faithful.specs.Faithful.{Faithful}
use Rattle.b67_faithful.specs.Weight.{weight}
use Rattle.b67_outcomes.specs.declared.found.Found.{Found}
use Rattle.b67_outcomes.specs.declared.found.Limit.{Limit}
use Rattle.b67_outcomes.specs.Entering.{HistoryLeadsTo}
use Rattle.b67_outcomes.specs.Finding.{History, IsKept, IsStopKept, AreLed, AreStops, AreAll}

-- the image has the output and the end of the world
pub record ImageTells (w : World) (img : Image) : Type 0 where
  pub output : img.output ≡ w.output
  pub ends : end_of w ≡ end_as (image_end img)

-- ---- all of them

-- an image that is kept has the output and the end of the world
pub record IsToldIn (code : Code) (found : Found) (w : World) : Type 0 where
  pub image : Image
  pub is_kept : IsKept code found.steps.items found.states.items image
  pub tells : ImageTells w image

-- it is noted that an entry of the schedule comes to the stack limit, after the entries before it
pub record IsLimitNoted (code : Code) (found : Found) (schedule : List ℕ) : Type 0 where
  pub before : List ℕ
  pub next : ℕ
  pub later : List ℕ
  pub split : schedule ≡ before ++ next ∷ later
  pub image : Image
  pub run : TableRun code before [] image
  pub words : ℕ
  pub noted : IsStopKept code found image.output next words

abbrev pub KeptTellAll : Type 0
KeptTellAll =
    (tree : PProgram) (code : Code) (found : Found) → Faithful tree code → AreAll code found → (schedule : List ℕ) (w : World) (end : End)
    → run tree schedule ≡ Some w → end_of w ≡ Some end → IsToldIn code found w ⊎ IsLimitNoted code found schedule

-- ---- and no other

-- the schedule is legal, and the image has the output and the end of its world
pub record IsLegalTo (tree : PProgram) (schedule : List ℕ) (img : Image) : Type 0 where
  pub world : World
  pub legal : run tree schedule ≡ Some world
  pub tells : ImageTells world img

-- the history of the number, the last entry first, is that of a legal schedule
pub record IsLegalState (tree : PProgram) (code : Code) (found : Found) (number : ℕ) : Type 0 where
  pub history : List ℕ
  pub image : Image
  pub is : History found.steps.items number history
  pub leads : HistoryLeadsTo code history image
  pub legal : IsLegalTo tree (reverse history) image

abbrev pub KeptAreLegal : Type 0
KeptAreLegal =
    (tree : PProgram) (code : Code) (found : Found) → Faithful tree code → AreLed code found.steps.items → (number : ℕ) → number ≤ length found.steps.items
    → IsLegalState tree code found number

-- the process may go on in the source after the state's schedule, and has more open than a stack has room for
pub record IsLegalLimit (tree : PProgram) (code : Code) (found : Found) (l : Limit) : Type 0 where
  pub history : List ℕ
  pub is : History found.steps.items l.state history
  pub world : World
  pub legal : run tree (reverse history) ≡ Some world
  pub goes : may_go world l.process ≡ true
  pub heavy : stack_limit < weight tree world l.process

abbrev pub StopsAreLimits : Type 0
StopsAreLimits =
    (tree : PProgram) (code : Code) (found : Found) → Faithful tree code → AreStops code found.steps.items found.limits.items
    → (k : ℕ) (l : Limit) → slice_get found.limits.items k ≡ Some l → IsLegalLimit tree code found l
