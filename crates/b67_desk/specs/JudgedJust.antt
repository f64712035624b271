-- The texts that runs are answered by are judged to be just.
use Rattle.std.specs.Prelude.{◌≡◌, ℕ, List, Some}
use Rattle.algol_tree.specs.Plain.{PProgram}
use Rattle.b67_words.specs.declared.Rule.{Rule}
use Rattle.b67_words.specs.declared.Task.TheVariants.{Judge}
use Rattle.b67_words.specs.declared.Words.TheVariants.{OnSource}
use Rattle.b67_schedule.specs.declared.reading.Given.{Given}
use Rattle.b67_judge.specs.declared.Verdict.TheVariants.{Just}
use Rattle.b67_judge.specs.Texts.{verdict_text}
use Rattle.b67_desk.specs.declared.status.Status.{Status}
use Rattle.b67_desk.specs.declared.status.Status.TheVariants as status
use Rattle.b67_desk.specs.Answers.{Workers, AnswersTree, DeskRuns, Replays}

-- where this text stands beside a source with this tree, `judge` says that it is just, and nothing else
pub record IsJudgedJust (tree : PProgram) (report : List ℕ) : Type 0 where
  pub is : (by : Workers) (input : ℕ) → AnswersTree by (OnSource Judge) (Some report) input tree (verdict_text Just) status.Finished
  pub only : (by : Workers) (input : ℕ) (text : List ℕ) (s : Status) → AnswersTree by (OnSource Judge) (Some report) input tree text s →
      (text ≡ verdict_text Just) × (s ≡ status.Finished)

-- of a run
abbrev pub RunsAreJudgedJust : Type 0
RunsAreJudgedJust =
    (by : Workers) (processors budget : ℕ) (rule : Rule) (tree : PProgram) (text : List ℕ) (s : Status) → DeskRuns by processors budget rule tree text s → IsJudgedJust tree text

-- and of one that follows a schedule
abbrev pub ReplaysAreJudgedJust : Type 0
ReplaysAreJudgedJust =
    (budget : ℕ) (tree : PProgram) (given : Given) (text : List ℕ) (s : Status) → Replays budget tree given text s → IsJudgedJust tree text
