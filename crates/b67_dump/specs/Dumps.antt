-- What is shown of a source after the first entries of a schedule, and the text of that.
use Rattle.std.specs.Prelude.{◌≡◌, ℕ, List, take, Some, codes}
use Rattle.algol_tree.specs.Plain.{PProgram}
use Rattle.algol_tree.specs.Scopes.{scopes_of}
use Rattle.algol_meaning.specs.World.{World}
use Rattle.algol_meaning.specs.Run.{run}
use Rattle.b67_report.specs.declared.EndWords.TheVariants as ends
use Rattle.b67_report.specs.Texts.{line_text, lines_text, end_words}
use Rattle.b67_judge.specs.Judging.{IsFirstIllegal}
use Rattle.b67_dump.specs.declared.Answer.{Answer}
use Rattle.b67_dump.specs.declared.Answer.TheVariants.{Shown, Illegal}
use Rattle.b67_dump.specs.Snapshots.{snapshot}

-- These entries are legal, and the lines are what is shown of the world after them.
pub record IsShownAfter (tree : PProgram) (done : List ℕ) (lines : List (List ℕ)) : Type 0 where
  pub world : World
  pub legal : run tree done ≡ Some world
  pub shows : lines ≡ snapshot (scopes_of tree) world

-- after these entries: what is shown, or the first of them that can't be performed
abbrev pub ShownAfter : PProgram → List ℕ → Answer → Type 0
ShownAfter tree done (Shown lines) = IsShownAfter tree done lines
ShownAfter tree done (Illegal entry) = IsFirstIllegal tree done entry

-- The first so many entries that are given are performed, or all where there are fewer; those that come after them are not judged.
abbrev pub Dumps : PProgram → List ℕ → ℕ → Answer → Type 0
Dumps tree given most answer = ShownAfter tree (take most given) answer

-- a line with the number of lines, and the lines; of an entry that can't be performed its number
abbrev pub dump_text : Answer → List ℕ
dump_text (Shown lines) = lines_text (codes "DUMP ") lines
dump_text (Illegal entry) = line_text (end_words (ends.Illegal entry))
