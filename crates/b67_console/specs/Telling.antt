-- What a console tells: of one schedule the cells of the source, and beside them the words of the machine.
use Rattle.std.specs.Prelude.{◌≡◌, ℕ, ◌≤◌, List, [], ◌∷◌, ◌++◌, take, sum, Some, codes}
use Rattle.b67_limits.specs.declared.TheConstants.{MOST_BUDGET}
use Rattle.algol_tree.specs.Plain.{PProgram}
use Rattle.algol_tree.specs.Scopes.{Scopes, scopes_of}
use Rattle.algol_meaning.specs.World.{World}
use Rattle.algol_meaning.specs.Run.{run}
use Rattle.b67_segment.specs.declared.code.Code.{Code}
use Rattle.b67_store.specs.Store.{words_of}
use Rattle.b67_table.specs.Image.{Image}
use Rattle.b67_table.specs.Runs.{TableRun}
use Rattle.b67_report.specs.Texts.{lines_text}
use Rattle.b67_dump.specs.Snapshots.{snapshot}
use Rattle.b67_commands.specs.declared.command.Command.{Command}
use Rattle.b67_commands.specs.declared.command.Command.TheVariants.{Go, Store, Show, Stack, Regs}
use Rattle.b67_commands.specs.Positions.{position_moved}
use Rattle.b67_storing.specs.Stores.{stored_by}
use Rattle.b67_stack_text.specs.Lines.{stack_text, regs_text, at_text}
use Rattle.b67_midway.specs.Telling.{process_text}

-- ---- moments

-- After the first k entries of a schedule: the world of the source, and the image of the machine.
pub record Moment (tree : PProgram) (code : Code) (h : List ℕ) (k : ℕ) : Type 0 where
  pub world : World
  pub legal : run tree (take k h) ≡ Some world
  pub image : Image
  pub ran : TableRun code (take k h) [] image

-- the answer to a command after k entries
abbrev pub answer_text : Scopes → ℕ → World → Image → Command → List ℕ
answer_text sc k w img (Go n) = at_text k
answer_text sc k w img (Store name) = at_text k
answer_text sc k w img Show = lines_text (codes "DUMP ") (snapshot sc w)
answer_text sc k w img (Stack p) = process_text img p (λ r. stack_text p (words_of img.stacks r.stack))
answer_text sc k w img (Regs p) = process_text img p (regs_text p)

-- ---- the whole text

-- a command is answered so where it is given after k entries
pub record IsAnswer (tree : PProgram) (code : Code) (h : List ℕ) (k : ℕ) (command : Command) (text : List ℕ) : Type 0 where
  pub moment : Moment tree code h k
  pub is : text ≡ answer_text (scopes_of tree) k moment.world moment.image command

-- Each command moves the console or lets it stand, and is answered there; the answers stand one after another.
abbrev pub TextFrom : PProgram → Code → List ℕ → ℕ → List Command → List ℕ → Type 0
TextFrom tree code h k [] text = text ≡ []
TextFrom tree code h k (command ∷ commands) text =
    (first : List ℕ) × (rest : List ℕ) × (text ≡ first ++ rest) × IsAnswer tree code h (position_moved (stored_by tree h) k command) command first
    × TextFrom tree code h (position_moved (stored_by tree h) k command) commands rest

-- a console begins before the first entry
abbrev pub ConsoleText : PProgram → Code → List ℕ → List Command → List ℕ → Type 0
ConsoleText tree code h commands text = TextFrom tree code h 0 commands text

-- ---- what a console goes through

-- all these entries can be performed under the operator table, with at most 4,194,304 operators
pub record RunsWhole (code : Code) (h : List ℕ) : Type 0 where
  pub image : Image
  pub run : TableRun code h [] image
  pub few : sum run.counts ≤ MOST_BUDGET
