-- What holds of everything that a console tells.
use Rattle.std.specs.Prelude.{◌≡◌, ℕ, List, ◌∷◌, ◌++◌}
use Rattle.algol_tree.specs.Plain.{PProgram}
use Rattle.b67_segment.specs.declared.code.Code.{Code}
use Rattle.b67_faithful.specs.Agreement.{Shows, Fits}
use Rattle.b67_faithful.specs.Faithful.{Faithful}
use Rattle.b67_commands.specs.declared.command.Command.{Command}
use Rattle.b67_commands.specs.declared.command.Command.TheVariants.{Go}
use Rattle.b67_console.specs.Telling.{Moment, ConsoleText}

-- A text of a schedule and commands is determined.
abbrev pub ConsolesHaveOneText : Type 0
ConsolesHaveOneText = (tree : PProgram) (code : Code) (h : List ℕ) (commands : List Command) (one other : List ℕ)
    → ConsoleText tree code h commands one → ConsoleText tree code h commands other → one ≡ other

-- After `GO a` the same commands show the same again, whatever commands were given before and between.
abbrev pub TheSameIsShownAgain : Type 0
TheSameIsShownAgain = (tree : PProgram) (code : Code) (h : List ℕ) (a : ℕ) (before shown between : List Command) (text : List ℕ)
    → ConsoleText tree code h (before ++ ((Go a ∷ shown) ++ (between ++ (Go a ∷ shown)))) text
    → (first : List ℕ) × (again : List ℕ) × (middle : List ℕ) × (text ≡ first ++ (again ++ (middle ++ again))) × ConsoleText tree code h before first
    × ConsoleText tree code h (Go a ∷ shown) again

-- What is shown of the source and of the machine is of one history: the image of a moment shows its world and fits it.
abbrev pub MomentsAreOfOneHistory : Type 0
MomentsAreOfOneHistory = (tree : PProgram) (code : Code) (h : List ℕ) (k : ℕ) (m : Moment tree code h k)
    → Faithful tree code → Shows code m.world m.image × Fits tree code m.world m.image
