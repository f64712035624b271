-- The commands of a console, and the texts that they are.
use Rattle.std.specs.Prelude.{◌≡◌, ◌≢◌, ◌⊎◌, ℕ, ◌+◌, ◌<◌, ◌≤◌, true, List, [], ◌∷◌, ◌++◌, length, codes, slice_index, Option, Some, None}
use Rattle.std.specs.Fmt.{decimal}
use Rattle.algol_tree.specs.declared.TheConstants.{MOST_NAME_BYTES}
use Rattle.algol_tree.specs.Spelling.{is_name}
use Rattle.b67_commands.specs.declared.command.TheConstants.{MOST_COMMANDS, MOST_NUMBER}
use Rattle.b67_commands.specs.declared.command.Command.{Command}
use Rattle.b67_commands.specs.declared.command.Command.TheVariants.{Go, Store, Show, Stack, Regs}
use Rattle.b67_commands.specs.declared.reading.BadCommands.{BadCommands}
use Rattle.b67_commands.specs.declared.reading.BadCommands.TheVariants.{BadLine, NoMemory}

-- ---- lines

-- after this word all of the line is that number, decimal and without leading zeros
pub record IsNumbered (word line : List ℕ) (n : ℕ) : Type 0 where
  pub line_is : line ≡ word ++ decimal n
  pub greatest : n ≤ MOST_NUMBER

-- after the word STORE all of the line is that name: a letter in capitals, and such letters and digits after it
pub record IsNamed (line name : List ℕ) : Type 0 where
  pub line_is : line ≡ codes "STORE " ++ name
  pub is : is_name name ≡ true
  pub few : length name ≤ MOST_NAME_BYTES

-- the line is that command
abbrev pub IsCommand : List ℕ → Command → Type 0
IsCommand line (Go n) = IsNumbered (codes "GO ") line n
IsCommand line (Store name) = IsNamed line name
IsCommand line Show = line ≡ codes "SHOW"
IsCommand line (Stack p) = IsNumbered (codes "STACK ") line p
IsCommand line (Regs p) = IsNumbered (codes "REGS ") line p

-- the line is that command, or none
abbrev pub IsCommandOrNone : List ℕ → Option Command → Type 0
IsCommandOrNone line (Some command) = IsCommand line command
IsCommandOrNone line None = (command : Command) → IsCommand line command → ⊥

-- ---- texts

-- The first line of a text, without its LF, and what stands after it. The last line may lack its LF.
pub record IsFirstLine (text line rest : List ℕ) : Type 0 where
  pub some : text ≢ []
  pub whole : (k : ℕ) → k < length line → slice_index line k ≢ 10
  pub ends : (text ≡ line ++ 10 ∷ rest) ⊎ ((text ≡ line) × (rest ≡ []))

-- the first lines of a text are these commands, and this stands after them
pub data Begin : List ℕ → List Command → List ℕ → Type 0 where
  none : {text : List ℕ} → Begin text [] text
  next : {text line left rest : List ℕ} {command : Command} {commands : List Command} →
      IsFirstLine text line left → IsCommand line command → Begin left commands rest → Begin text (command ∷ commands) rest

-- all lines of a text are these commands, and they are not too many
pub record AreCommands (text : List ℕ) (commands : List Command) : Type 0 where
  pub begin : Begin text commands []
  pub few : length commands ≤ MOST_COMMANDS

-- the command, after so many others, that the line is; none where they are as many as may be, or where it is no command
abbrev pub MayStandNext : List ℕ → ℕ → Option Command → Type 0
MayStandNext line before (Some command) = (before < MOST_COMMANDS) × IsCommand line command
MayStandNext line before None = (before ≡ MOST_COMMANDS) ⊎ IsCommandOrNone line None

-- the line of that number, from 1, is the first that is no command, or one more than the most
pub record IsBadLine (text : List ℕ) (number : ℕ) : Type 0 where
  pub before : List Command
  pub left : List ℕ
  pub begin : Begin text before left
  pub line : List ℕ
  pub rest : List ℕ
  pub first : IsFirstLine left line rest
  pub is : number ≡ length before + 1
  pub few : length before ≤ MOST_COMMANDS
  pub bad : MayStandNext line (length before) None

abbrev pub CommandsRefuse : List ℕ → BadCommands → Type 0
CommandsRefuse text (BadLine number) = IsBadLine text number
CommandsRefuse text NoMemory = Unit {0}

-- ---- what is said of texts

-- A text whose lines are commands has no bad line, and another one has one that is the first.
abbrev pub TextsHaveOneReading : Type 0
TextsHaveOneReading =
    ((text : List ℕ) (commands : List Command) (line : ℕ) → AreCommands text commands → IsBadLine text line → ⊥)
    × ((text : List ℕ) (one other : ℕ) → IsBadLine text one → IsBadLine text other → one ≡ other)
