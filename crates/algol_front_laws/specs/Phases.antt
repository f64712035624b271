-- Which part of the front end refuses a text. The parts follow one another, and each reads what the one before it made.
use Rattle.std.specs.Prelude.{◌≡◌, ℕ, List, [], Some}
use Rattle.algol_tree.specs.declared.token.Spot.{Spot}
use Rattle.algol_tree.specs.declared.token.Token.{Token}
use Rattle.algol_tree.specs.declared.refusal.Code.{Code}
use Rattle.algol_tree.specs.declared.refusal.Code.TheVariants as codes
use Rattle.algol_tree.specs.declared.refusal.Refusal.{Refusal}
use Rattle.algol_tree.specs.declared.refusal.Refusal.TheVariants.{At, NoMemory}
use Rattle.algol_tree.specs.Plain.{PProgram}
use Rattle.algol_tree.specs.Lexes.{Lexes, TextIsRefused}
use Rattle.algol_tree.specs.Programs.{Reads}
use Rattle.algol_tree.specs.Refused.{RefusedProgram}
use Rattle.algol_tree.specs.Accepted.{scope_faults, check_faults, first_fault}
use Rattle.algol_tree.specs.First.{First}
use Rattle.algol_front.specs.Refusing.{RefusesFirst}

-- the parts, in their order: the text, the grammar, names and limits, and last types, counts, lines and labels
pub data Phase : Type 0 where
  text : Phase
  grammar : Phase
  names : Phase
  checks : Phase

-- the part that has this reason
abbrev pub phase_of : Code → Phase
phase_of codes.BadCharacter = text
phase_of codes.LineTooLong = text
phase_of codes.OpenString = text
phase_of codes.NumberTooWide = text
phase_of codes.NameTooLong = text
phase_of codes.Unexpected = grammar
phase_of codes.TooDeep = grammar
phase_of codes.TextAfterEnd = grammar
phase_of codes.UnknownName = names
phase_of codes.DeclaredTwice = names
phase_of codes.TooManyLevels = names
phase_of codes.TooManyCells = names
phase_of codes.TooManyProcedures = names
phase_of codes.SegmentTooLong = names
phase_of codes.WrongType = checks
phase_of codes.WrongCount = checks
phase_of codes.NotAssignable = checks
phase_of codes.WriteList = checks
phase_of codes.LineTooWide = checks
phase_of codes.BadLabel = checks

-- the text is refused, and the bytes are no tokens
pub record InText (bytes : List ℕ) (spot : Spot) (code : Code) : Type 0 where
  pub refused : TextIsRefused bytes spot code
  pub none : (tokens : List Token) → Lexes bytes tokens → ⊥

-- The bytes are tokens, which the grammar refuses, and which read as no program.
pub record InGrammar (bytes : List ℕ) (spot : Spot) (code : Code) : Type 0 where
  pub tokens : List Token
  pub lexes : Lexes bytes tokens
  pub refused : RefusedProgram tokens (At spot code)
  pub none : (tree : PProgram) → Reads tokens tree → ⊥

-- The bytes are tokens, which read as a program, and this fault is its first by the rules of names and limits.
pub record InNames (bytes : List ℕ) (spot : Spot) (code : Code) : Type 0 where
  pub tokens : List Token
  pub tree : PProgram
  pub lexes : Lexes bytes tokens
  pub reads : Reads tokens tree
  pub refused : first_fault (scope_faults tree) ≡ Some (record { spot = spot; code = code })

-- The bytes are tokens, which read as a program, which breaks no rule of names and limits, and this fault is its first by the rules of
-- types, counts, lines and labels.
pub record InChecks (bytes : List ℕ) (spot : Spot) (code : Code) : Type 0 where
  pub tokens : List Token
  pub tree : PProgram
  pub lexes : Lexes bytes tokens
  pub reads : Reads tokens tree
  pub scoped : scope_faults tree ≡ []
  pub refused : first_fault (check_faults tree) ≡ Some (record { spot = spot; code = code })

-- that part refuses there, for that reason, and those before it pass
abbrev pub RefusedIn : Phase → List ℕ → Spot → Code → Type 0
RefusedIn text bytes spot code = InText bytes spot code
RefusedIn grammar bytes spot code = InGrammar bytes spot code
RefusedIn names bytes spot code = InNames bytes spot code
RefusedIn checks bytes spot code = InChecks bytes spot code

-- A text is refused exactly where the part that the reason tells refuses it.
abbrev pub RefusalsTellTheirPart : Type 0
RefusalsTellTheirPart = (bytes : List ℕ) (spot : Spot) (code : Code) →
    (First bytes spot code → RefusedIn (phase_of code) bytes spot code) × (RefusedIn (phase_of code) bytes spot code → First bytes spot code)

-- Want of memory tells nothing.
abbrev pub TellsPart : List ℕ → Refusal → Type 0
TellsPart bytes (At spot code) = RefusedIn (phase_of code) bytes spot code
TellsPart bytes NoMemory = Unit {0}

abbrev pub AnswersTellTheirPart : Type 0
AnswersTellTheirPart = (bytes : List ℕ) (refusal : Refusal) → RefusesFirst bytes refusal → TellsPart bytes refusal
