-- What is still due after the first tokens of a text: a list, the next first. A token decides only how the list goes on.
-- Beside it stand the values that the tokens before have made, the newest first.
-- This is a device of the proofs, one for the whole language: what a text means is said by the grammar only.
use Rattle.std.specs.Prelude.{ℕ, ℤ, List, ◌∷◌, ◌++◌, Bool, true, false, Option, Some, None}
use Rattle.algol_tree.specs.declared.token.Spot.{Spot}
use Rattle.algol_tree.specs.declared.token.Reserved.{Reserved}
use Rattle.algol_tree.specs.declared.token.Symbol.{Symbol}
use Rattle.algol_tree.specs.declared.level.Level.{Level}
use Rattle.algol_tree.specs.declared.tree.Named.{Named}
use Rattle.algol_tree.specs.declared.tree.Kind.{Kind}
use Rattle.algol_tree.specs.declared.tree.EventName.{EventName}
use Rattle.algol_tree.specs.declared.tree.PhraseText.{PhraseText}
use Rattle.algol_tree.specs.declared.tree.Heading.{Heading}
use Rattle.algol_tree.specs.declared.tree.Spec.{Spec}
use Rattle.algol_tree.specs.Plain.{PExpr, PExprs, PPair, PStmt, PStmts, PDecls, PProgram}
use Rattle.algol_tree.specs.Operators.{Part}

pub data Value : Type 0 where
  one : PExpr → Value
  many : PExprs → Value
  event_named : EventName → Value
  event_names : List EventName → Value
  name_is : Named → Value
  names : List Named → Value
  low : ℤ → Value
  lows : List ℤ → Value
  pairs : List PPair → Value
  specified : List Spec → Value
  heading : Heading → Value
  task : Option Named → Value
  place : Spot → Value
  phrases : List PhraseText → Value
  stmt : PStmt → Value
  list : PStmts → Value
  declared : PDecls → Value
  whole_program : PProgram → Value

-- how the newest values are made into one
abbrev pub Make : Type 0
Make = List Value → List Value

-- a value of its own
abbrev pub value_put : Value → Make
value_put v vs = v ∷ vs

pub data Due : Type 0 where
  make : Make → Due  -- nothing is due: the newest values are made into one
  word : Reserved → Due
  symbol : Symbol → Due
  spelled : List ℕ → Due  -- a name that stands as written
  -- of an expression, where so many levels are open
  part : Part → ℕ → Due
  more_of : Level → ℕ → Due  -- { operator operand }
  relation : ℕ → Due  -- [ relop sum ]
  behind_name : Named → ℕ → Due  -- [ "[" expr { "," expr } "]" | "(" expr { "," expr } ")" ]
  exprs_more : ℕ → Due  -- { "," expr }
  opening : Symbol → ℕ → Due  -- a symbol that opens a level
  event : Due
  events_more : Due  -- { "," event }
  behind_event : Named → Due  -- [ "." EXCEPTIONEVENT ]
  whole : ℕ → Due  -- an expression that stands in no other
  whole_ends : Due  -- nothing is due: it is over
  -- of lists and headings
  named : Due
  names_more : Due  -- { "," name }
  printer_part : Due  -- [ "(" KIND "=" PRINTER ")" ]
  files_more : Due  -- { "," file }
  literal : Due
  number_negated : Due
  lows_more : Due  -- [ "," literal ]
  values_part : Due  -- [ VALUE names ";" ]
  spec : Due
  spec_typed : Kind → Due  -- a specification behind its type
  specs_more : Due  -- { spec }
  behind_procedure : Option Kind → Due  -- a heading behind the name, which is the newest value
  -- of statements and declarations, where so many levels are open
  wholes_more : Due  -- { "," expr }
  actuals_part : Due  -- [ "(" expr { "," expr } ")" ]
  items_part : Due  -- [ "," expr { "," expr } ]
  pairs_more : Due  -- [ "," pair ]
  segments_more : Kind → Due  -- { "," segment }
  task_part : Due  -- [ "[" name "]" ]
  to_part : Due  -- [ TO ]
  angle : Due  -- "<", of which the place is kept
  phrase : Due
  phrases_more : Due  -- { "," phrase }
  statement : ℕ → Due
  behind_start : Named → ℕ → Due  -- a statement behind the name that it begins with
  else_part : ℕ → Due  -- [ ELSE statement ]
  stmts_more : ℕ → Due  -- { ";" statement }
  declarations : ℕ → Due  -- { declaration ";" }
  typed : Kind → ℕ → Due  -- a declaration behind its type, with its semicolon
  procedure_body : ℕ → Due  -- ( FORWARD | statement ) ";"
  program : Due

-- which limit a token has to keep
pub data Limit : Type 0 where
  plain : Limit  -- that of the tokens of an expression, where it is of one
  nests : ℕ → Limit  -- the same, and it opens a level where so many are open
  label : ℕ → Spot → Limit  -- the token before it, at that place, opens a level
  begun : Limit → Limit  -- it is the first token of an expression that stands in no other

-- what a token is to the first that is due
pub data Turn : Type 0 where
  takes : Limit → List Due → Turn  -- it is the first of it, and this is due after it
  makes : Make → Turn
  skips : Turn  -- it is not of it, which is optional
  closes : Turn  -- the same, and an expression that stands in no other is over
  refuses : Turn

abbrev pub followed : Turn → List Due → Turn
followed (takes l ds) rest = takes l (ds ++ rest)
followed (makes m) rest = makes m
followed skips rest = skips
followed closes rest = closes
followed refuses rest = refuses

-- it begins an expression that stands in no other
abbrev pub begins : Turn → Turn
begins (takes l ds) = takes (begun l) ds
begins x = x

abbrev pub either : Bool → Turn → Turn → Turn
either true here otherwise = here
either false here otherwise = otherwise

abbrev pub optional : {A : Type 0} → Option A → (A → List Due) → Turn → Turn
optional (Some a) ds otherwise = takes plain (ds a)
optional None ds otherwise = otherwise
