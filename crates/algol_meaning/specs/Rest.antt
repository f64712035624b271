-- What a part has still to do. A tree of which a part is evaluated has one head, which is where the next action is: there is a
-- constructor for each place that the head can have. Names stay as they stand in the text; the action at the head finds their cells.
use Rattle.std.specs.Prelude.{ℕ, ℤ, List, [], Option}
use Rattle.algol_tree.specs.declared.tree.Op.{Op}
use Rattle.algol_tree.specs.declared.tree.Kind.{Kind}
use Rattle.algol_tree.specs.declared.tree.Named.{Named}
use Rattle.b67_deeds.specs.declared.EventAct.{EventAct}
use Rattle.b67_deeds.specs.declared.EventTest.{EventTest}
use Rattle.algol_tree.specs.declared.tree.PhraseText.{PhraseText}
use Rattle.algol_tree.specs.Plain.{PExpr, PExprs, PPair, PStmt, PStmts, PBody}
use Rattle.b67_num.specs.declared.NumFault.{NumFault}
use Rattle.algol_meaning.specs.Value.{Value, Reference, Cell}
use Rattle.algol_tree.specs.Sorts.{Sort}

-- what can be stored to
pub data Place : Type 0 where
  own : Named → Place  -- a variable that this part names
  there : Reference → Place
  element_of : Reference → List ℕ → Place  -- an element of that array, each subscript counted from its lower bound

-- an actual that is done
pub data Given : Type 0 where
  valued : Value → Given
  passed : Cell → Given  -- the own cell of a parameter
  refers : Named → Given  -- a Reference to what this part names
  names : PExpr → Given  -- a Name

-- an expression, or the actuals of a call, up to the head
mutual
  pub data Hole : Type 0 where
    read : Named → Hole  -- the head is this variable or parameter
    element : Named → List ℕ → Value → Hole  -- the head is the ElementRead with the last subscript
    index : Named → List ℕ → Value → PExpr → PExprs → Hole  -- the head is the Index of a subscript that others follow
    tests : EventTest → List Named → Hole  -- the head asks these events
    broken : Op → Value → Value → NumFault → Hole  -- the head is this operator, which has no result but this fault
    enter : Named → List Given → Hole  -- the head is the Enter of this procedure
    inside : Hole  -- a call, or the evaluation of a name, is in progress
    subscript : Named → List ℕ → Hole → PExprs → Hole  -- the head is in a subscript
    argument : Named → Actuals → Hole  -- .. among the actuals
    left : Op → Hole → PExpr → Hole  -- .. in the first operand
    right : Op → Value → Hole → Hole  -- .. in the second
    negated : Hole → Hole
    inverted : Hole → Hole
    condition : Hole → PExpr → PExpr → Hole

  pub data Actuals : Type 0 where
    pass : List Given → Named → List Sort → PExprs → Actuals  -- the head is the Pass of this parameter
    in_value : List Given → Hole → List Sort → PExprs → Actuals  -- the head is in an actual by value

-- an expression after the silent steps: a value, or what has a head; and actuals
pub data Half : Type 0 where
  val : Value → Half
  busy : Hole → Half

pub data HalfGiven : Type 0 where
  given : List Given → HalfGiven
  wants : Actuals → HalfGiven

-- a left side, or a subscripted actual whose place is asked for, up to the head
pub data Aim : Type 0 where
  resolve : Named → Aim  -- the head is this name parameter
  place_index : Named → List ℕ → Value → PExprs → Aim  -- the head is the Index of a subscript
  inside_place : Aim  -- the evaluation of a name's place is in progress
  place_subscript : Named → List ℕ → Hole → PExprs → Aim  -- the head is in a subscript

pub data HalfPlace : Type 0 where
  at : Place → HalfPlace
  aims : Aim → HalfPlace

-- `FOR control := .. STEP step UNTIL last DO body`, once its control variable is set
pub record Loop : Type 0 where
  pub control : Named
  pub step : PExpr
  pub last : PExpr
  pub body : PStmt

-- what comes after the present statement
pub data Item : Type 0 where
  run : PStmt → Item
  turn : Item
  count : ℤ → PStmt → Item  -- THRU with its number
  check : PStmt → PExpr → Item  -- the test of DO .. UNTIL
  test : Loop → Item  -- the test of FOR
  result : List ℕ → Item  -- the result of a typed procedure of that name
  make_arrays : Kind → List Named → List PPair → Item
  make_event : Named → Item

-- what a part has still to do, up to its head
pub data Rest : Type 0 where
  -- the head is an action of the statement itself
  over : Rest  -- the part's end
  reading : List ℕ → Rest  -- the reading of the result
  giving : Value → Rest  -- the leaving, with this value
  giving_place : Place → Rest  -- .. with this place
  store : Place → Value → List Item → Rest
  select : Value → PStmts → List Item → Rest
  turning : List Item → Rest
  going : Named → Rest
  entering_block : PBody → List Item → Rest
  entering : Named → List Given → List Item → Rest
  starting : Named → List Given → Option Named → List Item → Rest
  acting : EventAct → Named → List Item → Rest
  line : List PhraseText → List Value → List Item → Rest
  arrays : Kind → List Named → List PPair → List Value → List Item → Rest  -- with the upper bounds' values
  event : Named → List Item → Rest
  within : List Item → Rest  -- a block or a call is in progress
  dropping : List Item → Rest  -- a call is in progress whose result is dropped
  -- the head is in an expression
  evaluating : Hole → Rest  -- a name
  locating : Aim → Rest  -- the place of a name
  aiming : Aim → PExpr → List Item → Rest  -- the left side of an assignment
  storing : Place → Hole → List Item → Rest  -- its right side
  choosing : Hole → PStmt → PStmt → List Item → Rest  -- the test of an IF
  looping : Hole → PExpr → PStmt → List Item → Rest  -- .. of a WHILE
  checking : Hole → PStmt → PExpr → List Item → Rest  -- .. of a DO .. UNTIL
  counting : Hole → PStmt → List Item → Rest  -- the number of a THRU
  differing : Hole → Loop → List Item → Rest  -- the difference in the test of a FOR
  stepping : Value → Hole → Loop → List Item → Rest  -- .. the step there
  selecting : Hole → PStmts → List Item → Rest  -- the number of a CASE
  calling : Named → Actuals → List Item → Rest
  preparing : Named → Actuals → Option Named → List Item → Rest  -- the actuals of a PROCESS
  writing : List PhraseText → List Value → Hole → PExprs → List Item → Rest
  bounding : Kind → List Named → List PPair → List Value → Hole → List PPair → List Item → Rest  -- an upper bound; the last list are those after it

-- what the head has when it has acted
pub data Answer : Type 0 where
  done : Answer
  value : Value → Answer
  cell : Cell → Answer
  place : Place → Answer
  entered : Answer  -- a part inside is in progress

abbrev pub cell_of_answer : Answer → Cell → Cell
cell_of_answer (cell c) otherwise = c
cell_of_answer _ otherwise = otherwise

-- the subscripts of an element's place
abbrev pub subscripts_of : Answer → List ℕ
subscripts_of (place (element_of r ks)) = ks
subscripts_of _ = []
