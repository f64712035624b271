-- A program that is read from tokens in their order is in that order too.
use Rattle.std.specs.Prelude.{List}
use Rattle.algol_tree.specs.declared.token.Token.{Token}
use Rattle.algol_tree.specs.Plain.{PProgram}
use Rattle.algol_tree.specs.Programs.{Reads}
use Rattle.algol_tree.specs.Ascending.{IsInOrder}
use Rattle.algol_lexer.specs.Order.{AreInOrder}

abbrev pub ProgramsInOrder : Type 0
ProgramsInOrder = (tokens : List Token) (tree : PProgram) → AreInOrder tokens → Reads tokens tree → IsInOrder tree
