-- What the values of the lexer stand for.
use Rattle.algol_tree.specs.Lexes as lexes
use Rattle.algol_lexer.specs.declared.pieces.Mode.{Mode}
use Rattle.algol_lexer.specs.declared.pieces.Mode.TheVariants as modes
use Rattle.algol_lexer.specs.declared.pieces.Front.{Front}
use Rattle.algol_lexer.specs.declared.pieces.Front.TheVariants as fronts

abbrev pub mode_of : Mode → lexes.Mode
mode_of modes.Program = lexes.Program
mode_of modes.Comment = lexes.Comment
mode_of modes.EndRemark = lexes.EndRemark

abbrev pub front_shown : Front → lexes.Front
front_shown (fronts.Piece size kind mode) = lexes.Piece size kind (mode_of mode)
front_shown (fronts.Wrong skipped code) = lexes.Wrong skipped code
