-- Where reading a program begins, and what it comes to.
use Rattle.std.proofs.Common.{◌≡◌, ℕ, List, [], ◌∷◌, ◌∙◌}
use Rattle.algol_tree.specs.declared.token.Token.{Token}
use Rattle.algol_tree.specs.Plain.{PProgram}
use Rattle.algol_tree.specs.Programs.{IsProgram}
use Rattle.algol_tree.specs.Refused.{Programs}
use Rattle.algol_tree.specs.Due.{Value, whole_program, program}
use Rattle.algol_tree.specs.Reading.{to, read}
use Rattle.algol_expr.proofs.Turns.{read_nothing}
use Rattle.algol_grammar.proofs.Complete.{program_read}
use Rattle.algol_grammar.proofs.Meant.{Gives, gives, IsAll, nil, cons}
use Rattle.algol_grammar.proofs.Places.{Place, out}

-- where a program begins
abbrev pub start : Place
start = out (program ∷ [])

pub made_program : (free : ℕ) (from : List Token) (ws : List Value) → IsAll free (program ∷ []) [] from ws [] → Programs free from
made_program free from ws (cons _ _ _ _ _ _ _ _ x (nil _ _)) = of_gives ws [] x
  where
    of_gives : (ws : List Value) (rest : List Token) → Gives (IsProgram free) whole_program from [] ws rest → (tree : PProgram) × IsProgram free from tree rest
    of_gives _ _ (gives tree rest x) = (tree, x)

-- a program is read, whatever its limits
pub program_reads : (free : ℕ) (text : List Token) (x : Programs free text) → read free text (program ∷ []) [] ≡ to [] (whole_program x.0 ∷ [])
program_reads free text x = program_read free text x.0 [] x.1 [] [] ∙ read_nothing free [] (whole_program x.0 ∷ [])
