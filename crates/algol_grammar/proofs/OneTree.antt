-- Reading tokens as a program comes to one tree.
use Rattle.std.proofs.Common.{◌≡◌, ℕ, List, [], ◌∷◌, sym, subst, ◌∙◌}
use Rattle.algol_tree.specs.declared.token.Token.{Token}
use Rattle.algol_tree.specs.Plain.{PProgram}
use Rattle.algol_tree.specs.Lexes.{Lexes}
use Rattle.algol_tree.specs.Programs.{Reads}
use Rattle.algol_tree.specs.Due.{program, whole_program}
use Rattle.algol_tree.specs.Reading.{to, read}
use Rattle.algol_expr.proofs.Turns.{read_nothing}
use Rattle.algol_lexer.proofs.LexReach.{one_lexing}
use Rattle.algol_grammar.proofs.Complete.{program_read}

pub comes_to : (tokens : List Token) (tree : PProgram) (r : Reads tokens tree) → read 0 tokens (program ∷ []) [] ≡ to (r.last ∷ []) (whole_program tree ∷ [])
comes_to tokens tree r = program_read 0 tokens tree (r.last ∷ []) r.is [] [] ∙ read_nothing 0 (r.last ∷ []) (whole_program tree ∷ [])

pub one_tree : (tokens : List Token) (tree other : PProgram) → Reads tokens tree → Reads tokens other → tree ≡ other
one_tree tokens tree other r s =
    let same : to (r.last ∷ []) (whole_program tree ∷ []) ≡ to (s.last ∷ []) (whole_program other ∷ []) = sym (comes_to tokens tree r) ∙ comes_to tokens other s in cc

pub one_tree_of_text : (bytes : List ℕ) (tokens others : List Token) (tree other : PProgram) → Lexes bytes tokens → Lexes bytes others → Reads tokens tree → Reads others other → tree ≡ other
one_tree_of_text bytes tokens others tree other l m r s = one_tree others tree other (subst (λ (ts : List Token). Reads ts tree) (one_lexing l m) r) s
