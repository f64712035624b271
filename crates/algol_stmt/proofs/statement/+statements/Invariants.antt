use Rattle.std.proofs.Common.{◌+◌, ◌*◌, [], ◌∷◌, ◌++◌, length}
use Rattle.algol_tree.specs.Due as due
use Rattle.algol_tree.specs.Image as image
use Rattle.algol_tree.specs.Plain.{no_decls}
use Rattle.algol_part.specs.Phrases.{statements_in}
use Rattle.algol_part.proofs.Loops.{GoesOn}
use Rattle.algol_part.proofs.Begun.{more_stmts}
use Rattle.algol_tree.specs.declared.token.Reserved.TheVariants as reserved
use Rattle.algol_stmt.proofs.statement.+statements.Given as goal

abbrev pub decreases-read_statement : goal.decreases-read_statement
decreases-read_statement l = 16 * length l.tokens.now + 2

abbrev pub decreases-read_opened : goal.decreases-read_opened
decreases-read_opened l = 16 * length l.tokens.now + 14

abbrev pub decreases-read_led : goal.decreases-read_led
decreases-read_led l = 16 * length l.tokens.now + 12

abbrev pub decreases-read_block : goal.decreases-read_block
decreases-read_block l = 16 * length l.tokens.now + 12

abbrev pub decreases-read_repeated : goal.decreases-read_repeated
decreases-read_repeated l = 16 * length l.tokens.now + 12

abbrev pub decreases-read_cases : goal.decreases-read_cases
decreases-read_cases l = 16 * length l.tokens.now + 12

abbrev pub decreases-read_arms : goal.decreases-read_arms
decreases-read_arms l = 16 * length l.tokens.now + 12

abbrev pub decreases-read_statements : goal.decreases-read_statements
decreases-read_statements l = 16 * length l.tokens.now + 4

abbrev pub decreases-read_declarations : goal.decreases-read_declarations
decreases-read_declarations l = 16 * length l.tokens.now + 8

abbrev pub decreases-read_typed : goal.decreases-read_typed
decreases-read_typed l = 16 * length l.tokens.now + 6

abbrev pub decreases-read_procedure : goal.decreases-read_procedure
decreases-read_procedure l = 16 * length l.tokens.now + 4

abbrev pub invariant-read_statements-statements : goal.invariant-read_statements-statements
invariant-read_statements-statements l = GoesOn (statements_in l.depth) [] l.tokens (more_stmts l.depth ++ due.word reserved.End ∷ []) (due.list (image.stmts l.stmts.items)) l.rest

abbrev pub decreases-read_statements-statements : goal.decreases-read_statements-statements
decreases-read_statements-statements l = length l.rest

abbrev pub invariant-read_declarations-declarations : goal.invariant-read_declarations-declarations
invariant-read_declarations-declarations l = GoesOn (due.declarations l.depth ∷ []) (due.declared no_decls ∷ []) l.tokens (due.declarations l.depth ∷ []) (due.declared (image.decls l.decls.items)) l.rest

abbrev pub decreases-read_declarations-declarations : goal.decreases-read_declarations-declarations
decreases-read_declarations-declarations l = length l.rest
