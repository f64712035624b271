use Rattle.std.proofs.Common.{[]}
use Rattle.algol_expr.proofs.Chain.{past, rest_of}
use Rattle.algol_expr.proofs.Arms.{started}
use Rattle.b67_list.proofs.Answered.{if_err_left}
use Rattle.algol_part.proofs.Chains.{bringing, failing, refusing_all}
use Rattle.algol_part.proofs.Tails.{brings_listed, refuses_on}
use Rattle.algol_tree.specs.Due as due
use Rattle.algol_tree.specs.Image as image
use Rattle.algol_part.specs.Phrases.{format_in}
use Rattle.algol_tree.specs.DueStmt.{write_due}
use Rattle.algol_part.proofs.line.read_write.Goals as goal

pub returns-in_err-rest-clause-refused : goal.returns-in_err-rest-clause-refused
returns-in_err-rest-clause-refused c = if_err_left _ _ _ c.from_residual.ensures.1 (failing (started write_due [] _) c.in_err-rest.ensures.fails)

pub returns-in_err-file-clause-refused : goal.returns-in_err-file-clause-refused
returns-in_err-file-clause-refused c = if_err_left _ _ _ c.from_residual-in_err-file.ensures.1 (refusing_all _ (past (started write_due [] _) c.in_ok-rest.ensures.passes) c.in_err-file.ensures.refused)

pub returns-clause-found : goal.returns-clause-found
returns-clause-found c = brings_listed c.read_format.result (λ x. due.stmt (image.stmt x.0)) (λ x. x.1.now) (rest_of c.in_ok-rest.ensures.passes.behind c.in_ok-file.ensures.found.behind) format_in (bringing (past (started write_due [] _) c.in_ok-rest.ensures.passes) c.in_ok-file.ensures.found) c.read_format.ensures.found

pub returns-clause-refused : goal.returns-clause-refused
returns-clause-refused c = refuses_on c.read_format.result format_in {ws = []} (bringing (past (started write_due [] _) c.in_ok-rest.ensures.passes) c.in_ok-file.ensures.found) c.read_format.ensures.refused
