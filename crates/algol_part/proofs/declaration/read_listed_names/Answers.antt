use Rattle.std.proofs.Common.{sym, ◌∙◌}
use Rattle.algol_part.proofs.Tails.{names_brought, names_refused}
use Rattle.algol_part.proofs.declaration.read_listed_names.Goals as goal

pub returns-then-are_files-clause-found : goal.returns-then-are_files-clause-found
returns-then-are_files-clause-found c = names_brought c.read_files.result (sym c.are_files.ensures ∙ c.if-are_files.true) _ (λ x. x.0) (λ x. x.1.now) c.read_files.ensures.found

pub returns-then-are_files-clause-refused : goal.returns-then-are_files-clause-refused
returns-then-are_files-clause-refused c = names_refused c.read_files.result (sym c.are_files.ensures ∙ c.if-are_files.true) _ c.read_files.ensures.refused

pub returns-else-are_files-clause-found : goal.returns-else-are_files-clause-found
returns-else-are_files-clause-found c = names_brought c.read_names.result (sym c.are_files.ensures ∙ c.if-are_files.false) _ (λ x. x.0) (λ x. x.1.now) c.read_names.ensures.found

pub returns-else-are_files-clause-refused : goal.returns-else-are_files-clause-refused
returns-else-are_files-clause-refused c = names_refused c.read_names.result (sym c.are_files.ensures ∙ c.if-are_files.false) _ c.read_names.ensures.refused
