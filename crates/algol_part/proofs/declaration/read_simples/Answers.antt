use Rattle.algol_part.proofs.declaration.read_simples.Goals as goal

pub returns-clause-found : goal.returns-clause-found
returns-clause-found c = c.read_declared.ensures.found

pub returns-clause-refused : goal.returns-clause-refused
returns-clause-refused c = c.read_declared.ensures.refused
