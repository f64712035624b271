use Rattle.b67_ops.proofs.CodeLemmas.{code_of_one, kind_with_code}
use Rattle.b67_ops.proofs.NameLemmas.{name_of_one}
use Rattle.b67_ops.proofs.table.operators_are_told_apart.Goals as goal

pub returns-clause-found : goal.returns-clause-found
returns-clause-found c kind = kind_with_code kind

pub returns-clause-codes : goal.returns-clause-codes
returns-clause-codes c a b h = code_of_one a b h

pub returns-clause-names : goal.returns-clause-names
returns-clause-names c a b h = name_of_one a b h
