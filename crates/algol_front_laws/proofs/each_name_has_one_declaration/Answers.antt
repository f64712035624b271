use Rattle.algol_front_laws.proofs.Sources.{names_have_one, none_twice, uses_are_looked_up}
use Rattle.algol_front_laws.proofs.each_name_has_one_declaration.Goals as goal

pub returns : goal.returns
returns c = record { names = names_have_one; blocks = none_twice; uses = uses_are_looked_up }
