use Rattle.std.proofs.Common.{[], refl}
use Rattle.algol_expr.proofs.Chain.{making, done}
use Rattle.algol_part.proofs.Chains.{refuses_here, takes_it, behind_it}
use Rattle.algol_tree.specs.Due.{named}
use Rattle.algol_part.proofs.Firsts.{named_takes, not_end_name, named_refuses}
use Rattle.algol_part.proofs.names.read_name.Goals as goal

pub returns-in_ok-named-in-Some-clause-found : goal.returns-in_ok-named-in-Some-clause-found
returns-in_ok-named-in-Some-clause-found c = done (making (takes_it c.first_of.ensures named _ {ds = []} {us = []} (named_takes c.first_of.ensures _ _ c.in-Some.ensures.some c.in_ok-named-in-Some.ensures.built)) (λ vs. refl)) refl
    (behind_it c.first_of.ensures c.requires.ended (not_end_name _ _ c.in-Some.ensures.some))

pub returns-in-None-clause-refused : goal.returns-in-None-clause-refused
returns-in-None-clause-refused c = refuses_here c.first_of.ensures _ named [] [] _ refl (named_refuses c.first_of.ensures c.in-None.ensures.none) c.unexpected.ensures
