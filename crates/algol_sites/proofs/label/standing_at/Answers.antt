use Rattle.algol_sites.proofs.Stood.{none_stands, some_stands}
use Rattle.algol_sites.proofs.label.standing_at.Goals as goal

pub returns-in-None : goal.returns-in-None
returns-in-None c = λ blocks a s t numbers placed. none_stands c.args.scopes.now a c.args.name.now t c.args.listed c.in-None.ensures

pub returns-in-Some : goal.returns-in-Some
returns-in-Some c = λ blocks a s t numbers placed.
    some_stands c.args.scopes.now a c.args.name.now t c.args.listed blocks c.args.place.now c.is_home.result c.in-Some.declared.now numbers placed c.in-Some.ensures
    c.is_home.ensures
