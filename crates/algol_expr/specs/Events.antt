-- What is due of a list of events.
use Rattle.std.specs.Prelude.{List, [], ◌∷◌}
use Rattle.algol_tree.specs.declared.token.Symbol.TheVariants as symbols
use Rattle.algol_tree.specs.Due.{Due, make, symbol, event, events_more}
use Rattle.algol_tree.specs.DueExpr.{event_added}

-- event { "," event } ")"
abbrev pub events_in : List Due
events_in = event ∷ make event_added ∷ events_more ∷ symbol symbols.CloseRound ∷ []
