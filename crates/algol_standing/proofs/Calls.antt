-- What is called: a procedure's name leads to its block, and what is passed on is no event; and with how many events something is done.
use Rattle.std.specs.Prelude.{◌≡◌, List, [], ◌∷◌}
use Rattle.algol_tree.specs.Scopes.{Scopes}
use Rattle.algol_meaning.specs.Value.{Cell, event}
use Rattle.b67_deeds.specs.Events.{EventState}
use Rattle.algol_meaning.specs.Rest.{Given, passed}
use Rattle.algol_meaning.specs.World.{Part}
use Rattle.algol_meaning.specs.Asks as asks
use Rattle.algol_meaning.specs.Asks.{Ask, ask}
use Rattle.algol_calls.specs.Fits.{AreFew, IsCallee}

-- the cell is no event
abbrev pub IsNoEvent : Cell → Type 0
IsNoEvent c = (e : EventState) → c ≡ event e → ⊥

-- no parameter's own cell that is passed on is an event: a parameter that stands for an event has a Reference to that
abbrev pub PassNoEvents : List Given → Type 0
PassNoEvents [] = Unit {0}
PassNoEvents (passed c ∷ gs) = IsNoEvent c × PassNoEvents gs
PassNoEvents (_ ∷ gs) = PassNoEvents gs

abbrev pub CallFits : Scopes → Ask → Type 0
CallFits sc (asks.enters n gs) = IsCallee sc n × PassNoEvents gs
CallFits sc (asks.starts n gs task) = IsCallee sc n × PassNoEvents gs
CallFits sc (asks.event_deed x ns) = AreFew ns
CallFits sc _ = Unit {0}

-- where the innermost part asks for a call
abbrev pub HeadFits : Scopes → List Part → Type 0
HeadFits sc [] = Unit {0}
HeadFits sc (part ∷ outer) = CallFits sc (ask part.rest)
