use Rattle.b67_stops.proofs.Placing.{ToldBefore}
use Rattle.b67_stops.proofs.stopping.tell_here.Given as goal

abbrev pub invariant-commands : goal.invariant-commands
invariant-commands g l = ToldBefore (g.W.Walker.answers l.walker) (g.W.Walker.done l.walker) l.commands l.at l.k l.place l.fn.texts.items l.texts.items
