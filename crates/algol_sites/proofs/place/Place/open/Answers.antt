use Rattle.algol_sites.proofs.Opened.{opens}
use Rattle.algol_sites.proofs.place.Place.open.Goals as goal

pub returns-clause-placed : goal.returns-clause-placed
returns-clause-placed c = λ blocks b a k p f s o n.
    opens blocks b a k c.args.self.now (record { block = c.args.spot; around = c.push.new.self }) c.in_ok-push.ensures.items p f s o n
