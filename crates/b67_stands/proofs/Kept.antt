-- Each call keeps what stands of a plant.
use Rattle.b67_stands.specs.Laws.{CallsKeepStands}
use Rattle.b67_stands.proofs.Firsts.{first_stands}
use Rattle.b67_stands.proofs.Taking.{takes_keep, leaves_keep}
use Rattle.b67_stands.proofs.Landing.{lands_keep}
use Rattle.b67_stands.proofs.Returning.{back_keeps, lands_to}
use Rattle.b67_stands.proofs.Acting.{acts_keep}
use Rattle.b67_stands.proofs.Staying.{runs_keep, runs_go_on}
use Rattle.b67_stands.proofs.Idle.{some_out}

pub calls_keep_stands : CallsKeepStands
calls_keep_stands = record {
  first = first_stands;
  take = λ code budget old new pick me p s. takes_keep code budget old s new pick me p;
  land = lands_keep;
  back = back_keeps;
  act = acts_keep;
  run = runs_keep;
  runs_on = runs_go_on;
  leave = λ code budget old new s. leaves_keep code budget old s new;
  lands_to = lands_to;
  idle = some_out;
}
