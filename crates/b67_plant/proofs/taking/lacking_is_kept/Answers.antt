use Rattle.b67_plant.proofs.Lacking.{an_act_lacks, acts_lacking, takes_lacking, lands_lacking, leaves_lacking}
use Rattle.b67_plant.proofs.taking.lacking_is_kept.Goals as goal

pub returns : goal.returns
returns g = record {
  lacks = an_act_lacks;
  act = acts_lacking;
  take = takes_lacking;
  land = lands_lacking;
  leave = leaves_lacking;
}
