-- A plain operator of a process touches nothing of another's, and the other's operator nothing of its own.
use Rattle.b67_stands.specs.Commuting.{PlainOperatorsCommuteInRuns}
use Rattle.b67_stands.proofs.Steps.{commutes, lives}

pub commute_in_runs : PlainOperatorsCommuteInRuns
commute_in_runs code schedule tails img a p q sound run valid apart is_plain step =
    commutes code p q img a apart valid is_plain step
    (λ r has x touches own. apart (sound.apart schedule tails img run p q x r touches (record { live = lives code img a q step; is = has }) own))
