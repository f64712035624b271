use Rattle.b67_segment.proofs.Among.{StandsIn_spelled, fetched_spelled}
use Rattle.b67_segment.proofs.laws.operators_are_fetched.Goals as goal

pub returns-clause-stands : goal.returns-clause-stands
returns-clause-stands c ps code segment number at level next op there spells s = StandsIn_spelled code number there spells s

pub returns-clause-value : goal.returns-clause-value
returns-clause-value c ps code segment number at level next op there spells s = fetched_spelled code number there spells s
