use Rattle.b67_segment.proofs.Among.{StandsAmong_appended, StandsAmong_kept, StandsAmong_aimed, StandsAmong_branch}
use Rattle.b67_segment.proofs.laws.operators_stand.Goals as goal

pub returns-clause-appended : goal.returns-clause-appended
returns-clause-appended c ps level op = StandsAmong_appended ps level op

pub returns-clause-kept : goal.returns-clause-kept
returns-clause-kept c ps more at level next op s = StandsAmong_kept more s

pub returns-clause-aimed : goal.returns-clause-aimed
returns-clause-aimed c ps at level old target next kind s = StandsAmong_branch target s

pub returns-clause-aside : goal.returns-clause-aside
returns-clause-aside c ps at level branch target next op h s = StandsAmong_aimed branch target h s
