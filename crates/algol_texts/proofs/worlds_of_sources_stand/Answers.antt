-- The law is the lemmas of its names.
use Rattle.algol_texts.proofs.Sources.{worlds_of_accepted_stand, worlds_of_sources_stand as worlds_of_sources_stand_lem}
use Rattle.algol_texts.proofs.worlds_of_sources_stand.Goals as goal

pub returns : goal.returns
returns c = record { sources = worlds_of_sources_stand_lem; accepted = worlds_of_accepted_stand }
