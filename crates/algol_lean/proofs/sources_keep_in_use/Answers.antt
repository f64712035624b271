-- The law is the lemmas of these names.
use Rattle.algol_lean.proofs.InUse.{sources_keep_in_use as sources_keep_in_use_lem, accepted_keep_in_use}
use Rattle.algol_lean.proofs.sources_keep_in_use.Goals as goal

pub returns : goal.returns
returns c = record { sources = sources_keep_in_use_lem; accepted = accepted_keep_in_use }
