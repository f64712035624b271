-- The law is the lemmas of these names.
use Rattle.algol_lean.proofs.Choices.{goes_alike}
use Rattle.algol_lean.proofs.Doing.{ends_lean, may_lean, done_lean}
use Rattle.algol_lean.proofs.lean_worlds_go_alike.Goals as goal

pub returns : goal.returns
returns c = record { ends = ends_lean; may = may_lean; goes = goes_alike; does = done_lean }
