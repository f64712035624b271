use Rattle.b67_ready.specs.Orders.{order_place_of}
use Rattle.b67_plant.proofs.running.run_by_processors.Given as goal

abbrev pub ghosts-run_named-N-Named : goal.ghosts-run_named-N-Named
ghosts-run_named-N-Named g a = record { code = a.machine.code; budget = a.budget; processors = a.processors; pick = order_place_of a.rule; tally = a.tally.name }

abbrev pub ghosts-run_named-N-Ledger : goal.ghosts-run_named-N-Ledger
ghosts-run_named-N-Ledger g a = record { name = a.acts.name; parts = a.acts.parts }

abbrev pub ghosts-run_named-L-Ledger : goal.ghosts-run_named-L-Ledger
ghosts-run_named-L-Ledger g a = record { name = a.leaves.name; parts = a.leaves.parts }
