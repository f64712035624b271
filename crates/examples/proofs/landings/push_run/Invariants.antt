use Rattle.examples.proofs.landings.push_run.Given as goal

abbrev pub ghosts-push_plant-N-Named : goal.ghosts-push_plant-N-Named
ghosts-push_plant-N-Named g a = record { code = a.machine.code; budget = 1000; processors = 2; pick = λ n takes. 0; tally = a.tally.name }

abbrev pub ghosts-push_plant-N-Ledger : goal.ghosts-push_plant-N-Ledger
ghosts-push_plant-N-Ledger g a = record { name = a.acts.name; parts = a.acts.parts }

abbrev pub ghosts-push_plant-L-Ledger : goal.ghosts-push_plant-L-Ledger
ghosts-push_plant-L-Ledger g a = record { name = a.leaves.name; parts = a.leaves.parts }
