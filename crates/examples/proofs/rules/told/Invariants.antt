use Rattle.examples.proofs.rules.told.Given as goal

abbrev pub ghosts-push_run-N-Named : goal.ghosts-push_run-N-Named
ghosts-push_run-N-Named g a = record { code = a.machine.code; budget = 1000; processors = 1; pick = g.P.Rule.pick a.rule; tally = a.tally.name }

abbrev pub ghosts-push_run-N-Ledger : goal.ghosts-push_run-N-Ledger
ghosts-push_run-N-Ledger g a = record { name = a.acts.name; parts = a.acts.parts }

abbrev pub ghosts-push_run-L-Ledger : goal.ghosts-push_run-L-Ledger
ghosts-push_run-L-Ledger g a = record { name = a.leaves.name; parts = a.leaves.parts }
