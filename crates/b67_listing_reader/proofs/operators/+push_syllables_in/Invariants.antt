use Rattle.b67_listing_reader.proofs.operators.+push_syllables_in.Given as goal

abbrev pub decreases-push_syllables_in : goal.decreases-push_syllables_in
decreases-push_syllables_in l = l.most
