-- The law is the lemmas of its names.
use Rattle.algol_texts.proofs.Programs.{texts_of_accepted_fit, texts_of_sources_fit as texts_of_sources_fit_lem}
use Rattle.algol_texts.proofs.texts_of_sources_fit.Goals as goal

pub returns : goal.returns
returns c = record { sources = texts_of_sources_fit_lem; accepted = texts_of_accepted_fit }
