use Rattle.b67_explain.proofs.Lettering.{printed_letters_are_the_sources}
use Rattle.b67_explain.proofs.printed_letters_are_the_sources.Goals as goal

pub returns : goal.returns
returns g = printed_letters_are_the_sources
