use Rattle.b67_asm_text.proofs.ReservedWords.{reserved_is}
use Rattle.b67_asm_text.proofs.name.reserved_words_are_those_of_the_language.Goals as goal

pub returns : goal.returns
returns c = reserved_is
