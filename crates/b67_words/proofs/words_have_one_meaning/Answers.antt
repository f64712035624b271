use Rattle.b67_words.proofs.words_have_one_meaning.Goals as goal
use Rattle.b67_words.proofs.OneMeaning.{one_meaning}

pub returns : goal.returns
returns c = one_meaning
