use Rattle.b67_word.proofs.WordLaws.{setting}
use Rattle.b67_word.proofs.one_field_is_set.Goals as goal

pub returns : goal.returns
returns c = setting
