use Rattle.b67_commands.proofs.OneReading.{one_reading}
use Rattle.b67_commands.proofs.texts_have_one_reading.Goals as goal

pub returns : goal.returns
returns c = one_reading
