use Rattle.b67_console.proofs.Alike.{texts_are_one}
use Rattle.b67_console.proofs.consoles_have_one_text.Goals as goal

pub returns : goal.returns
returns c = texts_are_one
