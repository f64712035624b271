use Rattle.b67_commands.proofs.Notes.{notes_lead}
use Rattle.b67_commands.proofs.noting.notes_lead_to_the_next.Goals as goal

pub returns : goal.returns
returns c = notes_lead
