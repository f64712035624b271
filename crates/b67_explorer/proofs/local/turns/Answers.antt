use Rattle.b67_explorer.proofs.Owned.{turns_by}
use Rattle.b67_explorer.proofs.local.turns.Goals as goal

pub returns-in-Ok-Branch-Brun-default-default : goal.returns-in-Ok-Branch-Brun-default-default
returns-in-Ok-Branch-Brun-default-default c = λ back.
    let x = c.in-Ok-Branch-Brun-default-default in
    turns_by c.args.code.now c.args.part.now c.fetch.result x.field-0-0 x.field-0-0-0 x.target x.field-0-1 c.fetch.ensures.value x.is x.field-0-0-is
    x.field-0-0-0-is back
