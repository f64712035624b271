use Rattle.std.proofs.Common.{rules}
use Rattle.b67_commands.proofs.Notes.{decides}
use Rattle.b67_commands.proofs.noting.is_same.Goals as goal

pub returns : goal.returns
returns c = decides c.eq.result c.args.a.now c.args.b.now (search (rules))
