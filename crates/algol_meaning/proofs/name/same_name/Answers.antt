use Rattle.std.proofs.Common.{rules}
use Rattle.algol_meaning.proofs.Naming.{decides_names}
use Rattle.algol_meaning.proofs.name.same_name.Goals as goal

pub returns : goal.returns
returns c = decides_names c.eq.result c.args.a.now c.args.b.now (search (rules))
