use Rattle.b67_io.proofs.Listed.{listed}
use Rattle.b67_io.proofs.calls.is_listed.Goals as goal

pub returns : goal.returns
returns c = rw c.is_ok.ensures.value (listed c.args.numbers.now c.args.number c.binary_search.result c.binary_search.ensures.position c.requires)
