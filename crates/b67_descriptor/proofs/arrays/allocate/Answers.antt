use Rattle.b67_descriptor.proofs.Allocating.{refused, tested, made}
use Rattle.b67_descriptor.proofs.arrays.allocate.Goals as goal

pub returns-in-Err-clause-allocated : goal.returns-in-Err-clause-allocated
returns-in-Err-clause-allocated g c = refused c.args.bounds.now (g.C.Core.rows c.args.core.now) c.in-Err.fault c.in-Err.ensures.sizes

pub returns-then-is_held-clause-allocated : goal.returns-then-is_held-clause-allocated
returns-then-is_held-clause-allocated g c =
    made c.args.bounds.now (g.C.Core.rows c.args.core.now) (g.C.Core.rows c.make_array.new.core) c.in-Ok.size c.make_array.result
    (tested c.args.bounds.now (g.C.Core.rows c.args.core.now) c.in-Ok.size c.is_held.result c.in-Ok.ensures.sizes c.is_held.ensures c.if-is_held.true)
    c.make_array.ensures.made c.make_array.ensures.descriptor c.make_array.ensures.fault
