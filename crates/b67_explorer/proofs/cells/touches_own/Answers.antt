use Rattle.std.proofs.Common.{inr, true, false}
use Rattle.b67_explorer.proofs.Touched.{stores_by}
use Rattle.b67_explorer.proofs.cells.touches_own.Goals as goal

pub returns-in-Ok-Plain-Stod-default : goal.returns-in-Ok-Plain-Stod-default
returns-in-Ok-Plain-Stod-default g c = λ t.
    let x = c.in-Ok-Plain-Stod-default in
    inr (stores_by c.args.code.now c.args.machine.now.image c.args.regs.now c.args.part.now false c.fetch.result x.field-0-0 x.field-0-0-0 x.field-0-1 c.fetch.ensures.value x.is x.field-0-0-is
    x.field-0-0-0-is (c.stores.ensures t))

pub returns-in-Ok-Plain-Ston-default : goal.returns-in-Ok-Plain-Ston-default
returns-in-Ok-Plain-Ston-default g c = λ t.
    let x = c.in-Ok-Plain-Ston-default in
    inr (stores_by c.args.code.now c.args.machine.now.image c.args.regs.now c.args.part.now true c.fetch.result x.field-0-0 x.field-0-0-0 x.field-0-1 c.fetch.ensures.value x.is x.field-0-0-is
    x.field-0-0-0-is (c.stores-in-Ok-Plain-Ston-default.ensures t))
