use Rattle.std.proofs.Common.{Ok, Err}
use Rattle.b67_reach.specs.Images.{own_of_image}
use Rattle.b67_intrinsics.proofs.Cases.{placed_case, no_place, no_chain, select_goes}
use Rattle.b67_intrinsics.proofs.selecting.select.Goals as goal

pub returns-in_err-to : goal.returns-in_err-to
returns-in_err-to g c = λ code next.
    let st = g.C.Core.stacks c.args.core.now in
    let old = own_of_image st (g.C.Core.rows c.args.core.now) c.args.regs.now in
    no_place code next c.args.mark.now old c.from_residual-in_err-to.result c.in_ok-index.index c.in_ok-index.count c.in_ok-index.first c.in_ok-index.ensures.value
    c.in_err-to.field-0.0
    (placed_case st c.in_ok-index.index c.in_ok-index.count c.in_ok-index.first c.case_in.result (Err c.in_err-to.field-0.0) c.in_ok-index.ensures.first c.in_ok-index.ensures.second c.in_ok-index.ensures.third c.case_in.ensures.value (c.in_err-to.ensures st))
    c.from_residual-in_err-to.ensures.1

pub returns-in_err-chained : goal.returns-in_err-chained
returns-in_err-chained g c = λ code next.
    let st = g.C.Core.stacks c.args.core.now in
    let old = own_of_image st (g.C.Core.rows c.args.core.now) c.args.regs.now in
    no_chain code next c.args.mark.now old c.from_residual-in_err-chained.result c.in_ok-index.index c.in_ok-index.count c.in_ok-index.first c.in_ok-index.ensures.value
    c.in_ok-to.to (placed_case st c.in_ok-index.index c.in_ok-index.count c.in_ok-index.first c.case_in.result (Ok c.in_ok-to.to) c.in_ok-index.ensures.first c.in_ok-index.ensures.second c.in_ok-index.ensures.third c.case_in.ensures.value (c.in_ok-to.ensures st))
    c.in_err-chained.field-0.0 c.in_err-chained.ensures.value c.from_residual-in_err-chained.ensures.1

pub returns : goal.returns
returns g c = λ code next.
    let st = g.C.Core.stacks c.args.core.now in
    let old = own_of_image st (g.C.Core.rows c.args.core.now) c.args.regs.now in
    let new = own_of_image (g.C.Core.stacks c.go_to_case.new.core) (g.C.Core.rows c.go_to_case.new.core) c.go_to_case.new.regs in
    select_goes code next c.args.mark.now old c.go_to_case.result c.in_ok-index.index c.in_ok-index.count c.in_ok-index.first c.in_ok-index.ensures.value
    c.in_ok-to.to (placed_case st c.in_ok-index.index c.in_ok-index.count c.in_ok-index.first c.case_in.result (Ok c.in_ok-to.to) c.in_ok-index.ensures.first c.in_ok-index.ensures.second c.in_ok-index.ensures.third c.case_in.ensures.value (c.in_ok-to.ensures st))
    new c.in_ok-chained.field-0 c.in_ok-chained.ensures.value c.go_to_case.ensures
