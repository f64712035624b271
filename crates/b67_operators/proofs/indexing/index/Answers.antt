use Rattle.std.proofs.Common.{subst, ◌<◌, ◌^◌, FitsSigned, unsigned_abs, Ok, arith}
use Rattle.std.specs.Int.{w64}
use Rattle.std.proofs.lemmas.Int.{to_z-of_z, fits_signed_from_abs}
use Rattle.b67_word.specs.Word.{Word}
use Rattle.b67_table.specs.Moves.{replaced}
use Rattle.b67_table.specs.Program.{answer}
use Rattle.b67_reach.specs.Images.{own_of_image}
use Rattle.b67_reach.specs.Answers.{ProgramPerforms}
use Rattle.b67_operators.proofs.Subscripts.{index_stops, index_is_none, index_found}
use Rattle.b67_operators.proofs.indexing.index.Goals as goal

pub returns-in_err-array : goal.returns-in_err-array
returns-in_err-array g c =
    index_stops (own_of_image (g.C.Core.stacks c.args.core.now) (g.C.Core.rows c.args.core.now) c.args.regs.now) c.args.next c.from_residual.result
    c.in_err-array.field-0.0 c.in_err-array.ensures.value c.from_residual.ensures.1

pub returns-in_err-at : goal.returns-in_err-at
returns-in_err-at g c =
    let z = c.in_ok-array.subscript in
    let bound : unsigned_abs z < 2 ^ 63 = omega (arith, c.in_ok-array.ensures.small) in
    let fits : FitsSigned w64 z = fits_signed_from_abs w64 z bound in
    index_is_none (own_of_image (g.C.Core.stacks c.args.core.now) (g.C.Core.rows c.args.core.now) c.args.regs.now) c.args.next c.from_residual-in_err-at.result
    c.in_ok-array.array z _ c.in_err-at.field-0.0 c.in_ok-array.ensures.value (to_z-of_z w64 z fits) c.in_err-at.ensures.value c.from_residual-in_err-at.ensures.1

pub returns : goal.returns
returns g c =
    let r = c.args.regs.now in
    let next = c.args.next in
    let old = own_of_image (g.C.Core.stacks c.args.core.now) (g.C.Core.rows c.args.core.now) r in
    let new = own_of_image (g.C.Core.stacks c.replaced.new.core) (g.C.Core.rows c.replaced.new.core) c.replaced.new.regs in
    let z = c.in_ok-array.subscript in
    let bound : unsigned_abs z < 2 ^ 63 = omega (arith, c.in_ok-array.ensures.small) in
    let fits : FitsSigned w64 z = fits_signed_from_abs w64 z bound in
    index_found old next (Ok tt) new c.in_ok-array.array z _ c.in_ok-at.at c.in_ok-array.ensures.value (to_z-of_z w64 z fits) c.in_ok-at.ensures.value
    (subst (λ (w : Word). ProgramPerforms (answer (replaced r next 2 w)) old new (Ok tt)) c.pack.ensures c.replaced.ensures)
