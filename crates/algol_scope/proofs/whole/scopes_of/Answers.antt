use Rattle.std.proofs.Common.{◌<◌, List, length, subst}
use Rattle.algol_frames.specs.declared.found.Block.{Block}
use Rattle.algol_scope.proofs.Scoped.{laid_as}
use Rattle.algol_scope.proofs.whole.scopes_of.Goals as goal

pub scopes_laid-requires : goal.scopes_laid-requires
scopes_laid-requires c = λ q h.
    let P : List Block → Type 0 = λ z. q < length z in
    c.requires q (subst P c.as_slice-blocks.ensures.value h)

pub returns-clause-laid : goal.returns-clause-laid
returns-clause-laid c =
    laid_as c.as_slice-blocks.result.now c.args.found.now.blocks.items c.as_slice-blocks.ensures.value c.args.cells.now c.as_slice-all_cells.result.now
    c.args.found.now.findings.cells.items c.as_slice-all_cells.ensures.value c.as_slice-uses.result.now c.args.found.now.findings.uses.items
    c.as_slice-uses.ensures.value c.in_ok-scopes.scopes c.in_ok-scopes.ensures
