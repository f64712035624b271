use Rattle.std.proofs.Common.{◌∙◌, ap, ◌++◌, map}
use Rattle.algol_tree.specs.Blocks.{number_at}
use Rattle.algol_cells.specs.SeenScope.{used}
use Rattle.algol_scope.specs.Resolved.{declaration_of}
use Rattle.algol_known.proofs.Extending.{same_at}
use Rattle.algol_names.specs.Blocks.{blocks_in}
use Rattle.algol_names.specs.Meant.{use_told}
use Rattle.algol_names.proofs.Using.{uses_step}
use Rattle.algol_names.proofs.uses.uses_of.Goals as goal

pub names-preserved : goal.names-preserved
names-preserved c = λ lows.
    let number = number_at (blocks_in c.args.blocks.now) in
    uses_step (use_told (declaration_of c.args.scopes.now) lows (blocks_in c.args.blocks.now)) c.args.names.now c.names.found-index _ (map (used lows number) c.names.uses.items)
    (map (used lows number) c.push.new.uses.items) c.names-test.true (same_at c.args.names.now c.names.found-index _ _ c.names-test.true)
    (c.in_ok-push.ensures lows number ∙ ap (λ z. map (used lows number) c.names.uses.items ++ z) (c.use_of.ensures lows))
    ∙ c.names.invariant lows
