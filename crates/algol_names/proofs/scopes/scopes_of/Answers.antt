use Rattle.std.proofs.Common.{◌∙◌, map, refl}
use Rattle.algol_tree.specs.Blocks.{number_at}
use Rattle.algol_tree.specs.Image.{body}
use Rattle.algol_cells.specs.SeenScope.{block, lows_under, used, uses_by}
use Rattle.algol_names.specs.Found.{in_body}
use Rattle.algol_names.specs.Kept.{kept}
use Rattle.algol_names.proofs.Together.{told_together}
use Rattle.algol_names.proofs.scopes.scopes_of.Goals as goal

pub returns : goal.returns
unfolding uses_by
returns c =
    let p = c.args.p.now in
    let blocks = map block c.in_ok-blocks.blocks.list.items in
    let placed = c.in_ok-placed.placed in
    told_together p c.args.resolved.now c.args.lows.now blocks (in_body (body p.body) 1) (map (used (lows_under placed.1) (number_at blocks)) placed.0.list.items)
    c.requires.are c.requires.order c.requires.bounds c.in_ok-blocks.ensures refl
    (c.in_ok-placed.ensures (number_at blocks) ∙ c.in_ok-found.ensures (kept c.args.lows.now))
