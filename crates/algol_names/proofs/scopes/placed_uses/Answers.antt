use Rattle.std.proofs.Common.{◌∙◌, ap, map, sym}
use Rattle.algol_cells.specs.SeenScope.{lows_under, used}
use Rattle.algol_names.specs.Kept.{kept}
use Rattle.algol_names.proofs.scopes.placed_uses.Goals as goal

pub returns : goal.returns
returns c = λ number.
    let meaning = used (lows_under c.in_ok-bounds.bounds) number in
    ap (map meaning) c.in_ok-uses.ensures ∙ ap (map meaning) (sym c.as_slice.ensures.value) ∙ c.in_ok-bounds.ensures number
    ∙ ap (map (used (kept c.args.lows.now) number)) c.as_slice.ensures.value
