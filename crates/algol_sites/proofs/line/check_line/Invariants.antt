use Rattle.std.proofs.Common.{◌≡◌, ◌+◌, ◌<◌, ◌≤◌, ◌^◌, drop}
use Rattle.std.specs.Prelude.{◌||◌}
use Rattle.algol_tree.specs.Phrases.{items_of, columns_of}
use Rattle.algol_sites.specs.Lining.{capped, any_bad}
use Rattle.algol_sites.proofs.line.check_line.Given as goal

abbrev pub invariant-phrases : goal.invariant-phrases
invariant-phrases l =
    ((l.is_bad || any_bad (drop l.text-index l.phrases)) ≡ any_bad l.fn.phrases) ×
    (l.count + items_of (drop l.text-index l.phrases) ≡ items_of l.fn.phrases) × (l.count ≤ l.text-index) ×
    (capped (l.columns + columns_of (drop l.text-index l.phrases)) ≡ capped (columns_of l.fn.phrases)) × (l.columns < 2 ^ 64)
