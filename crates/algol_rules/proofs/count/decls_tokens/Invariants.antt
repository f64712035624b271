use Rattle.std.proofs.Common.{◌≡◌, ◌+◌, ◌-◌, ◌^◌, ◌<◌, min, drop}
use Rattle.algol_tree.specs.Counts as counts
use Rattle.algol_tree.specs.Image.{decls}
use Rattle.algol_rules.proofs.count.decls_tokens.Given as goal

abbrev pub invariant-declarations : goal.invariant-declarations
invariant-declarations l =
    (l.count < 2 ^ 64) × (min (l.count + counts.decls_tokens (decls (drop l.d-index l.ds))) (2 ^ 64 - 1) ≡ min (counts.decls_tokens (decls l.fn.ds)) (2 ^ 64 - 1))
