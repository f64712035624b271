use Rattle.std.proofs.Common.{◌≡◌, ◌++◌, drop, map}
use Rattle.algol_tree.specs.declared.tree.Named.{Named}
use Rattle.algol_check.proofs.checker.Checker.keep_labels.Given as goal

abbrev pub invariant-labels : goal.invariant-labels
invariant-labels l =
    (l.self.labels.items ++ map (λ (n : Named). n.spot) (drop l.name-index l.names) ≡ l.initial.self.labels.items ++ map (λ (n : Named). n.spot) l.names)
    × (l.self ≡ record l.initial.self { labels = l.self.labels })
