use Rattle.std.proofs.lemmas.List.{drop_all}
use Rattle.algol_tree.specs.Sites.{sites_in_pairs}
use Rattle.algol_tree.specs.Image.{pairs}
use Rattle.algol_known.specs.declared.known.Seen.TheVariants as seens
use Rattle.algol_scope.proofs.Walking.{follows_bound, bounds_end}
use Rattle.algol_scope.proofs.findings.Findings.bounds.Goals as goal

pub pairs-preserved : goal.pairs-preserved
pairs-preserved c =
    follows_bound c.args.around.now seens.BeforeDeclarations c.args.self.now c.pairs.self c.expr.new.self (sites_in_pairs (pairs c.args.ps.now))
    c.deref-pair-items.result.now c.pairs.pair-index c.pair-item.result c.pairs-test.true c.pair-item.is c.pairs.invariant c.in_ok-expr.ensures

pub returns : goal.returns
returns c =
    bounds_end c.args.around.now seens.BeforeDeclarations c.args.self.now c.pairs.self (sites_in_pairs (pairs c.args.ps.now)) _
    (drop_all c.pairs.pair-index c.deref-pair-items.result.now c.pairs-test.false) c.pairs.invariant
