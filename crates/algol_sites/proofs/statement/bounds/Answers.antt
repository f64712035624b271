use Rattle.std.proofs.Common.{◌∙◌}
use Rattle.std.proofs.lemmas.List.{drop_all}
use Rattle.algol_sites.proofs.Statements.{bound_split, bound_step, bounds_end}
use Rattle.algol_sites.proofs.statement.bounds.Goals as goal

pub pairs-preserved : goal.pairs-preserved
pairs-preserved c = λ blocks a t.
    let inv = c.pairs.invariant blocks a t in
    let told = bound_split c.args.scopes.now a c.args.pairs.now c.pairs.pair-index c.pair-item.result c.pairs-test.true c.pair-item.is inv.1 in (
      bound_step blocks a c.args.pairs.now c.pairs.pair-index c.pair-item.result c.pairs.faults.first c.typed.new.faults.first c.pairs-test.true c.pair-item.is
          (c.typed.ensures blocks a told.0)
          ∙ inv.0,
      told.1,
    )

pub returns : goal.returns
returns c = λ blocks a t.
    bounds_end blocks a c.args.pairs.now c.pairs.pair-index c.pairs.faults.first _ (drop_all c.pairs.pair-index c.args.pairs.now c.pairs-test.false)
    (c.pairs.invariant blocks a t).0
