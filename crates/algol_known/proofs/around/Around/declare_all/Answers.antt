use Rattle.algol_known.proofs.Extending.{names_all, names_back}
use Rattle.algol_known.proofs.around.Around.declare_all.Goals as goal

pub names-preserved : goal.names-preserved
names-preserved c =
    λ sort d stands.
    names_back c.args.self.now c.names.self c.declare.new.self sort d c.args.sort c.args.ns.now c.names.at c.index-ns-at.result
    c.index-ns-at-in-names.result c.bytes.result.now c.entry-entry.result c.names-test.true c.names.auto.at stands c.bytes.ensures c.entry-entry.ensures
    (c.names.invariant sort d stands) c.in_ok-declare.ensures.known c.declare.ensures.outer c.declare.ensures.procedures c.declare.ensures.typed
    c.declare.ensures.before

pub returns : goal.returns
returns c =
    λ sort d stands. names_all c.args.self.now c.names.self sort d c.args.ns.now c.names.at c.names-test.false (c.names.invariant sort d stands)
