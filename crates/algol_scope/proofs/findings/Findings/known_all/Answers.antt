use Rattle.std.proofs.Common.{drop}
use Rattle.std.proofs.lemmas.List.{drop_all}
use Rattle.algol_tree.specs.Couples.{known_names}
use Rattle.algol_scope.proofs.Names.{known_item, known_end}
use Rattle.algol_scope.proofs.findings.Findings.known_all.Goals as goal

pub names-preserved : goal.names-preserved
names-preserved c =
    λ a s.
    known_item c.args.self.now c.names.self c.known.new.self (known_names a c.args.ns.now) a c.args.ns.now c.names.n-index c.n-item.result
    c.names-test.true c.n-item.is (c.in_ok-known.ensures.knows a s) (c.names.invariant a s)

pub returns : goal.returns
returns c =
    record {
      knows =
          λ a s.
          known_end c.args.self.now c.names.self (known_names a c.args.ns.now) a (drop c.names.n-index c.args.ns.now)
          (drop_all c.names.n-index c.args.ns.now c.names-test.false) (c.names.invariant a s);
    }
