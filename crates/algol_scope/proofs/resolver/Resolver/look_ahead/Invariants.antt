use Rattle.std.proofs.Common.{◌≡◌, ◌+◌, drop, length}
use Rattle.algol_scope.proofs.Looking.{Backwards}
use Rattle.algol_scope.proofs.resolver.Resolver.look_ahead.Given as goal

abbrev pub invariant-declarations : goal.invariant-declarations
invariant-declarations l =
    record {
      back : Backwards l.fn.self.around.procedures.items l.self.around.procedures.items l.bodies (drop l.at l.ds) l.found.items;
      count : length l.found.items + l.at ≡ length l.ds;
      innermost : l.self.around.innermost ≡ l.fn.self.around.innermost;
      outer : l.self.around.outer ≡ l.fn.self.around.outer;
      findings : l.self.findings ≡ l.fn.self.findings;
      blocks : l.self.blocks ≡ l.fn.self.blocks;
    }
