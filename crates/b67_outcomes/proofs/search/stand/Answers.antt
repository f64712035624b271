use Rattle.std.proofs.Common.{subst, ℕ, Option}
use Rattle.std.specs.Prelude.{IfSome}
use Rattle.b67_outcomes.specs.Finding.{NumberIsAt}
use Rattle.b67_outcomes.proofs.search.stand.Goals as goal

pub returns-then-is_at-clause-at : goal.returns-then-is_at-clause-at
returns-then-is_at-clause-at g c =
    subst (λ (o : Option ℕ). IfSome o (λ n. NumberIsAt (g.W.Walker.code c.args.walker.now) c.args.steps.now n (g.W.Walker.image c.args.walker.now)))
    (c.is_at.ensures c.if-is_at.true) c.requires.there
