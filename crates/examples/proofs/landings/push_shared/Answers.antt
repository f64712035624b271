use Rattle.std.proofs.Common.{ℕ, List, sym, subst}
use Rattle.b67_stands.specs.Shared.{Shared, begin}
use Rattle.examples.proofs.landings.push_shared.Goals as goal

pub new-shop-requires-clause-shared : goal.new-shop-requires-clause-shared
new-shop-requires-clause-shared g c =
    subst (λ (acts : List ℕ). Shared g.N.Named.code g.N.Named.budget g.N.Named.pick g.N.Named.processors acts c.args.plant) (sym c.requires.tally.1) (begin c.requires.first)
