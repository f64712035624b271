use Rattle.std.proofs.Common.{subst, sym, ℕ, ◌+◌, ◌-◌, set}
use Rattle.b67_machine.specs.Kept.{Counts}
use Rattle.b67_machine.proofs.Raised.{raised_at}
use Rattle.b67_machine.proofs.counting.count.Goals as goal

pub returns-clause-counts : goal.returns-clause-counts
returns-clause-counts c =
    subst (λ (n : ℕ). Counts c.args.counts.now.items c.args.process c.args.operators (set c.args.counts.now.items (c.args.process - 1) (c.index_mut.result.now + n))) (sym c.from.ensures)
    (raised_at c.args.counts.now.items c.args.process c.args.operators c.index_mut.result.now c.requires.least c.requires.most c.index_mut.ensures.value)
