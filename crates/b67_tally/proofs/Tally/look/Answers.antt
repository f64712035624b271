use Rattle.std.proofs.Common.{◌≡◌, ℕ, ◌+◌, List, ap, ◌∙◌, arith}
use Rattle.b67_tally.proofs.Numbers.{same_number}
use Rattle.b67_tally.proofs.Tally.look.Goals as goal

pub returns-clause-same : goal.returns-clause-same
returns-clause-same c =
    let same : c.args.mark.now.number + 0 ≡ c.args.mark.now.number = omega arith in (
      c.add.ensures.tally
          ∙ ap (λ (ns : List ℕ). record c.args.self.now { numbers = ns }) (same_number c.args.self.now.numbers c.args.mark.now.place c.args.mark.now.number c.add.ensures.found),
      c.add.ensures.mark ∙ ap (λ (n : ℕ). record c.args.mark.now { number = n }) same,
    )
