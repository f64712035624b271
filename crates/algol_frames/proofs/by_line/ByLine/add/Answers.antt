use Rattle.std.proofs.Common.{◌≡◌, ◌∙◌, ap, sym, true}
use Rattle.std.specs.Prelude.{is_some, option_copied}
use Rattle.algol_frames.specs.ByLine.{placed_in}
use Rattle.algol_frames.proofs.ByLine.{placed_already}
use Rattle.algol_frames.proofs.by_line.ByLine.add.Goals as goal

pub returns-in-Some-clause-placed : goal.returns-in-Some-clause-placed
returns-in-Some-clause-placed c = λ q.
    let some : is_some (placed_in c.args.self.now c.args.spot) ≡ true = ap is_some (sym c.get.ensures) ∙ ap (λ found. is_some (option_copied found)) c.in-Some.is in
    placed_already c.args.self.now.declared.items c.args.declared c.args.self.now.lines.items c.args.spot q some
