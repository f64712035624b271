use Rattle.algol_tree.specs.Image.{program}
use Rattle.algol_check.proofs.Entire.{first_found, passed_none, refused_first}
use Rattle.algol_check.proofs.walk.check.Goals as goal

pub returns-clause-refused : goal.returns-clause-refused
returns-clause-refused c = λ spot code h.
    let made = c.new-checker.ensures in
    refused_first (program c.args.tree.now) c.finish.new.self.faults.first c.refusal.result spot code
    (first_found c.args.scopes.now c.args.tree.now.body c.new-checker.result c.body.new.self c.finish.new.self.faults.first c.requires.order c.requires.scopes
    (record {
      block = made.block;
      around = made.around;
      placed = made.placed;
      labels = made.labels;
      standings = made.standings;
      faults = made.faults;
    })
    c.in_ok-body.ensures c.in_ok-finish.ensures)
    c.refusal.ensures h

pub returns-clause-passed : goal.returns-clause-passed
returns-clause-passed c =
    let made = c.new-checker.ensures in
    passed_none (program c.args.tree.now) c.finish.new.self.faults.first c.refusal.result
    (first_found c.args.scopes.now c.args.tree.now.body c.new-checker.result c.body.new.self c.finish.new.self.faults.first c.requires.order c.requires.scopes
    (record {
      block = made.block;
      around = made.around;
      placed = made.placed;
      labels = made.labels;
      standings = made.standings;
      faults = made.faults;
    })
    c.in_ok-body.ensures c.in_ok-finish.ensures)
    c.refusal.ensures
