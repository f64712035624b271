use Rattle.b67_list.proofs.Answered.{on_ok}
use Rattle.algol_frames.proofs.ByLine.{numbers_within, placed_more}
use Rattle.algol_frames.proofs.by_line.ByLine.put.Goals as goal

pub returns-clause-placed : goal.returns-clause-placed
returns-clause-placed c =
    on_ok c.put_at.result (λ h q.
    placed_more c.args.self.now.declared.items c.more.new.declared.items c.args.declared c.args.self.now.lines.items c.put_at.new.lines.items c.args.spot q
    c.in_ok-number.number c.in_ok-number.ensures.items c.in_ok-number.ensures.number (c.requires.declared q) c.requires.none (h q)) c.put_at.ensures

pub returns-clause-declared : goal.returns-clause-declared
returns-clause-declared c =
    on_ok c.put_at.result (λ h q.
    numbers_within c.args.self.now.declared.items c.more.new.declared.items c.args.declared c.args.self.now.lines.items c.put_at.new.lines.items c.args.spot q
    c.in_ok-number.number c.in_ok-number.ensures.items c.in_ok-number.ensures.number (c.requires.declared q) (h q)) c.put_at.ensures
