use Rattle.algol_sites.proofs.Seen.{others_told}
use Rattle.algol_sites.proofs.expression.count_subscripts.Goals as goal

pub returns : goal.returns
returns c = λ a t.
    others_told c.args.scopes.now a c.args.name.now t c.args.count c.sort_at.result c.has_others.result c.args.faults.now.first c.note_if.new.faults.first c.sort_at.ensures
    c.has_others.ensures c.note_if.ensures
