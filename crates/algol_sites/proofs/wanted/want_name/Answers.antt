use Rattle.algol_sites.proofs.Seen.{unfit_told}
use Rattle.algol_sites.proofs.wanted.want_name.Goals as goal

pub returns : goal.returns
returns c = λ a t.
    unfit_told c.args.scopes.now a c.args.name.now t c.args.wanted c.args.code c.sort_at.result c.is_unfit.result c.args.faults.now.first c.note_if.new.faults.first
    c.sort_at.ensures c.is_unfit.ensures c.note_if.ensures
