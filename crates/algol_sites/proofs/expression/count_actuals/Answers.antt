use Rattle.std.proofs.Common.{length, refl}
use Rattle.algol_sites.proofs.Seen.{counted_told}
use Rattle.algol_sites.proofs.expression.count_actuals.Goals as goal

pub returns : goal.returns
returns c = λ a t.
    counted_told c.args.scopes.now a c.args.name.now t c.args.count (length c.parameters_at-parameters.result.now) c.sort_at.result c.parameters_at-parameters.result.now c.takes_others.result
    c.args.faults.now.first c.note_if.new.faults.first c.sort_at.ensures c.parameters_at-parameters.ensures refl c.takes_others.ensures c.note_if.ensures
