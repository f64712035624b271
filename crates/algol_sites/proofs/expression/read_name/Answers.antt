use Rattle.std.proofs.Common.{◌∙◌, ap, length, refl}
use Rattle.algol_frames.specs.Answers.{parameters_of}
use Rattle.algol_sites.specs.Seen.{of_procedure, sorts_or, spot_there}
use Rattle.algol_sites.specs.declared.wanted.Wanted.TheVariants as wanted
use Rattle.algol_tree.specs.declared.refusal.Code.TheVariants as codes
use Rattle.algol_sites.proofs.Seen.{read_told, unfit_told}
use Rattle.algol_sites.proofs.expression.read_name.Goals as goal

pub returns : goal.returns
returns c = λ a t.
    read_told c.args.scopes.now a c.args.name.now t (length c.parameters_as-parameters.result.now) c.sort_at-sort.result c.parameters_as-parameters.result.now c.takes_some.result c.args.faults.now.first
    c.note_if.new.faults.first c.note_if-2.new.faults.first c.sort_at-sort.ensures
    (c.parameters_as-parameters.ensures ∙ ap (λ s. of_procedure s (sorts_or (parameters_of c.args.scopes.now (spot_there c.args.scopes.now c.args.name.now.spot)))) c.sort_at-sort.ensures)
    refl c.takes_some.ensures
    (unfit_told c.args.scopes.now a c.args.name.now t wanted.Read codes.WrongType c.sort_at-sort.result c.is_unfit.result c.args.faults.now.first
    c.note_if.new.faults.first c.sort_at-sort.ensures c.is_unfit.ensures c.note_if.ensures)
    c.note_if-2.ensures
