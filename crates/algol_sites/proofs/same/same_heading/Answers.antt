use Rattle.std.proofs.Common.{◌∙◌}
use Rattle.algol_sites.proofs.Sameness.{all_same, names_as, specs_as}
use Rattle.algol_sites.proofs.same.same_heading.Goals as goal

pub returns : goal.returns
returns c =
    all_same c.args.heading.now c.args.other.now c.same_specs.result c.if-not-same_result.ensures c.if-not-same_name.ensures
    (names_as c.deref.result.now c.deref-2.result.now c.args.heading.now.params c.args.other.now.params (c.deref.ensures.value ∙ c.items.ensures)
    (c.deref-2.ensures.value ∙ c.items-2.ensures) c.if-not-same_names.ensures)
    (names_as c.deref-3.result.now c.deref-4.result.now c.args.heading.now.values c.args.other.now.values (c.deref-3.ensures.value ∙ c.items-3.ensures)
    (c.deref-4.ensures.value ∙ c.items-4.ensures) c.if-not-same_names-2.ensures)
    (specs_as c.same_specs.result c.deref-5.result.now c.deref-6.result.now c.args.heading.now.specs c.args.other.now.specs (c.deref-5.ensures.value ∙ c.items-5.ensures)
    (c.deref-6.ensures.value ∙ c.items-6.ensures) c.same_specs.ensures)
