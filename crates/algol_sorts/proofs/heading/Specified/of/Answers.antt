use Rattle.std.proofs.Common.{◌∙◌}
use Rattle.algol_sorts.proofs.Telling.{says_all}
use Rattle.algol_sorts.proofs.heading.Specified.of.Goals as goal

pub returns : goal.returns
returns c =
    says_all (record { sorts = c.in_ok-sorts.sorts; values = c.in_ok-values.values }) c.args.heading.now c.as_slice.result.now c.as_slice-2.result.now (c.as_slice.ensures.value ∙ c.items.ensures)
    (c.as_slice-2.ensures.value ∙ c.items-2.ensures) c.in_ok-sorts.ensures c.in_ok-values.ensures
